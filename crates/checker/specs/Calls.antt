-- What an accepted call answers and leaves.
use Rattle.std.specs.Prelude.{◌≡◌, ℕ, ◌+◌, ◌-◌, ◌^◌, ◌≤◌, min, ◌↔◌, Bool, true, false, if◌then◌else◌, List, [], ◌∷◌, ◌++◌, length, drop, replicate, Some, None, IsTrue, Option, nat_lt, slice_index_or, slice_set}
use Rattle.scale.specs.Semiring.{Semiring}
use Rattle.worklist.specs.Sets.{Set, empty, adding, without, union}
use Rattle.automaton.specs.declared.rules.Rule.{Rule}
use Rattle.automaton.specs.declared.sizes.Sizes.{Sizes}
use Rattle.automaton.specs.Pushdown.{word_of, at}
use Rattle.automaton.specs.Automaton.{answer}
use Rattle.automaton.specs.Limits.{edge_count}
use Rattle.automaton.specs.Layout.{edge_at, edge_changes, edge_set, saturated}
use Rattle.checker.specs.declared.answers.Report.{Report}
use Rattle.checker.specs.declared.stages.Stage.{Stage}
use Rattle.checker.specs.declared.stages.Stage.TheVariants.{Editing}
use Rattle.checker.specs.Session.{Table, Session, bare, readers}

abbrev pub marked : Table → ℕ → Table
marked t q = record { stage = t.stage; sizes = t.sizes; rules = t.rules; finals = slice_set t.finals q true; total = t.total }

abbrev pub in_stage : Table → Stage → Table
in_stage t g = record { stage = g; sizes = t.sizes; rules = t.rules; finals = t.finals; total = t.total }

abbrev pub new_rule : ℕ → ℕ → ℕ → List ℕ → Rule
new_rule p g p2 w = record { control = p; symbol = g; target = p2; word = word_of w }

abbrev pub with_rule : Table → Rule → Table
with_rule t r = record { stage = t.stage; sizes = t.sizes; rules = t.rules ++ (r ∷ []); finals = t.finals; total = t.total }

module _ {V : Type 0} where
  abbrev pub in_table : Session V → Table → Session V
  in_table c t = record { table = t; edges = c.edges; weights = c.weights; waiting = c.waiting; room = c.room }

  -- the rule has the number of the rules before it, and waits
  abbrev pub rule_added : Session V → ℕ → ℕ → ℕ → List ℕ → V → Session V
  rule_added c p g p2 w f =
      let n = length c.table.rules in
      record {
        table = with_rule c.table (new_rule p g p2 w);
        edges = c.edges;
        weights = slice_set c.weights n f;
        waiting = adding c.waiting n;
        room = c.room;
      }

  abbrev pub with_waiting : Session V → Set → Session V
  with_waiting c w = record { table = c.table; edges = c.edges; weights = c.weights; waiting = w; room = c.room }

  -- the raises are added to the total, which stops at the largest number of 64 bits
  abbrev pub counted : Session V → ℕ → Session V
  counted c k =
      let t = c.table in
      in_table c (record { stage = t.stage; sizes = t.sizes; rules = t.rules; finals = t.finals; total = min (t.total + k) (2 ^ 64 - 1) })

  abbrev pub is_final : Session V → ℕ → Bool
  is_final c q = slice_index_or c.table.finals q false

module _ {V : Type 0} (s : Semiring V) where
  -- a session that an accepted open has just made
  abbrev pub opened : Sizes → List V → List V → ℕ → Session V
  opened z edges weights room = record {
    table = bare Editing z;
    edges = replicate (edge_count z) s.none ++ drop (edge_count z) edges;
    weights = weights;
    waiting = empty;
    room = room;
  }

  -- whether the weight f changes the edge
  abbrev pub changes : Session V → ℕ → ℕ → ℕ → V → Bool
  changes c q g q2 f = edge_changes s c.table.sizes c.edges q g q2 f

  -- the edge has f combined into it; if that changed it, the rules whose word has its symbol wait
  abbrev pub edge_added : Session V → ℕ → ℕ → ℕ → V → Session V
  edge_added c q g q2 f = record {
    table = c.table;
    edges = edge_set s c.table.sizes c.edges q g q2 f;
    weights = c.weights;
    waiting = if changes c q g q2 f then union c.waiting (readers c.table.rules g) else c.waiting;
    room = c.room;
  }

  -- what the rule of the number n, if there is one, makes of the session, and its raises; with a raise, the rules
  -- whose word has its symbol wait
  abbrev pub looked : Session V → ℕ → Session V × ℕ
  looked c n =
      let t = c.table in
      elim (at t.rules n) [
        | None ↦ (c, 0)
        | Some r ↦
            (let row = saturated s t.sizes r (slice_index_or c.weights n s.none) c.edges t.sizes.states in (
              record {
                table = t;
                edges = row.0;
                weights = c.weights;
                waiting = if nat_lt 0 row.1 then union c.waiting (readers t.rules r.symbol) else c.waiting;
                room = c.room;
              },
              row.1,
            ))
      ]

  -- one step: what it leaves after the number n was taken, and its raises
  abbrev pub stepped : Session V → ℕ → Session V × ℕ
  stepped c n = looked (with_waiting c (without c.waiting (Some n))) n

  -- a number was taken while it waited and its step made, with k raises; or none waited
  abbrev pub OneStep : Session V → Option ℕ → Session V → Type 0
  OneStep c None d = (c.waiting ≡ empty) × (d ≡ c)
  OneStep c (Some k) d = (n : ℕ) × (c.waiting n ≡ true) × (d ≡ (stepped c n).0) × (k ≡ (stepped c n).1)

  -- the numbers ns were taken, each while it waited, and their steps made, with k raises in all
  pub data Steps : Session V → List ℕ → Session V → ℕ → Type 0 where
    done : {c : Session V} → Steps c [] c 0
    next : {c d : Session V} {n k : ℕ} {ns : List ℕ} → c.waiting n ≡ true → Steps (stepped c n).0 ns d k → Steps c (n ∷ ns) d ((stepped c n).1 + k)

  -- some list of steps was made on the session c, to the end of the worklist or of the budget, and left d
  pub record Ran (c : Session V) (budget : ℕ) (r : Report) (d : Session V) : Type 0 where
    pub taken : List ℕ
    pub made : Steps c taken d r.raises
    pub steps : r.steps ≡ length taken
    pub within : r.steps ≤ budget
    pub settled : IsTrue r.settled ↔ (d.waiting ≡ empty)
    pub spent : r.settled ≡ false → r.steps ≡ budget

  -- the combine of the weights, as they stand, of all paths from p that read w and end in a final state
  abbrev pub asked : Session V → ℕ → List ℕ → V
  asked c p w = answer s (edge_at s c.table.sizes c.edges) c.table.sizes.states (is_final c) p w
