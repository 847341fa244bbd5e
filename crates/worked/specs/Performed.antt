-- Calls on a session, and what they answer and leave with the smallest number taken first.
use Rattle.std.specs.Prelude.{ℕ, ◌-◌, ◌*◌, Bool, List, [], ◌∷◌, ◌++◌, length, replicate, Some, None, Ok, Err, Option, Result}
use Rattle.scale.specs.Semiring.{Semiring}
use Rattle.runs.specs.Stacks.{Point, replayed}
use Rattle.runs.specs.Points.{start}
use Rattle.checker.specs.Session.{Session}
use Rattle.checker.specs.Checks.{left_or, is_open, final_refusal, rule_refusal, edge_refusal, settle_refusal, question_refusal}
use Rattle.checker.specs.Calls.{marked, in_table, rule_added, changes, edge_added, counted, asked}
use Rattle.checker.specs.Refusals.{Reason}
use Rattle.checker.specs.Replay.{replay_refusal, refused_or_ran}
use Rattle.worked.specs.Smallest.{run, next, is_none}

pub data Call (V : Type 0) : Type 0 where
  rule : (control symbol target : ℕ) (word : List ℕ) (weight : V) → Call V
  edge : (from symbol to : ℕ) (weight : V) → Call V
  final : (state : ℕ) → Call V
  settle : (budget : ℕ) → Call V
  question : (control : ℕ) (word : List ℕ) → Call V
  -- the stack has its bottom first, in a buffer of so many bytes
  replay : (numbers : List ℕ) (control : ℕ) (stack : List ℕ) (room : ℕ) → Call V

-- what a call answered, a weight by its numbers: none has no number
pub data Said : Type 0 where
  refused : (number : ℕ) → Said
  added : (number : ℕ) → Said
  changed : Bool → Said
  done : Said
  report : (steps raises : ℕ) (settled : Bool) → Said
  answer : (weight : List ℕ) (settled : Bool) → Said
  ran : (control length : ℕ) (weight : List ℕ) → Said
  stopped : (number : ℕ) (values : List ℕ) → Said

abbrev unless : Option Reason → Said → Said
unless None said = said
unless (Some e) said = refused e.number

-- a stack at the bottom of a buffer
abbrev buffered : List ℕ → ℕ → List ℕ
buffered stack room = stack ++ replicate (room - length stack) 0

module _ {V : Type 0} (s : Semiring V) (shown : V → List ℕ) where
  abbrev replay_said : Result (Point V) Reason → Said
  replay_said (Ok x) = ran x.control x.length (shown x.weight)
  replay_said (Err e) = stopped e.number e.values

  abbrev performed : Session V → Call V → Said × Session V
  performed c (rule p g p2 w f) =
      let refusal = rule_refusal c p g p2 w in
      (unless refusal (added (length c.table.rules)), left_or refusal c (rule_added c p g p2 w f))
  performed c (edge q g q2 f) =
      let refusal = edge_refusal c q g q2 in
      (unless refusal (changed (changes s c q g q2 f)), left_or refusal c (edge_added s c q g q2 f))
  performed c (final q) =
      let refusal = final_refusal c.table q in
      (unless refusal done, in_table c (left_or refusal c.table (marked c.table q)))
  performed c (settle n) =
      let refusal = settle_refusal c in
      let ran = run s n c 0 0 in
      (unless refusal (report ran.0.steps ran.0.raises ran.0.settled), left_or refusal c (counted ran.1 ran.0.raises))
  performed c (question p w) =
      let refusal = question_refusal (is_open c.table.stage) c (2 * c.table.sizes.states) p w in
      (unless refusal (answer (shown (asked s c p w)) (is_none (next c))), c)
  performed c (replay numbers p stack room) =
      let buffer = buffered stack room in
      let n = length stack in
      let refusal = replay_refusal c.table (length c.weights) p buffer n in
      (replay_said (refused_or_ran refusal (replayed s c.table.rules c.weights 0 numbers (start s p n) buffer).0), c)

  -- what a list of calls answers, each on what the one before left
  abbrev pub said : Session V → List (Call V) → List Said
  said c [] = []
  said c (x ∷ xs) = let step = performed c x in step.0 ∷ said step.1 xs

  abbrev after : Session V → List (Call V) → Session V
  after c [] = c
  after c (x ∷ xs) = after (performed c x).1 xs

  -- a row: what calls answer after a setup
  abbrev pub row : Session V → List (Call V) → List (Call V) → List Said
  row c setup calls = said (after c setup) calls
