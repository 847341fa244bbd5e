-- Runs on a stack in a buffer, its bottom at place 0 and its top last.
use Rattle.std.specs.Prelude.{◌≡◌, ℕ, ◌+◌, ◌-◌, Bool, ◌&&◌, List, [], ◌∷◌, reverse, length, take, Some, None, Ok, Err, IsOk, IfOk, ◌↔◌, Option, Result, ◌==◌, nat_lt, slice_index, slice_index_or, slice_set}
use Rattle.std.specs.Bool.{then_some}
use Rattle.scale.specs.Semiring.{Semiring}
use Rattle.automaton.specs.declared.rules.Rule.{Rule}
use Rattle.automaton.specs.declared.rules.Word.{Word}
use Rattle.automaton.specs.declared.rules.Word.TheVariants.{Pop, Swap, Push}
use Rattle.automaton.specs.Pushdown.{Config, at, then, ends, run_weight}
use Rattle.runs.specs.declared.replay.BrokenAt.{BrokenAt}
use Rattle.runs.specs.declared.replay.Stop.{Stop}
use Rattle.runs.specs.declared.replay.Stop.TheVariants.{Misfit, NoRoom}
use Rattle.runs.specs.Bounded.{ends_within}

-- the word, top first, of a stack of n symbols
abbrev pub word_in : List ℕ → ℕ → List ℕ
word_in buffer n = reverse (take n buffer)

-- whether a rule fits the control p and a stack of n symbols
abbrev pub fits_stack : Rule → ℕ → List ℕ → ℕ → Bool
fits_stack r p buffer n = nat_lt 0 n && (r.control == p && r.symbol == slice_index buffer (n - 1))

-- the rule of the number k, if there is one that fits
abbrev pub fitting : List Rule → ℕ → ℕ → List ℕ → ℕ → Option Rule
fitting rules k p buffer n = then (at rules k) (λ r. then_some (fits_stack r p buffer n) r)

-- the stack's length and the buffer after the top was replaced by a word: only the places of its symbols are written;
-- None where the second symbol has no place
abbrev pub replaced : Word → List ℕ → ℕ → Option (ℕ × List ℕ)
replaced Pop buffer n = Some (n - 1, buffer)
replaced (Swap a) buffer n = Some (n, slice_set buffer (n - 1) a)
replaced (Push a b) buffer n = then_some (nat_lt n (length buffer)) (n + 1, slice_set (slice_set buffer (n - 1) b) n a)

-- where a run stands
pub record Point (V : Type 0) : Type 0 where
  pub control : ℕ
  pub length : ℕ
  pub weight : V

-- where a run stands that is broken off at the entry of a place
abbrev pub broken_at : {V : Type 0} → ℕ → Point V → BrokenAt
broken_at place x = record { place = place; control = x.control; length = x.length }

module _ {V : Type 0} (s : Semiring V) (rules : List Rule) (weights : List V) where
  -- what a rule that fits makes of a run, by what its word makes of the stack
  abbrev pub left_by : ℕ → ℕ → Point V → Rule → Option (ℕ × List ℕ) → Result (Point V × List ℕ) Stop
  left_by place k x r None = Err (NoRoom (broken_at place x))
  left_by place k x r (Some y) = Ok (record { control = r.target; length = y.0; weight = s.extend x.weight (slice_index_or weights k s.none) }, y.1)

  -- what the number k makes of a run, by the rule that fits
  abbrev pub entered_by : ℕ → ℕ → Point V → List ℕ → Option Rule → Result (Point V × List ℕ) Stop
  entered_by place k x buffer None = Err (Misfit (broken_at place x))
  entered_by place k x buffer (Some r) = left_by place k x r (replaced r.word buffer x.length)

  -- what the entry of a place, which is the number k, makes of a run and its buffer
  abbrev pub entered : ℕ → ℕ → Point V → List ℕ → Result (Point V × List ℕ) Stop
  entered place k x buffer = entered_by place k x buffer (fitting rules k x.control buffer x.length)

  -- what the entries from a place on make of a run and its buffer; a stop leaves the stack reached
  abbrev pub replayed : ℕ → List ℕ → Point V → List ℕ → Result (Point V) Stop × List ℕ
  replayed place [] x buffer = (Ok x, buffer)
  replayed place (k ∷ ks) x buffer =
      elim (entered place k x buffer) [
        | Err e ↦ (Err e, buffer)
        | Ok y ↦ replayed (place + 1) ks y.0 y.1
      ]

  -- A replay is accepted if and only if each entry names a rule that fits its configuration and the buffer, and the end
  -- and the weight are then those of the run.
  pub record Replays {E : Type 0} (numbers : List ℕ) (p n : ℕ) (before : List ℕ) (answer : Result (Point V) E) (after : List ℕ) : Type 0 where
    pub accepted : IsOk answer ↔ ((end : Config) × (ends_within rules (length before) numbers (record { control = p; word = word_in before n }) ≡ Some end))
    pub run : IfOk answer
        (λ x. (end : Config)
        × (ends rules numbers (record { control = p; word = word_in before n }) ≡ Some end)
        × (end.control ≡ x.control)
        × (end.word ≡ word_in after x.length)
        × (x.weight ≡ run_weight s weights numbers))
    pub length_kept : length after ≡ length before
