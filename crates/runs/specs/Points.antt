-- The values that a run stands for, and answers joined with a buffer.
use Rattle.std.specs.Prelude.{ℕ, Bool, ◌&&◌, List, length, Ok, Err, Result, nat_le}
use Rattle.scale.specs.Semiring.{Semiring}
use Rattle.runs.specs.declared.replay.Run.{Run}
use Rattle.runs.specs.declared.replay.Stop.{Stop}
use Rattle.runs.specs.Stacks.{Point}

-- where a run begins
abbrev pub start : {V : Type 0} → Semiring V → ℕ → ℕ → Point V
start s p n = record { control = p; length = n; weight = s.one }

-- the point of a run
abbrev pub point : {S V : Type 0} → (S → V) → Run S → Point V
point value x = record { control = x.control; length = x.length; weight = value x.weight }

-- the same of an answer, whatever the errors are
abbrev pub pointed : {S V E : Type 0} → (S → V) → Result (Run S) E → Result (Point V) E
pointed value (Ok x) = Ok (point value x)
pointed value (Err e) = Err e

-- where a run stands that has come to the weight v
abbrev pub standing : {V : Type 0} → ℕ → ℕ → V → Point V
standing p n v = record { control = p; length = n; weight = v }

-- the weight that was answered, joined with the control, the stack's length and the buffer that are left
abbrev pub joined : {S V : Type 0} → (S → V) → Result S Stop → ℕ → ℕ → List ℕ → Result (Point V × List ℕ) Stop
joined value (Ok x) p n buffer = Ok (standing p n (value x), buffer)
joined value (Err e) p n buffer = Err e

-- each rule has a weight, and the buffer holds the stack
abbrev pub can_replay : {X S : Type 0} → List X → List S → List ℕ → ℕ → Bool
can_replay rules weights buffer n = nat_le (length rules) (length weights) && nat_le n (length buffer)
