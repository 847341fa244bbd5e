-- What a replay answers and leaves.
use Rattle.std.specs.Prelude.{◌≡◌, ℕ, Bool, not, ◌||◌, List, [], ◌∷◌, length, take, Some, None, Ok, Err, Option, Result, nat_lt}
use Rattle.scale.specs.Semiring.{Semiring}
use Rattle.automaton.specs.Limits.{all_below}
use Rattle.runs.specs.declared.replay.Stop.{Stop}
use Rattle.runs.specs.Stacks.{Point, replayed}
use Rattle.runs.specs.Points.{start}
use Rattle.checker.specs.declared.refusals.Refusal.TheVariants as no
use Rattle.checker.specs.Refusals.{Reason, reason, stop_reason}
use Rattle.checker.specs.Session.{Table}
use Rattle.checker.specs.Checks.{first, left_or, is_open}

-- a replay's refusals before its first entry, in the order in which they are looked for
abbrev pub replay_tests : Table → ℕ → ℕ → List ℕ → ℕ → List (Bool × Reason)
replay_tests t weights p buffer n =
    (not (is_open t.stage), reason no.WrongStage)
    ∷ ((nat_lt weights t.sizes.limit || nat_lt (length buffer) n, reason no.TooShort)
    ∷ ((not (nat_lt p t.sizes.controls), reason no.NoState)
    ∷ ((not (all_below t.sizes.symbols (take n buffer)), reason no.NoSymbol)
    ∷ [])))

abbrev pub replay_refusal : Table → ℕ → ℕ → List ℕ → ℕ → Option Reason
replay_refusal t weights p buffer n = first (replay_tests t weights p buffer n)

-- what a run answers, with a stop told by its reason
abbrev pub stopped : {A : Type 0} → Result A Stop → Result A Reason
stopped (Ok x) = Ok x
stopped (Err e) = Err (stop_reason e)

abbrev pub refused_or_ran : {A : Type 0} → Option Reason → Result A Stop → Result A Reason
refused_or_ran None r = stopped r
refused_or_ran (Some e) r = Err e

-- a replay of numbers from the control p and the stack of n symbols in a buffer answered r and left the buffer so; broken
-- off, it leaves the stack reached
abbrev pub Replayed : {V : Type 0} → Semiring V → Table → List V → List ℕ → ℕ → ℕ → List ℕ → Result (Point V) Reason → List ℕ → Type 0
Replayed s t weights numbers p n before r after =
    let refusal = replay_refusal t (length weights) p before n in
    let all = replayed s t.rules weights 0 numbers (start s p n) before in
    (r ≡ refused_or_ran refusal all.0) × (after ≡ left_or refusal before all.1)
