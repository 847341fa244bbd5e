-- Settling with the smallest waiting number first.
use Rattle.std.specs.Prelude.{◌≡◌, ℕ, zero, suc, ◌+◌, ◌<◌, ◌≤◌, Bool, true, false, length, Some, None, Option}
use Rattle.scale.specs.Semiring.{Semiring}
use Rattle.worklist.specs.Sets.{Set}
use Rattle.checker.specs.declared.answers.Report.{Report}
use Rattle.checker.specs.Session.{Session}
use Rattle.checker.specs.Calls.{stepped, Ran}

-- the smallest number of a set among the n numbers from k on
abbrev pub smallest : Set → ℕ → ℕ → Option ℕ
smallest s zero k = None
smallest s (suc n) k = elim (s k) [ true ↦ Some k | false ↦ smallest s n (suc k) ]

abbrev pub next : {V : Type 0} → Session V → Option ℕ
next c = smallest c.waiting c.room 0

abbrev pub is_none : {A : Type 0} → Option A → Bool
is_none None = true
is_none (Some x) = false

-- the worklist has room for all that waits and for every rule
pub record HoldsAll {V : Type 0} (c : Session V) : Type 0 where
  pub waiting : (n : ℕ) → c.waiting n ≡ true → n < c.room
  pub rules : length c.table.rules ≤ c.room

module _ {V : Type 0} (s : Semiring V) where
  -- what so many steps at most report, after some steps and raises, and leave
  abbrev pub run : ℕ → Session V → ℕ → ℕ → Report × Session V
  run zero c steps raises = (record { steps = steps; raises = raises; settled = is_none (next c) }, c)
  run (suc n) c steps raises =
      elim (next c) [
        | None ↦ (record { steps = steps; raises = raises; settled = true }, c)
        | Some m ↦ run n (stepped s c m).0 (steps + 1) (raises + (stepped s c m).1)
      ]

  -- that is one of the lists of steps that a settle may make
  abbrev pub MaySettleSo : Type 0
  MaySettleSo = (c : Session V) (budget : ℕ) → HoldsAll c → Ran s c budget (run budget c 0 0).0 (run budget c 0 0).1
