-- Why a call was not done.
use Rattle.std.specs.Prelude.{ℕ, List, [], ◌∷◌, Some, None, Ok, Err, Option, Result}
use Rattle.runs.specs.declared.replay.Stop.{Stop}
use Rattle.runs.specs.declared.replay.Stop.TheVariants as stop
use Rattle.checker.specs.declared.refusals.Refusal.{Refusal}
use Rattle.checker.specs.declared.refusals.Refusal.TheVariants.{Sizes, TooShort, SmallWorklist, WrongStage, NoState, NoSymbol, LongWord, IntoControl, Full, Waiting, Misfit, NoRoom}

-- a refusal by its number, with the values that it carries
pub record Reason : Type 0 where
  pub number : ℕ
  pub values : List ℕ

-- a refusal that carries no value
abbrev pub because : ℕ → Reason
because n = record { number = n; values = [] }

abbrev pub reason : Refusal → Reason
reason Sizes = because 1
reason TooShort = because 2
reason SmallWorklist = because 3
reason WrongStage = because 4
reason NoState = because 5
reason NoSymbol = because 6
reason LongWord = because 7
reason IntoControl = because 8
reason Full = because 9
reason Waiting = because 10
reason (Misfit at) = record { number = 11; values = at.place ∷ (at.control ∷ (at.length ∷ [])) }
reason (NoRoom at) = record { number = 12; values = at.place ∷ (at.control ∷ (at.length ∷ [])) }

-- a replay that is not begun or was broken off is refused
abbrev pub stop_reason : Stop → Reason
stop_reason stop.TooShort = reason TooShort
stop_reason (stop.Misfit at) = reason (Misfit at)
stop_reason (stop.NoRoom at) = reason (NoRoom at)

-- what a call answered, with a refusal by its number
abbrev pub told : {A : Type 0} → Result A Refusal → Result A Reason
told (Ok x) = Ok x
told (Err e) = Err (reason e)

-- why a call was not done, if it was not
abbrev pub outcome : {A : Type 0} → Result A Refusal → Option Reason
outcome (Ok x) = None
outcome (Err e) = Some (reason e)
