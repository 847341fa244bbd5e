-- When a call is refused, and what then.
use Rattle.std.specs.Prelude.{ℕ, ◌*◌, ◌≤◌, Bool, true, false, if◌then◌else◌, not, ◌&&◌, ◌||◌, List, [], ◌∷◌, length, Some, None, Ok, Err, Option, Result, nat_le, nat_lt}
use Rattle.automaton.specs.declared.sizes.Sizes.{Sizes}
use Rattle.automaton.specs.Limits.{sizes_allowed, edge_count, all_below}
use Rattle.checker.specs.declared.stages.Stage.{Stage}
use Rattle.checker.specs.declared.stages.Stage.TheVariants.{Blank, Editing, Released}
use Rattle.checker.specs.declared.refusals.Refusal.TheVariants as no
use Rattle.checker.specs.Refusals.{Reason, reason}
use Rattle.checker.specs.Session.{Table, Session}

-- the first reason whose test holds
abbrev pub first : List (Bool × Reason) → Option Reason
first [] = None
first (t ∷ ts) = if t.0 then Some t.1 else first ts

abbrev pub refused_or : {A : Type 0} → Option Reason → A → Result A Reason
refused_or None x = Ok x
refused_or (Some e) x = Err e

-- a refused call leaves what stood
abbrev pub left_or : {A : Type 0} → Option Reason → A → A → A
left_or None before after = after
left_or (Some e) before after = before

abbrev pub is_editing : Stage → Bool
is_editing Blank = false
is_editing Editing = true
is_editing Released = false

abbrev pub is_released : Stage → Bool
is_released Blank = false
is_released Editing = false
is_released Released = true

-- editing or released
abbrev pub is_open : Stage → Bool
is_open Blank = false
is_open Editing = true
is_open Released = true

-- Each call's tests stand in the order in which they are looked for.

abbrev pub final_tests : Table → ℕ → List (Bool × Reason)
final_tests t q =
    (not (is_editing t.stage), reason no.WrongStage)
    ∷ ((not (nat_lt q t.sizes.states), reason no.NoState)
    ∷ [])

abbrev pub final_refusal : Table → ℕ → Option Reason
final_refusal t q = first (final_tests t q)

-- a release is refused while a number waits
abbrev pub release_tests : Table → Bool → List (Bool × Reason)
release_tests t idle =
    (not (is_editing t.stage), reason no.WrongStage)
    ∷ ((not idle, reason no.Waiting)
    ∷ [])

abbrev pub release_refusal : Table → Bool → Option Reason
release_refusal t idle = first (release_tests t idle)

-- withdraw and tally want a released record
abbrev pub released_tests : Table → List (Bool × Reason)
released_tests t = (not (is_released t.stage), reason no.WrongStage) ∷ []

abbrev pub released_refusal : Table → Option Reason
released_refusal t = first (released_tests t)

abbrev pub open_tests : Sizes → ℕ → ℕ → List (Bool × Reason)
open_tests z edges room =
    (not (sizes_allowed z), reason no.Sizes)
    ∷ ((nat_lt edges (edge_count z), reason no.TooShort)
    ∷ ((nat_lt room z.limit, reason no.SmallWorklist)
    ∷ []))

abbrev pub open_refusal : Sizes → ℕ → ℕ → Option Reason
open_refusal z edges room = first (open_tests z edges room)

-- the tests with which rule, edge and settle begin, where the slices that they are lent are long enough or not
abbrev pub editing_tests : Table → Bool → ℕ → List (Bool × Reason)
editing_tests t enough room =
    (not (is_editing t.stage), reason no.WrongStage)
    ∷ ((not enough, reason no.TooShort)
    ∷ ((nat_lt room t.sizes.limit, reason no.SmallWorklist)
    ∷ []))

module _ {V : Type 0} where
  abbrev pub rule_tests : Session V → ℕ → ℕ → ℕ → List ℕ → List (Bool × Reason)
  rule_tests c p g p2 w =
      let z = c.table.sizes in
      (not (is_editing c.table.stage), reason no.WrongStage)
      ∷ ((nat_lt (length c.weights) z.limit, reason no.TooShort)
      ∷ ((nat_lt c.room z.limit, reason no.SmallWorklist)
      ∷ ((not (nat_lt p z.controls && nat_lt p2 z.controls), reason no.NoState)
      ∷ ((not (all_below z.symbols (g ∷ w)), reason no.NoSymbol)
      ∷ ((nat_lt 2 (length w), reason no.LongWord)
      ∷ ((nat_le z.limit (length c.table.rules), reason no.Full)
      ∷ []))))))

  abbrev pub rule_refusal : Session V → ℕ → ℕ → ℕ → List ℕ → Option Reason
  rule_refusal c p g p2 w = first (rule_tests c p g p2 w)

  abbrev pub edge_tests : Session V → ℕ → ℕ → ℕ → List (Bool × Reason)
  edge_tests c q g q2 =
      let z = c.table.sizes in
      (not (is_editing c.table.stage), reason no.WrongStage)
      ∷ ((nat_lt (length c.edges) (edge_count z), reason no.TooShort)
      ∷ ((nat_lt c.room z.limit, reason no.SmallWorklist)
      ∷ ((not (nat_lt q z.states && nat_lt q2 z.states), reason no.NoState)
      ∷ ((not (nat_lt g z.symbols), reason no.NoSymbol)
      ∷ ((nat_lt q2 z.controls, reason no.IntoControl)
      ∷ [])))))

  abbrev pub edge_refusal : Session V → ℕ → ℕ → ℕ → Option Reason
  edge_refusal c q g q2 = first (edge_tests c q g q2)

  abbrev pub settle_tests : Session V → List (Bool × Reason)
  settle_tests c =
      let z = c.table.sizes in
      (not (is_editing c.table.stage), reason no.WrongStage)
      ∷ ((nat_lt (length c.edges) (edge_count z) || nat_lt (length c.weights) z.limit, reason no.TooShort)
      ∷ ((nat_lt c.room z.limit, reason no.SmallWorklist)
      ∷ []))

  abbrev pub settle_refusal : Session V → Option Reason
  settle_refusal c = first (settle_tests c)

  -- what a step needs of what a settle is lent
  pub record CanStep (c : Session V) : Type 0 where
    pub edges : edge_count c.table.sizes ≤ length c.edges
    pub weights : c.table.sizes.limit ≤ length c.weights
    pub room : c.table.sizes.limit ≤ c.room

  abbrev pub question_tests : Bool → Session V → ℕ → ℕ → List ℕ → List (Bool × Reason)
  question_tests staged c scratch p w =
      let z = c.table.sizes in
      (not staged, reason no.WrongStage)
      ∷ ((nat_lt (length c.edges) (edge_count z) || nat_lt scratch (2 * z.states), reason no.TooShort)
      ∷ ((not (nat_lt p z.controls), reason no.NoState)
      ∷ ((not (all_below z.symbols w), reason no.NoSymbol)
      ∷ [])))

  abbrev pub question_refusal : Bool → Session V → ℕ → ℕ → List ℕ → Option Reason
  question_refusal staged c scratch p w = first (question_tests staged c scratch p w)
