-- A session as its calls see it: the record, the values of the lent weights, and the worklist's set.
use Rattle.std.specs.Prelude.{ℕ, zero, suc, Bool, false, List, [], ◌∷◌, replicate}
use Rattle.worklist.specs.Sets.{Set}
use Rattle.automaton.specs.declared.rules.Rule.{Rule}
use Rattle.automaton.specs.declared.sizes.Sizes.{Sizes}
use Rattle.automaton.specs.Pushdown.{symbols, has}
use Rattle.checker.specs.declared.stages.Stage.{Stage}
use Rattle.checker.specs.declared.stages.Stage.TheVariants.{Blank}

-- what a record holds
pub record Table : Type 0 where
  pub stage : Stage
  pub sizes : Sizes
  pub rules : List Rule
  pub finals : List Bool
  pub total : ℕ

pub record Session (V : Type 0) : Type 0 where
  pub table : Table
  pub edges : List V
  pub weights : List V
  pub waiting : Set
  pub room : ℕ

-- a stage and sizes with no rule, no final state and no raise
abbrev pub bare : Stage → Sizes → Table
bare stage sizes = record { stage = stage; sizes = sizes; rules = []; finals = replicate 64 false; total = 0 }

-- a record that no open has been accepted on yet
abbrev pub blank : Table
blank = bare Blank (record { controls = 1; states = 1; symbols = 1; limit = 1 })

-- the numbers of the rules whose word has a symbol
abbrev pub readers : List Rule → ℕ → Set
readers [] g n = false
readers (r ∷ rs) g zero = has (symbols r.word) g
readers (r ∷ rs) g (suc n) = readers rs g n
