-- Rows of weights, one for each state.
use Rattle.std.specs.Prelude.{ℕ, List, slice_index_or}
use Rattle.scale.specs.Semiring.{Semiring}
use Rattle.automaton.specs.Automaton.{Edges}

abbrev pub at_place : {V : Type 0} → Semiring V → List V → ℕ → V
at_place s vs k = slice_index_or vs k s.none

-- the edge from q by g to m, extended by what m has
abbrev pub onward : {V : Type 0} → Semiring V → Edges V → (ℕ → V) → ℕ → ℕ → ℕ → V
onward s e row q g m = s.extend (e q g m) (row m)
