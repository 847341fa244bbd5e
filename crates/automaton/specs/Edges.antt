-- What a view of the edges shows.
use Rattle.std.specs.Prelude.{map}
use Rattle.scale.specs.Semiring.{Semiring}
use Rattle.automaton.specs.declared.edges.Edges.{Edges as View}
use Rattle.automaton.specs.Automaton.{Edges}
use Rattle.automaton.specs.Layout.{edge_at}

-- the edges whose weights a view holds
abbrev pub edges_of : {X V : Type 0} → Semiring V → (X → V) → View X → Edges V
edges_of s value view = edge_at s view.sizes (map value view.weights.now)
