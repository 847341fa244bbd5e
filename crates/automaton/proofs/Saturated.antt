-- One state more of a rule's step.
use Rattle.std.proofs.Common.{◌≡◌, ℕ, ◌+◌, if◌then◌else◌, List, add-one}
use Rattle.scale.specs.Semiring.{Semiring}
use Rattle.automaton.specs.declared.rules.Rule.{Rule}
use Rattle.automaton.specs.declared.sizes.Sizes.{Sizes}
use Rattle.automaton.specs.Layout.{edge_changes, edge_set, value_at, saturated}

module _ {V : Type 0} (s : Semiring V) (z : Sizes) (r : Rule) (f : V) (vs : List V) (k : ℕ) where
  abbrev before : List V × ℕ
  before = saturated s z r f vs k

  abbrev worth : V
  worth = value_at s z r f before.0 k

  pub saturated_edges : (saturated s z r f vs (k + 1)).0 ≡ edge_set s z before.0 r.control r.symbol k worth
  saturated_edges = rw add-one

  pub saturated_raises : (saturated s z r f vs (k + 1)).1 ≡ before.1 + (if edge_changes s z before.0 r.control r.symbol k worth then 1 else 0)
  saturated_raises = rw add-one
