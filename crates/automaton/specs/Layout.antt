-- Edges in a row of weights, and the step of a rule on them.
use Rattle.std.specs.Prelude.{ℕ, zero, suc, ◌+◌, ◌*◌, Bool, if◌then◌else◌, not, List, slice_index_or, slice_set}
use Rattle.scale.specs.Semiring.{Semiring}
use Rattle.automaton.specs.declared.rules.Rule.{Rule}
use Rattle.automaton.specs.declared.sizes.Sizes.{Sizes}
use Rattle.automaton.specs.Automaton.{Edges, rule_value}

-- the place of the edge from q by g to q2
abbrev pub place : Sizes → ℕ → ℕ → ℕ → ℕ
place z q g q2 = (q * z.symbols + g) * z.states + q2

module _ {V : Type 0} (s : Semiring V) where
  -- the edges that a row of weights holds
  abbrev pub edge_at : Sizes → List V → Edges V
  edge_at z vs q g q2 = slice_index_or vs (place z q g q2) s.none

  -- a weight combined into the edge from q by g to q2
  abbrev pub with_edge : Sizes → List V → ℕ → ℕ → ℕ → V → V
  with_edge z vs q g q2 f = s.combine (edge_at z vs q g q2) f

  -- whether that changes the edge
  abbrev pub edge_changes : Sizes → List V → ℕ → ℕ → ℕ → V → Bool
  edge_changes z vs q g q2 f = not (s.same (edge_at z vs q g q2) (with_edge z vs q g q2 f))

  -- the edges after that
  abbrev pub edge_set : Sizes → List V → ℕ → ℕ → ℕ → V → List V
  edge_set z vs q g q2 f = slice_set vs (place z q g q2) (with_edge z vs q g q2 f)

  -- the rule's value at the state k, from the edges as they stand
  abbrev pub value_at : Sizes → Rule → V → List V → ℕ → V
  value_at z r f vs k = rule_value s (edge_at z vs) z.states r.target r.word f k

  -- the edges after the rule's step has looked at the states below k, in rising order, and how many of them changed
  abbrev pub saturated : Sizes → Rule → V → List V → ℕ → List V × ℕ
  saturated z r f vs zero = (vs, 0)
  saturated z r f vs (suc k) =
      let before = saturated z r f vs k in
      let worth = value_at z r f before.0 k in
      (edge_set z before.0 r.control r.symbol k worth, before.1 + (if edge_changes z before.0 r.control r.symbol k worth then 1 else 0))
