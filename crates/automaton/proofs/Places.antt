-- Places of edges, and the values of weights that are read there.
use Rattle.std.proofs.Common.{◌≡◌, ℕ, ◌+◌, ◌*◌, ◌<◌, true, List, map, length, slice_index_or, take, drop, sym, ap, ◌∙◌, subst, mul_assoc}
use Rattle.std.proofs.lemmas.Nat.{mul-add-lt}
use Rattle.std.proofs.lemmas.List.{get_or-map, get_or-take, get_or-drop}
use Rattle.std.specs.List.{take-map, drop-map}
use Rattle.automaton.specs.declared.sizes.Sizes.{Sizes}
use Rattle.automaton.specs.Limits.{edge_count, edge_fits}
use Rattle.automaton.specs.Layout.{place}
use Rattle.automaton.proofs.Bounds.{edge_bounds}

pub place_within : (z : Sizes) (q g q2 : ℕ) → edge_fits z q g q2 ≡ true → place z q g q2 < edge_count z
place_within z q g q2 h =
    let bounds = edge_bounds z q g q2 h in
    let row = mul-add-lt q z.symbols g z.states bounds.0 bounds.1 in
    let all = mul-add-lt (q * z.symbols + g) z.states q2 (z.symbols * z.states) row bounds.2 in
    subst (λ n. place z q g q2 < n) (sym (mul_assoc z.states z.symbols z.states)) all

-- the value of an element that was read
pub value_read : {X V : Type 0} (value : X → V) (xs : List X) (i : ℕ) (x : X) (d : V) → i < length xs → x ≡ slice_index_or xs i x → value x ≡ slice_index_or (map value xs) i d
value_read value xs i x d h read = ap value read ∙ sym (get_or-map value xs i x d h)

-- what a part of a row of weights has
pub part_at : {X V : Type 0} (value : X → V) (xs : List X) (from n k : ℕ) (d : V) → k < n → slice_index_or (map value (take n (drop from xs))) k d ≡ slice_index_or (map value xs) (from + k) d
part_at value xs from n k d h = simp (← take-map, ← drop-map, get_or-take, get_or-drop)
