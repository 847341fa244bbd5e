-- Combines of lists.
use Rattle.std.proofs.Common.{◌≡◌, ℕ, ◌+◌, List, [], ◌∷◌, ◌++◌, sym, refl, ap, ◌∙◌, add-one}
use Rattle.scale.specs.Semiring.{Semiring, Combines, Absorbs, combined}
use Rattle.automaton.specs.Automaton.{Edges, below}

-- a weight extended by the edges to a middle state and from there
abbrev pub through : {V : Type 0} → Semiring V → Edges V → V → ℕ → ℕ → ℕ → ℕ → ℕ → V
through s e f p a b q m = s.extend (s.extend f (e p a m)) (e m b q)

module _ {V : Type 0} (s : Semiring V) (laws : Combines s) where
  pub combined_push : (xs : List V) (v : V) → combined s (xs ++ (v ∷ [])) ≡ s.combine (combined s xs) v
  combined_push [] v = laws.comm v s.none
  combined_push (x ∷ xs) v = ap (s.combine x) (combined_push xs v) ∙ sym (laws.assoc x (combined s xs) v)

  -- one value more
  pub combined_more : (f : ℕ → V) (k : ℕ) (sum item next : V) → sum ≡ combined s (below k f) → item ≡ f k → next ≡ s.combine sum item → next ≡ combined s (below (k + 1) f)
  combined_more f k sum item next es ei en =
      let pushed = combined_push (below k f) (f k) in
      rw add-one (en ∙ ap (λ v. s.combine v item) es ∙ ap (s.combine (combined s (below k f))) ei ∙ sym pushed)

  -- a middle state to which there is no edge adds nothing
  pub through_none : Absorbs s → (e : Edges V) (f : V) (p a b q m : ℕ) (sum : V) → e p a m ≡ s.none → sum ≡ s.combine sum (through s e f p a b q m)
  through_none o e f p a b q m sum none =
      sym (ap (s.combine sum) (ap (λ v. s.extend (s.extend f v) (e m b q)) none ∙ ap (λ v. s.extend v (e m b q)) (o.right f) ∙ o.left (e m b q)) ∙ laws.comm sum s.none ∙ laws.none_left sum)

  -- so the sum over the states before it is the sum with it, too
  pub through_none_more : Absorbs s → (e : Edges V) (f : V) (p a b q k : ℕ) (sum : V) → sum ≡ combined s (below k (through s e f p a b q)) → e p a k ≡ s.none → sum ≡ combined s (below (k + 1) (through s e f p a b q))
  through_none_more o e f p a b q k sum was none =
      combined_more (through s e f p a b q) k sum (through s e f p a b q k) sum was refl (through_none o e f p a b q k sum none)
