-- Combines over the numbers below n, and what an automaton gives to a word by recursion on it.
use Rattle.std.proofs.Common.{◌≡◌, ℕ, zero, suc, ◌<◌, ◌≤◌, Bool, true, false, cond, List, [], ◌∷◌, ◌++◌, sym, refl, ap, ◌∙◌, subst, ⊎_elim, arith}
use Rattle.std.proofs.lemmas.Bool.{cases_lt}
use Rattle.scale.specs.Semiring.{Semiring, Covers, combined}
use Rattle.automaton.specs.Automaton.{Edges, below, answer}
use Rattle.automaton.proofs.Combined.{combined_push}
use Rattle.automaton.proofs.RowFacts.{below_same, combined_one, answer_more}
use Rattle.guarantee.proofs.Order.{Laws, covers_trans, covers_none, covers_left, covers_right, covers_both, extend_both, same_covered, same_covering}

abbrev pub sum : {V : Type 0} → Semiring V → ℕ → (ℕ → V) → V
sum s n f = combined s (below n f)

-- what an automaton gives to a word from the state q, where last is what each state gives to the empty word
abbrev pub gives : {V : Type 0} → Semiring V → Edges V → ℕ → (ℕ → V) → ℕ → List ℕ → V
gives s e n last q [] = last q
gives s e n last q (g ∷ w) = sum s n (λ m. s.extend (e q g m) (gives s e n last m w))

abbrev pub finals : {V : Type 0} → Semiring V → (ℕ → Bool) → ℕ → V
finals s final q = cond (final q) s.one s.none

module _ {V : Type 0} {s : Semiring V} (laws : Laws s) where
  pub sum_same : (n : ℕ) (f g : ℕ → V) → ((i : ℕ) → i < n → f i ≡ g i) → sum s n f ≡ sum s n g
  sum_same n f g h = ap (combined s) (below_same n f g h)

  sum_suc : (n : ℕ) (f : ℕ → V) → sum s (suc n) f ≡ s.combine (sum s n f) (f n)
  sum_suc n f = combined_push s laws.combines (below n f) (f n)

  covers_sum : (n : ℕ) (f : ℕ → V) (b : V) → ((i : ℕ) → i < n → Covers s b (f i)) → Covers s b (sum s n f)
  covers_sum zero f b h = covers_none laws b
  covers_sum (suc n) f b h =
      same_covered laws (sum_suc n f) (covers_both laws (covers_sum n f b (λ i l. h i (omega arith))) (h n (omega arith)))

  pub sum_covers : (n : ℕ) (f : ℕ → V) (i : ℕ) → i < n → Covers s (sum s n f) (f i)
  sum_covers zero f i l = absurd (omega arith)
  sum_covers (suc n) f i l =
      same_covering laws
      (⊎_elim
      (λ (h : i < n). covers_trans laws (sum_covers n f i h) (covers_left laws (sum s n f) (f n)))
      (λ (h : n ≤ i).
      let last : n ≡ i = omega arith in
      subst (λ j. Covers s (s.combine (sum s n f) (f n)) (f j)) last (covers_right laws (sum s n f) (f n)))
      (cases_lt i n))
      (sym (sum_suc n f))

  -- one sum covers another term by term
  pub sums_cover : (n : ℕ) (f g : ℕ → V) → ((i : ℕ) → i < n → Covers s (g i) (f i)) → Covers s (sum s n g) (sum s n f)
  sums_cover n f g h = covers_sum n f (sum s n g) (λ i l. covers_trans laws (h i l) (sum_covers n g i l))

  -- a map that keeps none and combines goes through a sum
  through_sum : (h : V → V) → h s.none ≡ s.none → ((a b : V) → h (s.combine a b) ≡ s.combine (h a) (h b))
      → (n : ℕ) (f : ℕ → V) → h (sum s n f) ≡ sum s n (λ i. h (f i))
  through_sum h keeps splits zero f = keeps
  through_sum h keeps splits (suc n) f =
      ap h (sum_suc n f)
      ∙ splits (sum s n f) (f n)
      ∙ ap (λ y. s.combine y (h (f n))) (through_sum h keeps splits n f)
      ∙ sym (sum_suc n (λ i. h (f i)))

  pub covers_left_sum : (x : V) (n : ℕ) (f : ℕ → V) (b : V) → ((i : ℕ) → i < n → Covers s b (s.extend x (f i))) → Covers s b (s.extend x (sum s n f))
  covers_left_sum x n f b h =
      same_covered laws (through_sum (s.extend x) (laws.absorbs.right x) (laws.distributes.left x) n f) (covers_sum n (λ i. s.extend x (f i)) b h)

  pub covers_sum_right : (x : V) (n : ℕ) (f : ℕ → V) (b : V) → ((i : ℕ) → i < n → Covers s b (s.extend (f i) x)) → Covers s b (s.extend (sum s n f) x)
  covers_sum_right x n f b h =
      same_covered laws (through_sum (λ y. s.extend y x) (laws.absorbs.left x) (λ a c. laws.distributes.right a c x) n f)
      (covers_sum n (λ i. s.extend (f i) x) b h)

  one_or_none : (b : Bool) → combined s (cond b (s.one ∷ []) []) ≡ cond b s.one s.none
  one_or_none true = combined_one s laws.combines s.one
  one_or_none false = refl

  -- the combine over all paths is what the recursion gives
  pub answer_gives : (e : Edges V) (n : ℕ) (final : ℕ → Bool) (w : List ℕ) (q : ℕ) → answer s e n final q w ≡ gives s e n (finals s final) q w
  answer_gives e n final [] q = one_or_none (final q)
  answer_gives e n final (g ∷ w) q =
      answer_more s laws.combines laws.distributes laws.absorbs e n final q g w
      ∙ sum_same n _ _ (λ m l. ap (s.extend (e q g m)) (answer_gives e n final w m))

  -- reading one word after another
  pub gives_append : (e : Edges V) (n : ℕ) (last : ℕ → V) (u w : List ℕ) (q : ℕ) → gives s e n last q (u ++ w) ≡ gives s e n (λ m. gives s e n last m w) q u
  gives_append e n last [] w q = refl
  gives_append e n last (g ∷ u) w q = sum_same n _ _ (λ m l. ap (s.extend (e q g m)) (gives_append e n last u w m))

  -- more on the edges and at the end gives more
  pub gives_more : (e e2 : Edges V) (n : ℕ) (last last2 : ℕ → V)
      → ((q g m : ℕ) → Covers s (e2 q g m) (e q g m)) → ((m : ℕ) → Covers s (last2 m) (last m))
      → (w : List ℕ) (q : ℕ) → Covers s (gives s e2 n last2 q w) (gives s e n last q w)
  gives_more e e2 n last last2 h k [] q = k q
  gives_more e e2 n last last2 h k (g ∷ w) q = sums_cover n _ _ (λ m l. extend_both laws (h q g m) (gives_more e e2 n last last2 h k w m))
