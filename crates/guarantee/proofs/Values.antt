-- A rule's values: what they come to, and which edges they read.
use Rattle.std.proofs.Common.{◌≡◌, ℕ, ◌<◌, Bool, true, false, cond, ◌||◌, eqb, List, [], ◌∷◌, sym, refl, ap, ◌∙◌, subst, ap₂, ⊎_elim, arith}
use mathlib.Core.Bool.{or-true}
use Rattle.std.proofs.lemmas.Bool.{eqb-true, eq-eqb, both_ways, or_cases}
use Rattle.scale.specs.Semiring.{Semiring, Covers}
use Rattle.automaton.specs.declared.rules.Word.{Word}
use Rattle.automaton.specs.declared.rules.Word.TheVariants.{Pop, Swap, Push}
use Rattle.automaton.specs.Pushdown.{symbols, has}
use Rattle.automaton.specs.Automaton.{Edges, rule_value}
use Rattle.guarantee.proofs.Order.{Laws, covers_equal, covers_trans, covers_none, extend_left, extend_right, assoc, same_covered}
use Rattle.guarantee.proofs.Sums.{sum, sum_same, gives, sum_covers, covers_left_sum, covers_sum_right}

-- ---- what they come to: the weight f, extended by what the automaton gives to the word

module _ {V : Type 0} {s : Semiring V} (laws : Laws s) (e : Edges V) (n : ℕ) (last : ℕ → V) (p : ℕ) (f : V) where
  pop_covers : (m : ℕ) (b : Bool) → eqb m p ≡ b → Covers s (s.extend f (last p)) (s.extend (cond b f s.none) (last m))
  pop_covers m true t = covers_equal laws (ap (λ x. s.extend f (last x)) (eqb-true m p t))
  pop_covers m false t = same_covered laws (laws.absorbs.left (last m)) (covers_none laws (s.extend f (last p)))

  pub word_covers : (u : Word) (m : ℕ) → m < n
      → Covers s (s.extend f (gives s e n last p (symbols u))) (s.extend (rule_value s e n p u f m) (last m))
  word_covers Pop m l = pop_covers m (eqb m p) refl
  word_covers (Swap a) m l = same_covered laws (assoc laws f (e p a m) (last m)) (extend_right laws f (sum_covers laws n (λ i. s.extend (e p a i) (last i)) m l))
  word_covers (Push a b) m l =
      covers_sum_right laws (last m) n (λ i. s.extend (s.extend f (e p a i)) (e i b m)) _ (λ i h.
      same_covered laws (assoc laws (s.extend f (e p a i)) (e i b m) (last m) ∙ assoc laws f (e p a i) (s.extend (e i b m) (last m)))
      (extend_right laws f (covers_trans laws
      (extend_right laws (e p a i) (sum_covers laws n (λ j. s.extend (e i b j) (last j)) m l))
      (sum_covers laws n (λ j. s.extend (e p a j) (sum s n (λ k. s.extend (e j b k) (last k)))) i h))))

  pub covers_word : (u : Word) (c : V) → p < n → ((m : ℕ) → m < n → Covers s c (s.extend (rule_value s e n p u f m) (last m)))
      → Covers s c (s.extend f (gives s e n last p (symbols u)))
  covers_word Pop c l h = subst (λ b. Covers s c (s.extend (cond b f s.none) (last p))) (eq-eqb p p refl) (h p l)
  covers_word (Swap a) c l h =
      covers_left_sum laws f n (λ i. s.extend (e p a i) (last i)) c (λ m k. same_covered laws (sym (assoc laws f (e p a m) (last m))) (h m k))
  covers_word (Push a b) c l h =
      covers_left_sum laws f n (λ i. s.extend (e p a i) (sum s n (λ k. s.extend (e i b k) (last k)))) c (λ i li.
      same_covered laws (sym (assoc laws f (e p a i) (sum s n (λ k. s.extend (e i b k) (last k)))))
      (covers_left_sum laws (s.extend f (e p a i)) n (λ k. s.extend (e i b k) (last k)) c (λ m lm.
      same_covered laws (sym (assoc laws (s.extend f (e p a i)) (e i b m) (last m)))
      (covers_trans laws (extend_left laws (last m) (sum_covers laws n (λ j. s.extend (s.extend f (e p a j)) (e j b m)) i li)) (h m lm)))))

-- ---- which edges they read

-- the symbols of a word are all below k
abbrev pub Ranged : ℕ → List ℕ → Type 0
Ranged k [] = Unit {0}
Ranged k (g ∷ w) = (g < k) × Ranged k w

ranged_has : (k : ℕ) (w : List ℕ) → Ranged k w → (a : ℕ) → has w a ≡ true → a < k
ranged_has k [] r a e = absurd (both_ways false refl e)
ranged_has k (g ∷ w) r a e =
    ⊎_elim (λ (h : eqb g a ≡ true). let q = eqb-true g a h in let l = r.0 in omega arith) (λ (h : has w a ≡ true). ranged_has k w r.1 a h) (or_cases (eqb g a) (has w a) e)

module _ {V : Type 0} {s : Semiring V} (laws : Laws s) (e e2 : Edges V) (n p : ℕ) (f : V) where
  value_same : (u : Word) (m : ℕ) → p < n → m < n → ((q a i : ℕ) → q < n → has (symbols u) a ≡ true → i < n → e q a i ≡ e2 q a i)
      → rule_value s e n p u f m ≡ rule_value s e2 n p u f m
  value_same Pop m hp hm h = refl
  value_same (Swap a) m hp hm h = ap (s.extend f) (h p a m hp (ap (λ b. b || false) (eq-eqb a a refl)) hm)
  value_same (Push a b) m hp hm h =
      sum_same laws n _ _ (λ i hi. ap₂ s.extend
      (ap (s.extend f) (h p a i hp (ap (λ t. t || (eqb b a || false)) (eq-eqb a a refl)) hi))
      (h i b m hi (last a b) hm))
    where
      last : (a b : ℕ) → (eqb a b || (eqb b b || false)) ≡ true
      last a b = ap (λ t. eqb a b || (t || false)) (eq-eqb b b refl) ∙ or-true (eqb a b)

  -- edges that differ at one symbol alone, which the word does not have
  pub value_off : (u : Word) (m k g : ℕ) → p < n → m < n → Ranged k (symbols u) → has (symbols u) g ≡ false
      → ((q a i : ℕ) → q < n → a < k → i < n → (a ≡ g → ⊥) → e q a i ≡ e2 q a i)
      → rule_value s e n p u f m ≡ rule_value s e2 n p u f m
  value_off u m k g hp hm range lacks h =
      value_same u m hp hm (λ q a i hq t hi.
      h q a i hq (ranged_has k (symbols u) range a t) hi
      (λ x. both_ways (has (symbols u) g) lacks (subst (λ y. has (symbols u) y ≡ true) x t)))
