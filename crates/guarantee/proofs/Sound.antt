-- Edges that stand for runs only.
use Rattle.std.proofs.Common.{◌≡◌, ℕ, ◌<◌, ◌≤◌, List, [], ◌∷◌, ◌++◌, length, get_or, Some, sym, refl, ap, ◌∙◌, subst, ⊎_elim, append-nil, arith}
use Rattle.std.proofs.lemmas.Bool.{cases_lt}
use Rattle.scale.specs.Semiring.{Semiring, Covers}
use Rattle.automaton.specs.declared.rules.Rule.{Rule}
use Rattle.automaton.specs.Pushdown.{symbols, Config, at, ends, run_weight}
use Rattle.automaton.specs.Automaton.{Edges, rule_value}
use Rattle.guarantee.proofs.Order.{Laws, covers_self, covers_trans, covers_none, covers_both, extend_left, extend_right, assoc, same_covered}
use Rattle.guarantee.proofs.Sums.{sum, gives, gives_append, gives_more, sum_covers, sums_cover, covers_left_sum}
use Rattle.guarantee.proofs.Values.{Ranged, word_covers}
use Rattle.guarantee.proofs.Runs.{config, step_first, ends_then, prolonged, stays, ends_low, ends_more, run_weight_append, run_weight_same}

-- b covers l times each run from a configuration times what the target gives where it ends
abbrev pub Bound : {V : Type 0} (s : Semiring V) → List Rule → List V → Edges V → ℕ → ℕ → List ℕ → (ℕ → V) → V → V → Type 0
Bound s rules ws target n p w last l b =
    (ns : List ℕ) (end : Config) → ends rules ns (config p w) ≡ Some end
    → Covers s b (s.extend l (s.extend (run_weight s ws ns) (gives s target n last end.control end.word)))

-- the weight x, on the edge from q by g to m, stands for runs only
abbrev pub Sound : {V : Type 0} (s : Semiring V) → List Rule → List V → Edges V → ℕ → ℕ → ℕ → ℕ → V → Type 0
Sound {V} s rules ws target n q g m x =
    (last : ℕ → V) (l b : V) → Bound s rules ws target n q (g ∷ []) last l b → Covers s b (s.extend l (s.extend x (last m)))

module _ {V : Type 0} {s : Semiring V} (laws : Laws s) where
  -- l (x t) as (l x) t, and back
  regroup : {b : V} (l x t : V) → Covers s b (s.extend l (s.extend x t)) → Covers s b (s.extend (s.extend l x) t)
  regroup l x t h = same_covered laws (assoc laws l x t) h

  ungroup : {b : V} (l x t : V) → Covers s b (s.extend (s.extend l x) t) → Covers s b (s.extend l (s.extend x t))
  ungroup l x t h = same_covered laws (sym (assoc laws l x t)) h

module _ {V : Type 0} {s : Semiring V} (laws : Laws s) (rules : List Rule) (ws : List V) (target : Edges V) (n : ℕ) where
  pub sound_none : (q g m : ℕ) → Sound s rules ws target n q g m s.none
  sound_none q g m last l b h =
      same_covered laws (ap (s.extend l) (laws.absorbs.left (last m)) ∙ laws.absorbs.right l) (covers_none laws b)

  pub sound_combine : (q g m : ℕ) (x y : V) → Sound s rules ws target n q g m x → Sound s rules ws target n q g m y
      → Sound s rules ws target n q g m (s.combine x y)
  sound_combine q g m x y hx hy last l b h =
      same_covered laws (ap (s.extend l) (laws.distributes.right x y (last m)) ∙ laws.distributes.left l (s.extend x (last m)) (s.extend y (last m)))
      (covers_both laws (hx last l b h) (hy last l b h))

  -- what the target has
  pub sound_target : (q g m : ℕ) (x : V) → m < n → Covers s (target q g m) x → Sound s rules ws target n q g m x
  sound_target q g m x l c last k b h =
      covers_trans laws
      (extend_right laws k (covers_trans laws (extend_left laws (last m) c) (sum_covers laws n (λ i. s.extend (target q g i) (last i)) m l)))
      (same_covered laws (ap (s.extend k) (sym (laws.extends.one_left (sum s n (λ i. s.extend (target q g i) (last i))))))
      (h [] (config q (g ∷ [])) refl))

  -- a larger target
  pub sound_above : (target2 : Edges V) → ((q g m : ℕ) → Covers s (target2 q g m) (target q g m)) → (q g m : ℕ) (x : V)
      → Sound s rules ws target n q g m x → Sound s rules ws target2 n q g m x
  sound_above target2 above q g m x hx last l b h =
      hx last l b (λ ns end e.
      covers_trans laws
      (extend_right laws l (extend_right laws (run_weight s ws ns)
      (gives_more laws target target2 n last last above (λ i. covers_self laws (last i)) end.word end.control)))
      (h ns end e))

  -- more rules, and weights that agree on those that were there
  pub sound_rules : (more : List Rule) (us : List V) → ((i : ℕ) → i < length rules → get_or us i s.none ≡ get_or ws i s.none)
      → (q g m : ℕ) (x : V) → Sound s rules ws target n q g m x → Sound s (rules ++ more) us target n q g m x
  sound_rules more us same q g m x hx last l b h =
      hx last l b (λ ns end e.
      same_covered laws
      (ap (λ y. s.extend l (s.extend y (gives s target n last end.control end.word))) (sym (run_weight_same laws rules us ws same ns q (g ∷ []) end e)))
      (h ns end (ends_more rules more ns q (g ∷ []) end e)))

module _ {V : Type 0} {s : Semiring V} (laws : Laws s) (target : Edges V) (n k : ℕ) (into : (q g m : ℕ) → m < k → target q g m ≡ s.none) where
  -- a path of the target that reads something ends in no control
  past_one : (last last2 : ℕ → V) → ((m : ℕ) → k ≤ m → m < n → Covers s (last2 m) (last m)) → (q g m : ℕ) → m < n
      → Covers s (s.extend (target q g m) (last2 m)) (s.extend (target q g m) (last m))
  past_one last last2 h q g m l =
      ⊎_elim
      (λ (lt : m < k). same_covered laws (ap (λ x. s.extend x (last m)) (into q g m lt) ∙ laws.absorbs.left (last m)) (covers_none laws _))
      (λ (le : k ≤ m). extend_right laws (target q g m) (h m le l))
      (cases_lt m k)

  pub past : (last last2 : ℕ → V) → ((m : ℕ) → k ≤ m → m < n → Covers s (last2 m) (last m)) → (w : List ℕ) (g q : ℕ)
      → Covers s (gives s target n last2 q (g ∷ w)) (gives s target n last q (g ∷ w))
  past last last2 h [] g q = sums_cover laws n _ _ (λ m l. past_one last last2 h q g m l)
  past last last2 h (g2 ∷ w) g q = sums_cover laws n _ _ (λ m l. extend_right laws (target q g m) (past last last2 h w g2 m))

module _ {V : Type 0} {s : Semiring V} (laws : Laws s) (rules : List Rule) (ws : List V) (target e : Edges V) (n k a : ℕ)
    (low : (j : ℕ) (r : Rule) → at rules j ≡ Some r → (r.control < k) × (r.target < k))
    (fits : k ≤ n)
    (into : (q g m : ℕ) → m < k → target q g m ≡ s.none)
    (sound : (q g m : ℕ) → q < n → g < a → m < n → Sound s rules ws target n q g m (e q g m))
  where
    -- a run of g alone ended in (p2, w2), and then w stands below
    by_word : (g : ℕ) (w : List ℕ)
        → ((q : ℕ) → q < n → (last : ℕ → V) (l b : V) → Bound s rules ws target n q w last l b → Covers s b (s.extend l (gives s e n last q w)))
        → (q : ℕ) → q < n → (last : ℕ → V) (l b : V) → Bound s rules ws target n q (g ∷ w) last l b
        → (ns : List ℕ) (p2 : ℕ) (w2 : List ℕ) → ends rules ns (config q (g ∷ [])) ≡ Some (config p2 w2)
        → Covers s b (s.extend l (s.extend (run_weight s ws ns) (gives s target n (λ m. gives s e n last m w) p2 w2)))
    by_word g w ih q lq last l b h ns p2 [] r =
        let x = run_weight s ws ns in
        ungroup laws l x (gives s e n last p2 w)
        (ih p2 (ends_low rules k low n fits ns q (g ∷ []) (config p2 []) lq r) last (s.extend l x) b (λ ms end r2.
        let y = run_weight s ws ms in
        let t = gives s target n last end.control end.word in
        regroup laws l x (s.extend y t)
        (same_covered laws (ap (s.extend l) (sym (assoc laws x y t) ∙ ap (λ z. s.extend z t) (sym (run_weight_append laws ws ns ms))))
        (h (ns ++ ms) end (ends_then rules ns ms (config q (g ∷ w)) (config p2 w) (prolonged rules ns q (g ∷ []) w (config p2 []) r) ∙ r2)))))
    by_word g w ih q lq last l b h ns p2 (g2 ∷ v) r =
        covers_trans laws
        (extend_right laws l (extend_right laws (run_weight s ws ns)
        (past laws target n k into (λ m. gives s e n last m w) (λ m. gives s target n last m w)
        (λ m le lm.
        same_covered laws (sym (laws.extends.one_left (gives s e n last m w)))
        (ih m lm last s.one (gives s target n last m w) (λ ms end r2.
        let still = stays rules k low ms m w end le r2 in
        subst (λ (c : Config). Covers s (gives s target n last m w) (s.extend s.one (s.extend (run_weight s ws ms) (gives s target n last c.control c.word)))) still.1
        (subst (λ xs. Covers s (gives s target n last m w) (s.extend s.one (s.extend (run_weight s ws xs) (gives s target n last m w)))) (sym still.0)
        (same_covered laws (laws.extends.one_left _ ∙ laws.extends.one_left _) (covers_self laws _))))))
        v g2 p2)))
        (same_covered laws (ap (λ z. s.extend l (s.extend (run_weight s ws ns) z)) (sym (gives_append laws target n last (g2 ∷ v) w p2)))
        (h ns (config p2 ((g2 ∷ v) ++ w)) (prolonged rules ns q (g ∷ []) w (config p2 (g2 ∷ v)) r)))

    -- what the automaton gives stands for runs only
    pub sound_gives : (w : List ℕ) → Ranged a w → (q : ℕ) → q < n → (last : ℕ → V) (l b : V) → Bound s rules ws target n q w last l b
        → Covers s b (s.extend l (gives s e n last q w))
    sound_gives [] _ q lq last l b h =
        same_covered laws (ap (s.extend l) (sym (laws.extends.one_left (last q)))) (h [] (config q []) refl)
    sound_gives (g ∷ w) range q lq last l b h =
        covers_left_sum laws l n (λ m. s.extend (e q g m) (gives s e n last m w)) b (λ m lm.
        sound q g m lq range.0 lm (λ i. gives s e n last i w) l b (λ ns end r.
        by_word g w (sound_gives w range.1) q lq last l b h ns end.control end.word r))

    -- and so does a rule's value
    pub sound_rule : (j : ℕ) (r : Rule) → at rules j ≡ Some r → Ranged a (symbols r.word) → (m : ℕ) → m < n
        → Sound s rules ws target n r.control r.symbol m (rule_value s e n r.target r.word (get_or ws j s.none) m)
    sound_rule j r is range m lm last l b h =
        let f = get_or ws j s.none in
        let t = (low j r is).1 in
        covers_trans laws
        (extend_right laws l (word_covers laws e n last r.target f r.word m lm))
        (ungroup laws l f (gives s e n last r.target (symbols r.word))
        (sound_gives (symbols r.word) range r.target (omega arith) last (s.extend l f) b (λ ns end x.
        let y = run_weight s ws ns in
        let z = gives s target n last end.control end.word in
        regroup laws l f (s.extend y z)
        (same_covered laws (ap (s.extend l) (sym (assoc laws f y z)))
        (h (j ∷ ns) end (step_first rules j ns r [] is ∙ (ap (λ v. ends rules ns (config r.target v)) (append-nil (symbols r.word)) ∙ x)))))))
