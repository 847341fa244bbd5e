-- What the step of one rule does to a row of weights.
use Rattle.std.proofs.Common.{◌≡◌, ℕ, zero, suc, ◌+◌, ◌*◌, ◌<◌, ◌≤◌, Bool, true, false, cond, ◌⊎◌, List, length, sym, refl, ap, ◌∙◌, subst, inl, inr, ⊎_elim, arith}
use Rattle.std.proofs.lemmas.Bool.{cases_lt}
use Rattle.scale.specs.Semiring.{Semiring, Covers}
use Rattle.automaton.specs.declared.rules.Rule.{Rule}
use Rattle.automaton.specs.declared.sizes.Sizes.{Sizes}
use Rattle.automaton.specs.Pushdown.{symbols, has}
use Rattle.automaton.specs.Limits.{edge_count}
use Rattle.automaton.specs.Layout.{place, edge_at, with_edge, value_at, saturated}
use Rattle.guarantee.proofs.Order.{Laws, covers_trans, covers_right, same_covering}
use Rattle.guarantee.proofs.Values.{Ranged, value_off}
use Rattle.guarantee.proofs.Ranks.{ranks}
use Rattle.guarantee.proofs.Places.{EachEdge, Raised, raised_none, raised_then, edge_still, edge_here, edge_raised, edge_each, edge_ranks}

-- the edges cover the rule's values
abbrev pub Closed : {V : Type 0} → Semiring V → Sizes → List V → V → Rule → Type 0
Closed s z us f r = (m : ℕ) → m < z.states → Covers s (edge_at s z us r.control r.symbol m) (value_at s z r f us m)

none_counted : (n : ℕ) (b : Bool) → n + cond b 1 0 ≡ 0 → (n ≡ 0) × (b ≡ false)
none_counted n true e = absurd (omega arith)
none_counted n false e = (omega arith, refl)

module _ {V : Type 0} {s : Semiring V} (laws : Laws s) (z : Sizes) (r : Rule) (f : V) (vs : List V) where
  -- the row after the states below k
  abbrev row : ℕ → List V
  row k = (saturated s z r f vs k).0

  abbrev raises : ℕ → ℕ
  raises k = (saturated s z r f vs k).1

  pub row_still : (k : ℕ) → raises k ≡ 0 → row k ≡ vs
  row_still zero e = refl
  row_still (suc k) e =
      let parts = none_counted (raises k) _ e in
      edge_still laws z (row k) r.control r.symbol k (value_at s z r f (row k) k) parts.1 ∙ row_still k parts.0

  row_count : (j k : ℕ) → j ≤ k → raises j ≤ raises k
  row_count j zero h = let e : j ≡ 0 = omega arith in let q = ap raises e in omega arith
  row_count j (suc k) h =
      ⊎_elim
      (λ (l : j < suc k). let q = row_count j k (omega arith) in omega arith)
      (λ (g : suc k ≤ j). let e : j ≡ suc k = omega arith in let q = ap raises e in omega arith)
      (cases_lt j (suc k))

  module _ (hp : r.control < z.states) (hg : r.symbol < z.symbols) (long : edge_count z ≤ length vs) where
    pub row_raised : (k : ℕ) → k ≤ z.states → Raised s z r.symbol vs (row k)
    row_raised zero h = raised_none laws z r.symbol vs
    row_raised (suc k) h =
        let before = row_raised k (omega arith) in
        let e = before.long in
        raised_then laws z r.symbol vs (row k) (row (suc k)) before
        (edge_raised laws z (row k) r.control r.symbol k (value_at s z r f (row k) k) hp hg h (omega arith))

    long_row : (k : ℕ) → k ≤ z.states → edge_count z ≤ length (row k)
    long_row k h = let e = (row_raised k h).long in omega arith

    pub row_ranks : (c : ℕ) → r.control < c → (k : ℕ) → k ≤ z.states
        → raises k + ranks s (c * z.symbols * z.states) vs ≤ ranks s (c * z.symbols * z.states) (row k)
    row_ranks c hc zero h = omega arith
    row_ranks c hc (suc k) h =
        let a = row_ranks c hc k (omega arith) in
        let b = edge_ranks laws z (row k) r.control r.symbol k (value_at s z r f (row k) k) hp hg h (long_row k (omega arith)) c hc in
        omega arith

    -- what held of each edge, and holds of each that is set
    pub row_each : (S : ℕ → ℕ → ℕ → V → Type 0)
        → ((us : List V) → EachEdge s z S us → (k : ℕ) → k < z.states → S r.control r.symbol k (with_edge s z us r.control r.symbol k (value_at s z r f us k)))
        → EachEdge s z S vs → (k : ℕ) → k ≤ z.states → EachEdge s z S (row k)
    row_each S more each zero h = each
    row_each S more each (suc k) h =
        let before = row_each S more each k (omega arith) in
        edge_each laws z (row k) r.control r.symbol k (value_at s z r f (row k) k) hp hg h (long_row k (omega arith)) S before (more (row k) before k h)

    -- each state's edge covers the value that was there when the step came to it
    row_covers : (k : ℕ) → k ≤ z.states → (j : ℕ) → j < k → Covers s (edge_at s z (row k) r.control r.symbol j) (value_at s z r f (row j) j)
    row_covers zero h j l = absurd (omega arith)
    row_covers (suc k) h j l =
        let long2 = long_row k (omega arith) in
        ⊎_elim
        (λ (lt : j < k).
        covers_trans laws (row_covers k (omega arith) j lt)
        ((edge_raised laws z (row k) r.control r.symbol k (value_at s z r f (row k) k) hp hg h long2).grows (place z r.control r.symbol j)))
        (λ (le : k ≤ j).
        let e : k ≡ j = omega arith in
        subst (λ i. Covers s (edge_at s z (row (suc k)) r.control r.symbol i) (value_at s z r f (row i) i)) e
        (same_covering laws (covers_right laws (edge_at s z (row k) r.control r.symbol k) (value_at s z r f (row k) k))
        (sym (edge_here laws z (row k) r.control r.symbol k (value_at s z r f (row k) k) hp hg h long2))))
        (cases_lt j k)

    -- the rule is closed after its step, if nothing changed or its word has not its own symbol
    pub row_closed : r.target < z.states → Ranged z.symbols (symbols r.word)
        → (raises z.states ≡ 0) ⊎ (has (symbols r.word) r.symbol ≡ false)
        → Closed s z (row z.states) f r
    row_closed ht range why m hm =
        subst (Covers s (edge_at s z (row z.states) r.control r.symbol m)) (same why) (row_covers z.states (omega arith) m hm)
      where
        same : (raises z.states ≡ 0) ⊎ (has (symbols r.word) r.symbol ≡ false) → value_at s z r f (row m) m ≡ value_at s z r f (row z.states) m
        same (inl still) =
            let c = row_count m z.states (omega arith) in
            ap (λ us. value_at s z r f us m) (row_still m (omega arith) ∙ sym (row_still z.states still))
        same (inr lacks) =
            value_off laws (edge_at s z (row m)) (edge_at s z (row z.states)) z.states r.target f r.word m z.symbols r.symbol ht hm range lacks
            (λ q a i hq ha hi ne. (row_raised m (omega arith)).off q a i ha hi ne ∙ sym ((row_raised z.states (omega arith)).off q a i ha hi ne))
