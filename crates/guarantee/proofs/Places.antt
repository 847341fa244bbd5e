-- Places of edges in a row of weights, and what a weight combined into one edge changes.
use Rattle.std.proofs.Common.{◌≡◌, ℕ, ◌+◌, ◌*◌, ◌/◌, ◌%◌, ◌<◌, ◌≤◌, false, cond, List, length, get_or, set, sym, refl, ap, ◌∙◌, subst, ⊎_elim, arith}
use lib.Arith.{digits_lt, digits_div, digits_mod}
use Rattle.std.proofs.lemmas.List.{length-set, get_or-set_same, get_or-set_other, set-get_or}
use Rattle.std.proofs.lemmas.Bool.{cases_eq, not-false}
use Rattle.scale.specs.Semiring.{Semiring, Covers}
use Rattle.automaton.specs.declared.sizes.Sizes.{Sizes}
use Rattle.automaton.specs.Limits.{edge_count}
use Rattle.automaton.specs.Layout.{place, edge_at, with_edge, edge_changes, edge_set}
use Rattle.guarantee.proofs.Order.{Laws, covers_self, covers_trans, covers_left, same_covering}
use Rattle.guarantee.proofs.Ranks.{ranks, ranks_set, rank_rises}

pub place_lt : (z : Sizes) (k q g m : ℕ) → q < k → g < z.symbols → m < z.states → place z q g m < k * z.symbols * z.states
place_lt z k q g m hq hg hm = digits_lt (digits_lt hq hg) hm

pub record SamePlace (q g m q2 g2 n2 : ℕ) : Type 0 where
  pub from : q ≡ q2
  pub by : g ≡ g2
  pub to : m ≡ n2

place_same : (z : Sizes) (q g m q2 g2 n2 : ℕ) → g < z.symbols → m < z.states → g2 < z.symbols → n2 < z.states
    → place z q g m ≡ place z q2 g2 n2 → SamePlace q g m q2 g2 n2
place_same z q g m q2 g2 n2 hg hm hg2 hm2 e =
    let row : q * z.symbols + g ≡ q2 * z.symbols + g2 = sym (digits_div _ hm) ∙ (ap (λ x. x / z.states) e ∙ digits_div _ hm2) in
    record {
      from = sym (digits_div _ hg) ∙ (ap (λ x. x / z.symbols) row ∙ digits_div _ hg2);
      by = sym (digits_mod q hg) ∙ (ap (λ x. x % z.symbols) row ∙ digits_mod q2 hg2);
      to = sym (digits_mod _ hm) ∙ (ap (λ x. x % z.states) e ∙ digits_mod _ hm2);
    }

-- S holds of each edge, with its states, its symbol and its weight
abbrev pub EachEdge : {V : Type 0} → Semiring V → Sizes → (ℕ → ℕ → ℕ → V → Type 0) → List V → Type 0
EachEdge s z S vs = (q g m : ℕ) → q < z.states → g < z.symbols → m < z.states → S q g m (edge_at s z vs q g m)

-- us has the weights vs, but that those of edges by g may be raised
pub record Raised {V : Type 0} (s : Semiring V) (z : Sizes) (g : ℕ) (vs us : List V) : Type 0 where
  pub long : length us ≡ length vs
  pub grows : (i : ℕ) → Covers s (get_or us i s.none) (get_or vs i s.none)
  pub off : (q a m : ℕ) → a < z.symbols → m < z.states → (a ≡ g → ⊥) → edge_at s z us q a m ≡ edge_at s z vs q a m

module _ {V : Type 0} {s : Semiring V} (laws : Laws s) (z : Sizes) (g : ℕ) where
  pub raised_none : (vs : List V) → Raised s z g vs vs
  raised_none vs = record { long = refl; grows = λ i. covers_self laws _; off = λ q a m ha hm ne. refl }

  pub raised_then : (vs us ts : List V) → Raised s z g vs us → Raised s z g us ts → Raised s z g vs ts
  raised_then vs us ts x y = record {
    long = y.long ∙ x.long;
    grows = λ i. covers_trans laws (x.grows i) (y.grows i);
    off = λ q a m ha hm ne. y.off q a m ha hm ne ∙ x.off q a m ha hm ne;
  }

-- ---- a weight combined into one edge

module _ {V : Type 0} {s : Semiring V} (laws : Laws s) (z : Sizes) (vs : List V) (p g k : ℕ) (x : V) where
  pub edge_still : edge_changes s z vs p g k x ≡ false → edge_set s z vs p g k x ≡ vs
  edge_still e = ap (set vs (place z p g k)) (sym ((laws.tells _ _).0 (not-false _ e))) ∙ set-get_or vs (place z p g k) s.none

  module _ (hp : p < z.states) (hg : g < z.symbols) (hk : k < z.states) (long : edge_count z ≤ length vs) where
    inside : place z p g k < length vs
    inside = let h = place_lt z z.states p g k hp hg hk in omega arith

    pub edge_here : edge_at s z (edge_set s z vs p g k x) p g k ≡ with_edge s z vs p g k x
    edge_here = get_or-set_same vs (place z p g k) _ s.none inside

    edge_grows : (i : ℕ) → Covers s (get_or (edge_set s z vs p g k x) i s.none) (get_or vs i s.none)
    edge_grows i =
        ⊎_elim
        (λ (e : i ≡ place z p g k). subst (λ j. Covers s (get_or (edge_set s z vs p g k x) j s.none) (get_or vs j s.none)) (sym e)
        (same_covering laws (covers_left laws (edge_at s z vs p g k) x) (sym edge_here)))
        (λ (ne : i ≡ place z p g k → ⊥). same_covering laws (covers_self laws (get_or vs i s.none)) (sym (get_or-set_other vs (place z p g k) i _ s.none ne)))
        (cases_eq i (place z p g k))

    pub edge_raised : Raised s z g vs (edge_set s z vs p g k x)
    edge_raised = record {
      long = length-set vs (place z p g k) (with_edge s z vs p g k x);
      grows = edge_grows;
      off = λ q a m ha hm ne. get_or-set_other vs (place z p g k) (place z q a m) _ s.none (λ e. ne (place_same z q a m p g k ha hm hg hk e).by);
    }

    -- what held of each edge, and holds of the one that is set
    pub edge_each : (S : ℕ → ℕ → ℕ → V → Type 0)
        → EachEdge s z S vs → S p g k (with_edge s z vs p g k x) → EachEdge s z S (edge_set s z vs p g k x)
    edge_each S all here q g2 m hq hg2 hm =
        ⊎_elim
        (λ (e : place z q g2 m ≡ place z p g k).
        let same = place_same z q g2 m p g k hg2 hm hg hk e in
        let here2 : S p g k (get_or (edge_set s z vs p g k x) (place z q g2 m) s.none) =
        subst (S p g k) (sym (ap (λ j. get_or (edge_set s z vs p g k x) j s.none) e ∙ edge_here)) here in
        subst (λ q3. S q3 g2 m (edge_at s z (edge_set s z vs p g k x) q g2 m)) (sym same.from)
        (subst (λ g3. S p g3 m (edge_at s z (edge_set s z vs p g k x) q g2 m)) (sym same.by)
        (subst (λ n3. S p g n3 (edge_at s z (edge_set s z vs p g k x) q g2 m)) (sym same.to) here2)))
        (λ (ne : place z q g2 m ≡ place z p g k → ⊥).
        subst (S q g2 m) (sym (get_or-set_other vs (place z p g k) (place z q g2 m) _ s.none ne)) (all q g2 m hq hg2 hm))
        (cases_eq (place z q g2 m) (place z p g k))

    pub edge_ranks : (c : ℕ) → p < c
        → cond (edge_changes s z vs p g k x) 1 0 + ranks s (c * z.symbols * z.states) vs
        ≤ ranks s (c * z.symbols * z.states) (edge_set s z vs p g k x)
    edge_ranks c hc =
        let a = ranks_set laws (c * z.symbols * z.states) vs (place z p g k) (with_edge s z vs p g k x) (place_lt z c p g k hc hg hk) inside in
        let b = rank_rises laws (edge_at s z vs p g k) (with_edge s z vs p g k x) (covers_left laws _ x) in
        omega arith
