-- From a session to a later one: what came, what grew, and what was spent.
use Rattle.std.proofs.Common.{◌≡◌, ℕ, ◌+◌, ◌-◌, ◌*◌, ◌^◌, ◌<◌, ◌≤◌, min, Bool, true, false, ◌||◌, ◌⊎◌, List, [], ◌++◌, length, get_or, sym, refl, ap, ◌∙◌, subst, ap₂, inl, inr, ⊎_elim, append_assoc, append-nil, mul-add, arith, length-append}
use mathlib.Core.Bool.{or_assoc}
use Rattle.std.proofs.lemmas.List.{get_or_append_left, get_or-append_right}
use Rattle.std.proofs.lemmas.Bool.{cases_lt, or_parts}
use Rattle.scale.specs.Semiring.{Semiring, Covers}
use Rattle.worklist.specs.Sets.{Set, empty}
use Rattle.automaton.specs.declared.rules.Rule.{Rule}
use Rattle.automaton.specs.declared.sizes.Sizes.{Sizes}
use Rattle.automaton.specs.Automaton.{Edges}
use Rattle.checker.specs.Session.{Session}
use Rattle.checker.specs.Checks.{is_released}
use Rattle.checker.specs.Calls.{is_final}
use Rattle.guarantee.proofs.Order.{Laws, covers_self, covers_trans}
use Rattle.guarantee.proofs.Ranks.{ranks}
use Rattle.guarantee.proofs.Waits.{count}
use Rattle.guarantee.proofs.Kept.{Kept}

-- what holds of a session whose edge calls gave the target
pub record Good {V : Type 0} (s : Semiring V) (target : Edges V) (c : Session V) : Type 0 where
  pub kept : Kept s c.table.sizes c.table.rules c.edges c.weights c.waiting target
  pub rests : is_released c.table.stage ≡ true → c.waiting ≡ empty
  pub room : c.table.sizes.states ≤ length c.table.finals
  pub small : c.table.total ≤ 2 ^ 64 - 1

-- the weights us cover the weights vs, and the first n ranks rose by k raises
pub record Grown {V : Type 0} (s : Semiring V) (n : ℕ) (vs us : List V) (k : ℕ) : Type 0 where
  pub edges : (i : ℕ) → Covers s (get_or us i s.none) (get_or vs i s.none)
  pub rise : k + ranks s n vs ≤ ranks s n us

-- of n rules those of w waited and those of v wait, after so many steps of a budget, with k raises
pub record Calm (n : ℕ) (w v : Set) (steps budget k : ℕ) : Type 0 where
  pub took : steps + count n v ≤ count n w + n * k
  pub rests : w ≡ empty → v ≡ empty
  pub spent : (v ≡ empty) ⊎ (budget ≤ steps)

module _ {V : Type 0} {s : Semiring V} (laws : Laws s) where
  pub grown_none : (n : ℕ) (vs : List V) → Grown s n vs vs 0
  grown_none n vs = record { edges = λ i. covers_self laws _; rise = omega arith }

  pub grown_then : (n : ℕ) (vs us ts : List V) (k j : ℕ) → Grown s n vs us k → Grown s n us ts j → Grown s n vs ts (k + j)
  grown_then n vs us ts k j a b = record {
    edges = λ i. covers_trans laws (a.edges i) (b.edges i);
    rise = let x = a.rise in let y = b.rise in omega arith;
  }

pub calm_none : (n : ℕ) (w : Set) → Calm n w w 0 0 0
calm_none n w = record { took = omega arith; rests = λ e. e; spent = inr (omega arith) }

pub calm_then : (n : ℕ) (w v u : Set) (i j a b k l : ℕ) → Calm n w v i a k → Calm n v u j b l → Calm n w u (i + j) (a + b) (k + l)
calm_then n w v u i j a b k l x y = record {
  took = let one = x.took in let two = y.took in let all = mul-add n k l in omega arith;
  rests = λ t. y.rests (x.rests t);
  spent =
      ⊎_elim
      (λ (t : u ≡ empty). inl t)
      (λ (t : b ≤ j). ⊎_elim (λ (e : v ≡ empty). inl (y.rests e)) (λ (e : a ≤ i). inr (omega arith)) x.spent)
      y.spent;
}

-- ---- what calls said, and what came of it

pub record Said (V : Type 0) : Type 0 where
  pub rules : List Rule
  pub weights : List V
  pub marks : ℕ → Bool
  pub adds : Bool
  pub steps : ℕ
  pub budget : ℕ
  pub raises : ℕ

abbrev pub nothing_said : {V : Type 0} → Said V
nothing_said = record { rules = []; weights = []; marks = λ q. false; adds = false; steps = 0; budget = 0; raises = 0 }

abbrev pub said_then : {V : Type 0} → Said V → Said V → Said V
said_then x y = record {
  rules = x.rules ++ y.rules;
  weights = x.weights ++ y.weights;
  marks = λ q. x.marks q || y.marks q;
  adds = x.adds || y.adds;
  steps = x.steps + y.steps;
  budget = x.budget + y.budget;
  raises = x.raises + y.raises;
}

-- how many edges leave controls
abbrev pub ranked : Sizes → ℕ
ranked z = z.controls * z.symbols * z.states

pub record Went {V : Type 0} (s : Semiring V) (c : Session V) (x : Said V) (d : Session V) : Type 0 where
  pub sizes : d.table.sizes ≡ c.table.sizes
  pub rules : d.table.rules ≡ c.table.rules ++ x.rules
  pub many : length x.rules ≡ length x.weights
  pub old : (n : ℕ) → n < length c.table.rules → get_or d.weights n s.none ≡ get_or c.weights n s.none
  pub new : (n : ℕ) → n < length x.rules → get_or d.weights (length c.table.rules + n) s.none ≡ get_or x.weights n s.none
  pub finals : (q : ℕ) → is_final d q ≡ (is_final c q || x.marks q)
  pub total : d.table.total ≡ min (c.table.total + x.raises) (2 ^ 64 - 1)
  pub grown : Grown s (ranked c.table.sizes) c.edges d.edges x.raises
  pub same_rules : x.adds ≡ false → d.table.rules ≡ c.table.rules
  pub calm : x.adds ≡ false → Calm (length c.table.rules) c.waiting d.waiting x.steps x.budget x.raises

module _ {V : Type 0} {s : Semiring V} where
  -- no rule came
  pub went_ruleless : (c d : Session V) (marks : ℕ → Bool) (adds : Bool) (steps budget raises : ℕ)
      → d.table.sizes ≡ c.table.sizes → d.table.rules ≡ c.table.rules → d.weights ≡ c.weights
      → ((q : ℕ) → is_final d q ≡ (is_final c q || marks q))
      → d.table.total ≡ min (c.table.total + raises) (2 ^ 64 - 1)
      → Grown s (ranked c.table.sizes) c.edges d.edges raises
      → (adds ≡ false → Calm (length c.table.rules) c.waiting d.waiting steps budget raises)
      → Went s c (record { rules = []; weights = []; marks = marks; adds = adds; steps = steps; budget = budget; raises = raises }) d
  went_ruleless c d marks adds steps budget raises sizes rules weights finals total grown calm = record {
    sizes = sizes;
    rules = rules ∙ sym (append-nil c.table.rules);
    many = refl;
    old = λ n h. ap (λ (xs : List V). get_or xs n s.none) weights;
    new = λ n h. absurd (omega arith);
    finals = finals;
    total = total;
    grown = grown;
    same_rules = λ e. rules;
    calm = calm;
  }

  pub went_then : Laws s → (c d e : Session V) (x y : Said V) → Went s c x d → Went s d y e → Went s c (said_then x y) e
  went_then laws c d e x y a b =
      let R = length c.table.rules in
      let grew : length d.table.rules ≡ R + length x.rules = ap (λ (rs : List Rule). length rs) a.rules ∙ length-append c.table.rules x.rules in
      let m = a.many in
      record {
        sizes = b.sizes ∙ a.sizes;
        rules = b.rules ∙ (ap (λ rs. rs ++ y.rules) a.rules ∙ append_assoc c.table.rules x.rules y.rules);
        many = length-append x.rules y.rules ∙ (ap₂ ◌+◌ a.many b.many ∙ sym (length-append x.weights y.weights));
        old = λ n h. b.old n (omega arith) ∙ a.old n h;
        new = λ n h.
            ⊎_elim
            (λ (l : n < length x.rules).
            b.old (R + n) (omega arith) ∙ (a.new n l ∙ sym (get_or_append_left x.weights y.weights s.none n (omega arith))))
            (λ (g : length x.rules ≤ n).
            let all = length-append x.rules y.rules in
            let here : R + n ≡ length d.table.rules + (n - length x.rules) = omega arith in
            let there : n - length x.rules ≡ n - length x.weights = omega arith in
            ap (λ i. get_or e.weights i s.none) here ∙ (b.new (n - length x.rules) (omega arith)
            ∙ (ap (λ i. get_or y.weights i s.none) there
            ∙ sym (get_or-append_right x.weights y.weights (length x.weights) n s.none refl (omega arith)))))
            (cases_lt n (length x.rules));
        finals = λ q. b.finals q ∙ (ap (λ t. t || y.marks q) (a.finals q) ∙ or_assoc (is_final c q) (x.marks q) (y.marks q));
        total = let t = a.total in let u = b.total in omega arith;
        grown = grown_then laws (ranked c.table.sizes) c.edges d.edges e.edges x.raises y.raises a.grown
            (subst (λ (z : Sizes). Grown s (ranked z) d.edges e.edges y.raises) a.sizes b.grown);
        same_rules = λ t. let parts = or_parts x.adds y.adds t in b.same_rules parts.1 ∙ a.same_rules parts.0;
        calm = λ t.
            let parts = or_parts x.adds y.adds t in
            calm_then R c.waiting d.waiting e.waiting x.steps y.steps x.budget y.budget x.raises y.raises (a.calm parts.0)
            (subst (λ (rs : List Rule). Calm (length rs) d.waiting e.waiting y.steps y.budget y.raises) (a.same_rules parts.0) (b.calm parts.1));
      }
