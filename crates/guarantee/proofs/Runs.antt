-- Runs: their first step, one after another, over a longer word, among more rules.
use Rattle.std.proofs.Common.{◌≡◌, ℕ, zero, suc, ◌<◌, ◌≤◌, Bool, true, false, cond, ◌&&◌, eqb, ◌⊎◌, List, [], ◌∷◌, ◌++◌, length, get_or, Some, None, Option, sym, refl, ap, ◌∙◌, subst, ap₂, inl, inr, ⊎_elim, append_assoc, arith}
use mathlib.Core.Path.{fun_ext}
use Rattle.std.proofs.lemmas.Bool.{and_parts, and_from, eqb-true, eq-eqb}
use Rattle.scale.specs.Semiring.{Semiring}
use Rattle.automaton.specs.declared.rules.Rule.{Rule}
use Rattle.automaton.specs.Pushdown.{symbols, Config, applied, at, then, ends, run_weight}
use Rattle.guarantee.proofs.Order.{Laws}

abbrev pub config : ℕ → List ℕ → Config
config p w = record { control = p; word = w }

pub some_same : {A : Type 0} (a b : A) → Some a ≡ Some b → a ≡ b
some_same a b e = cc

pub none_some : {A : Type 0} {a : A} → None ≡ Some a → ⊥
none_some e = let z : ◌≡◌ {A = ℕ} 0 1 = cc in omega arith

then_then : {A B C : Type 0} (o : Option A) (f : A → Option B) (g : B → Option C) → then (then o f) g ≡ then o (λ x. then (f x) g)
then_then None f g = refl
then_then (Some x) f g = refl

at_length : {A : Type 0} (xs : List A) (n : ℕ) (x : A) → at xs n ≡ Some x → n < length xs
at_length [] n x e = absurd (none_some e)
at_length (y ∷ xs) zero x e = omega arith
at_length (y ∷ xs) (suc n) x e = let h : n < length xs = at_length xs n x e in omega arith

pub at_within : {A : Type 0} (xs : List A) (n : ℕ) → n < length xs → (x : A) × (at xs n ≡ Some x)
at_within [] n h = absurd (omega arith)
at_within (y ∷ xs) zero h = (y, refl)
at_within (y ∷ xs) (suc n) h = at_within xs n (omega arith)

at_append : {A : Type 0} (xs ys : List A) (n : ℕ) (x : A) → at xs n ≡ Some x → at (xs ++ ys) n ≡ Some x
at_append [] ys n x e = absurd (none_some e)
at_append (y ∷ xs) ys zero x e = e
at_append (y ∷ xs) ys (suc n) x e = at_append xs ys n x e

-- one more at the end
pub at_push : {A : Type 0} (xs : List A) (y : A) (n : ℕ) (x : A) → at (xs ++ (y ∷ [])) n ≡ Some x → (at xs n ≡ Some x) ⊎ ((n ≡ length xs) × (x ≡ y))
at_push [] y zero x e = inr (refl, sym (some_same y x e))
at_push [] y (suc n) x e = absurd (none_some e)
at_push (z ∷ xs) y zero x e = inl e
at_push (z ∷ xs) y (suc n) x e = ⊎_elim (λ h. inl h) (λ h. inr (ap suc h.0, h.1)) (at_push xs y n x e)

-- the first step of a run
pub record Begins (rules : List Rule) (n : ℕ) (ns : List ℕ) (p : ℕ) (w : List ℕ) (end : Config) : Type 0 where
  pub rule : Rule
  pub below : List ℕ
  pub is : at rules n ≡ Some rule
  pub control : rule.control ≡ p
  pub top : w ≡ rule.symbol ∷ below
  pub rest : ends rules ns (config rule.target (symbols rule.word ++ below)) ≡ Some end

begins_by : (rules : List Rule) (n : ℕ) (ns : List ℕ) (p : ℕ) (end : Config) (r : Rule) (g : ℕ) (v : List ℕ) (b : Bool)
    → at rules n ≡ Some r → (eqb r.control p && eqb r.symbol g) ≡ b
    → then (cond b (Some (config r.target (symbols r.word ++ v))) None) (ends rules ns) ≡ Some end
    → Begins rules n ns p (g ∷ v) end
begins_by rules n ns p end r g v false is t h = absurd (none_some h)
begins_by rules n ns p end r g v true is t h =
    let both = and_parts (eqb r.control p) (eqb r.symbol g) t in
    record {
      rule = r;
      below = v;
      is = is;
      control = eqb-true r.control p both.0;
      top = ap (λ x. x ∷ v) (sym (eqb-true r.symbol g both.1));
      rest = h;
    }

begins_at : (rules : List Rule) (n : ℕ) (ns : List ℕ) (p : ℕ) (w : List ℕ) (end : Config) (o : Option Rule)
    → at rules n ≡ o → then o (λ r. then (applied r p w) (ends rules ns)) ≡ Some end → Begins rules n ns p w end
begins_at rules n ns p w end None is h = absurd (none_some h)
begins_at rules n ns p [] end (Some r) is h = absurd (none_some h)
begins_at rules n ns p (g ∷ v) end (Some r) is h =
    begins_by rules n ns p end r g v (eqb r.control p && eqb r.symbol g) is refl h

pub begins : (rules : List Rule) (n : ℕ) (ns : List ℕ) (p : ℕ) (w : List ℕ) (end : Config)
    → ends rules (n ∷ ns) (config p w) ≡ Some end → Begins rules n ns p w end
begins rules n ns p w end h = begins_at rules n ns p w end (at rules n) refl h

-- and a first step put in front
pub step_first : (rules : List Rule) (n : ℕ) (ns : List ℕ) (r : Rule) (v : List ℕ) → at rules n ≡ Some r
    → ends rules (n ∷ ns) (config r.control (r.symbol ∷ v)) ≡ ends rules ns (config r.target (symbols r.word ++ v))
step_first rules n ns r v is =
    ap (λ o. then o (λ x. then (applied x r.control (r.symbol ∷ v)) (ends rules ns))) is
    ∙ ap (λ b. then (cond b (Some (config r.target (symbols r.word ++ v))) None) (ends rules ns))
    (and_from (eqb r.control r.control) (eqb r.symbol r.symbol) (eq-eqb _ _ refl) (eq-eqb _ _ refl))

starts : (rules : List Rule) (n : ℕ) (ns : List ℕ) (p : ℕ) (w : List ℕ) (end : Config)
    → Begins rules n ns p w end → ends rules (n ∷ ns) (config p w) ≡ Some end
starts rules n ns p w end b =
    ap₂ (λ q v. ends rules (n ∷ ns) (config q v)) (sym b.control) b.top ∙ (step_first rules n ns b.rule b.below b.is ∙ b.rest)

-- one run after another
ends_append : (rules : List Rule) (ns ms : List ℕ) (c : Config) → ends rules (ns ++ ms) c ≡ then (ends rules ns c) (ends rules ms)
ends_append rules [] ms c = refl
ends_append rules (n ∷ ns) ms c =
    ap (then (at rules n)) (fun_ext (λ r.
    ap (then (applied r c.control c.word)) (fun_ext (ends_append rules ns ms))
    ∙ sym (then_then (applied r c.control c.word) (ends rules ns) (ends rules ms))))
    ∙ sym (then_then (at rules n) (λ r. then (applied r c.control c.word) (ends rules ns)) (ends rules ms))

pub ends_then : (rules : List Rule) (ns ms : List ℕ) (c d : Config) → ends rules ns c ≡ Some d → ends rules (ns ++ ms) c ≡ ends rules ms d
ends_then rules ns ms c d e = ends_append rules ns ms c ∙ ap (λ o. then o (ends rules ms)) e

-- a run goes on over a longer word
pub prolonged : (rules : List Rule) (ns : List ℕ) (p : ℕ) (w v : List ℕ) (end : Config)
    → ends rules ns (config p w) ≡ Some end → ends rules ns (config p (w ++ v)) ≡ Some (config end.control (end.word ++ v))
prolonged rules [] p w v end e = ap (λ (c : Config). Some (config c.control (c.word ++ v))) (some_same (config p w) end e)
prolonged rules (n ∷ ns) p w v end e =
    let b = begins rules n ns p w end e in
    starts rules n ns p (w ++ v) (config end.control (end.word ++ v)) (record {
      rule = b.rule;
      below = b.below ++ v;
      is = b.is;
      control = b.control;
      top = ap (λ x. x ++ v) b.top;
      rest = ap (λ x. ends rules ns (config b.rule.target x)) (sym (append_assoc (symbols b.rule.word) b.below v))
          ∙ prolonged rules ns b.rule.target (symbols b.rule.word ++ b.below) v end b.rest;
    })

-- a run among the first rules is one among them all
pub ends_more : (rules more : List Rule) (ns : List ℕ) (p : ℕ) (w : List ℕ) (end : Config)
    → ends rules ns (config p w) ≡ Some end → ends (rules ++ more) ns (config p w) ≡ Some end
ends_more rules more [] p w end e = e
ends_more rules more (n ∷ ns) p w end e =
    let b = begins rules n ns p w end e in
    starts (rules ++ more) n ns p w end (record {
      rule = b.rule;
      below = b.below;
      is = at_append rules more n b.rule b.is;
      control = b.control;
      top = b.top;
      rest = ends_more rules more ns b.rule.target (symbols b.rule.word ++ b.below) end b.rest;
    })

-- where every rule's control is below k
module _ (rules : List Rule) (k : ℕ) (low : (n : ℕ) (r : Rule) → at rules n ≡ Some r → (r.control < k) × (r.target < k)) where
  -- no run leaves a state that is not a control
  pub stays : (ns : List ℕ) (p : ℕ) (w : List ℕ) (end : Config) → k ≤ p → ends rules ns (config p w) ≡ Some end → (ns ≡ []) × (config p w ≡ end)
  stays [] p w end h e = (refl, some_same (config p w) end e)
  stays (n ∷ ns) p w end h e =
      let b = begins rules n ns p w end e in
      let l = (low n b.rule b.is).0 in
      let c = b.control in
      absurd (omega arith)

  -- a run ends below whatever its controls and its start are below
  pub ends_low : (m : ℕ) → k ≤ m → (ns : List ℕ) (p : ℕ) (w : List ℕ) (end : Config) → p < m → ends rules ns (config p w) ≡ Some end → end.control < m
  ends_low m h [] p w end l e = subst (λ (c : Config). c.control < m) (some_same (config p w) end e) l
  ends_low m h (n ∷ ns) p w end l e =
      let b = begins rules n ns p w end e in
      let t = (low n b.rule b.is).1 in
      ends_low m h ns b.rule.target (symbols b.rule.word ++ b.below) end (omega arith) b.rest

module _ {V : Type 0} {s : Semiring V} (laws : Laws s) where
  pub run_weight_append : (ws : List V) (ns ms : List ℕ) → run_weight s ws (ns ++ ms) ≡ s.extend (run_weight s ws ns) (run_weight s ws ms)
  run_weight_append ws [] ms = sym (laws.extends.one_left (run_weight s ws ms))
  run_weight_append ws (n ∷ ns) ms =
      ap (s.extend (get_or ws n s.none)) (run_weight_append ws ns ms)
      ∙ sym (laws.extends.assoc (get_or ws n s.none) (run_weight s ws ns) (run_weight s ws ms))

  -- weights that agree on the rules give the same weight to a run
  pub run_weight_same : (rules : List Rule) (us ws : List V) → ((n : ℕ) → n < length rules → get_or us n s.none ≡ get_or ws n s.none)
      → (ns : List ℕ) (p : ℕ) (w : List ℕ) (end : Config) → ends rules ns (config p w) ≡ Some end → run_weight s us ns ≡ run_weight s ws ns
  run_weight_same rules us ws same [] p w end e = refl
  run_weight_same rules us ws same (n ∷ ns) p w end e =
      let b = begins rules n ns p w end e in
      ap₂ s.extend (same n (at_length rules n b.rule b.is))
      (run_weight_same rules us ws same ns b.rule.target (symbols b.rule.word ++ b.below) end b.rest)
