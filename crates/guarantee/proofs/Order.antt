-- The order of an idempotent semiring: b covers a.
use Rattle.std.proofs.Common.{◌≡◌, sym, ap, ◌∙◌, subst}
use Rattle.scale.specs.Semiring.{Semiring, Covers, Combines, Extends, Absorbs, Distributes, Bounded, Tells}

-- the laws, but that one is not none
pub record Laws {V : Type 0} (s : Semiring V) : Type 0 where
  pub combines : Combines s
  pub extends : Extends s
  pub absorbs : Absorbs s
  pub distributes : Distributes s
  pub bounded : Bounded s
  pub tells : Tells s

module _ {V : Type 0} {s : Semiring V} (laws : Laws s) where
  pub covers_self : (a : V) → Covers s a a
  covers_self a = laws.combines.idem a

  pub covers_equal : {a b : V} → a ≡ b → Covers s b a
  covers_equal {a} {b} e = ap (λ x. s.combine x b) e ∙ laws.combines.idem b

  pub covers_trans : {a b c : V} → Covers s b a → Covers s c b → Covers s c a
  covers_trans {a} {b} {c} p q =
      ap (s.combine a) (sym q) ∙ (sym (laws.combines.assoc a b c) ∙ (ap (λ x. s.combine x c) p ∙ q))

  pub covers_none : (b : V) → Covers s b s.none
  covers_none b = laws.combines.none_left b

  pub none_right : (a : V) → s.combine a s.none ≡ a
  none_right a = laws.combines.comm a s.none ∙ laws.combines.none_left a

  pub covers_left : (a b : V) → Covers s (s.combine a b) a
  covers_left a b = sym (laws.combines.assoc a a b) ∙ ap (λ x. s.combine x b) (laws.combines.idem a)

  pub covers_right : (a b : V) → Covers s (s.combine a b) b
  covers_right a b = subst (λ x. Covers s x b) (laws.combines.comm b a) (covers_left b a)

  pub covers_both : {a b c : V} → Covers s c a → Covers s c b → Covers s c (s.combine a b)
  covers_both {a} {b} {c} p q = laws.combines.assoc a b c ∙ (ap (s.combine a) q ∙ p)

  pub extend_left : {a b : V} (x : V) → Covers s b a → Covers s (s.extend b x) (s.extend a x)
  extend_left {a} {b} x p = sym (laws.distributes.right a b x) ∙ ap (λ y. s.extend y x) p

  pub extend_right : {a b : V} (x : V) → Covers s b a → Covers s (s.extend x b) (s.extend x a)
  extend_right {a} {b} x p = sym (laws.distributes.left x a b) ∙ ap (s.extend x) p

  pub extend_both : {a b c d : V} → Covers s b a → Covers s d c → Covers s (s.extend b d) (s.extend a c)
  extend_both {a} {b} {c} {d} p q = covers_trans (extend_left c p) (extend_right b q)

  -- three factors, grouped the other way
  pub assoc : (a b c : V) → s.extend (s.extend a b) c ≡ s.extend a (s.extend b c)
  assoc a b c = laws.extends.assoc a b c

  pub same_covered : {a b c : V} → a ≡ b → Covers s c b → Covers s c a
  same_covered {a} {b} {c} e p = subst (λ x. Covers s c x) (sym e) p

  pub same_covering : {a b c : V} → Covers s b a → b ≡ c → Covers s c a
  same_covering {a} {b} {c} p e = subst (λ x. Covers s x a) e p
