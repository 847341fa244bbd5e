-- The laws of values and none, from those of the values.
use Rattle.std.specs.Prelude.{◌≡◌, ◌<◌, ◌≤◌, ◌↔◌, IsTrue, ◌≢◌, refl}
use Rattle.std.proofs.Common.{arith}
use Rattle.scale.specs.Semiring.{Combines, Extends, Distributes, Bounded, Tells}
use Rattle.scale.specs.WithNone.{Values, with_none}

pub record Lawful {V : Type 0} (v : Values V) : Type 0 where
  pub combine_assoc : (a b c : V) → v.combine (v.combine a b) c ≡ v.combine a (v.combine b c)
  pub combine_comm : (a b : V) → v.combine a b ≡ v.combine b a
  pub combine_idem : (a : V) → v.combine a a ≡ a
  pub extend_assoc : (a b c : V) → v.extend (v.extend a b) c ≡ v.extend a (v.extend b c)
  pub one_left : (a : V) → v.extend v.one a ≡ a
  pub one_right : (a : V) → v.extend a v.one ≡ a
  pub extend_left : (a b c : V) → v.extend a (v.combine b c) ≡ v.combine (v.extend a b) (v.extend a c)
  pub extend_right : (a b c : V) → v.extend (v.combine a b) c ≡ v.combine (v.extend a c) (v.extend b c)
  pub above_none : (a : V) → 0 < v.rank a
  pub within : (a : V) → v.rank a ≤ v.height
  pub rises : (a b : V) → v.combine a b ≡ b → (a ≢ b) → v.rank a < v.rank b
  pub tells : (a b : V) → IsTrue (v.same a b) ↔ (a ≡ b)

module _ {V : Type 0} {v : Values V} (laws : Lawful v) where
  pub combines : Combines (with_none v)
  combines = record {
    assoc = λ a b c. grind (arith, laws.combine_assoc);
    comm = λ a b. grind (arith, laws.combine_comm);
    idem = λ a. grind (arith, laws.combine_idem);
    none_left = λ a. refl;
  }

  pub extends : Extends (with_none v)
  extends = record {
    assoc = λ a b c. grind (arith, laws.extend_assoc);
    one_left = λ a. grind (arith, laws.one_left);
    one_right = λ a. grind (arith, laws.one_right);
  }

  pub distributes : Distributes (with_none v)
  distributes = record {
    left = λ a b c. grind (arith, laws.extend_left);
    right = λ a b c. grind (arith, laws.extend_right);
  }

  pub bounded : Bounded (with_none v)
  bounded = record {
    within = λ a. grind (arith, laws.within);
    rises = λ a b covers apart. grind (arith, laws.above_none, laws.rises);
  }

  pub tells : Tells (with_none v)
  tells a b = grind (arith, laws.tells)
