-- What an answer that is given only if a test holds says of the test.
use Rattle.std.proofs.Common.{◌≡◌, Bool, true, false, is_some, Some, None, Option, sym, refl, ap, ◌∙◌}
use Rattle.std.specs.Bool.{then_some}
use Rattle.std.specs.Option.{option_map}

pub given_none : {A : Type 0} (b : Bool) (x : A) → None ≡ then_some b x → b ≡ false
given_none true x e = cc
given_none false x e = refl

pub given_some : {A : Type 0} (b : Bool) (x y : A) → Some y ≡ then_some b x → (b ≡ true) × (y ≡ x)
given_some true x y e = (refl, cc)
given_some false x y e = (cc, cc)

pub is_given : {A : Type 0} (b : Bool) (x : A) (o : Option A) → o ≡ then_some b x → b ≡ true → is_some o ≡ true
is_given b x o is holds = ap is_some (is ∙ ap (λ (t : Bool). then_some t x) holds)

pub mapped_given : {A B : Type 0} (f : A → B) (b : Bool) (x : B) (o : Option A) → option_map f o ≡ then_some b x → b ≡ true → is_some o ≡ true
mapped_given f b x None is holds = is_given b x None is holds
mapped_given f b x (Some y) is holds = refl

pub gives : {A : Type 0} (b : Bool) (x : A) → b ≡ true → Some x ≡ then_some b x
gives b x holds = ap (λ (t : Bool). then_some t x) (sym holds)

pub gives_none : {A : Type 0} (b : Bool) (x : A) → b ≡ false → None ≡ then_some b x
gives_none b x fails = ap (λ (t : Bool). then_some t x) (sym fails)
