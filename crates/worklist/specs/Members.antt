-- What stands in a list of numbers below a bound is below it, and no more slots are used than there are marks.
use Rattle.std.specs.Prelude.{◌≡◌, ℕ, ◌<◌, ◌≤◌, true, List, [], ◌∷◌, length, ◌==◌, nat_lt}
use Rattle.std.proofs.Common.{⊎_elim, arith}
use Rattle.std.proofs.Math.Nat.{min-le_right}
use Rattle.std.proofs.lemmas.Bool.{and_parts, or_cases, false≢true, ltb-true, eqb-true}
use Rattle.worklist.specs.Rings.{used, member, all_below}

pub member_below : (c : ℕ) (xs : List ℕ) (n : ℕ) → all_below c xs ≡ true → member xs n ≡ true → n < c
member_below c [] n h e = absurd (false≢true e)
member_below c (x ∷ xs) n h e =
    let parts = and_parts (nat_lt x c) (all_below c xs) h in
    ⊎_elim
    (λ (first : (n == x) ≡ true). omega (arith, ltb-true x c parts.0, eqb-true n x first))
    (λ (later : member xs n ≡ true). member_below c xs n parts.1 later)
    (or_cases (n == x) (member xs n) e)

pub used_within_marks : (slots : List ℕ) → used slots ≤ 512
used_within_marks slots = min-le_right (length slots) 512
