-- Lists of numbers that stand once, as sets.
use Rattle.std.proofs.Common.{◌≡◌, ℕ, ◌<◌, true, false, not, ◌&&◌, ◌==◌, nat_eq, nat_lt, List, [], ◌∷◌, ◌++◌, length, refl, ap, arith}
use Rattle.std.specs.List.{AllByRecursion, IsDistinct}
use Rattle.std.proofs.lemmas.Bool.{and_parts, or_parts, not-true}
use Rattle.std.proofs.lemmas.Bool.Decides.{nat_tests}
use Rattle.std.proofs.lemmas.List.Folds.{list_any-append, list_all-append}
use Rattle.std.proofs.lemmas.Map.Steps.{length-le_from_distinct_below}
use Rattle.worklist.specs.Sets.{adding}
use Rattle.worklist.specs.Members.{member_below}
use Rattle.worklist.specs.Rings.{member, all_below, distinct}

pub member_push : (xs : List ℕ) (n m : ℕ) → member (xs ++ n ∷ []) m ≡ adding (member xs) n m
member_push xs n m = let parts = list_any-append (nat_eq m) xs (n ∷ []) in grind (arith, nat_tests)

pub all_below_push : (c : ℕ) (xs : List ℕ) (n : ℕ) → n < c → all_below c xs ≡ true → all_below c (xs ++ n ∷ []) ≡ true
all_below_push c xs n l h = let parts = list_all-append (λ x. nat_lt x c) xs (n ∷ []) in grind (arith, nat_tests)

pub distinct_push : (xs : List ℕ) (n : ℕ) → member xs n ≡ false → distinct xs ≡ true → distinct (xs ++ n ∷ []) ≡ true
distinct_push [] n new h = refl
distinct_push (x ∷ xs) n new h = grind (arith, nat_tests, distinct_push xs n, member_push xs n x)

others_differ : (xs : List ℕ) (x : ℕ) → member xs x ≡ false → AllByRecursion (λ y. nat_eq x y ≡ false) xs
others_differ [] x new = tt
others_differ (y ∷ ys) x new = let parts = or_parts (x == y) (member ys x) new in (parts.0, others_differ ys x parts.1)

is_distinct : (xs : List ℕ) → distinct xs ≡ true → IsDistinct nat_eq xs
unfolding IsDistinct
is_distinct [] once = tt
is_distinct (x ∷ xs) once =
    let parts = and_parts (not (member xs x)) (distinct xs) once in (
      others_differ xs x (not-true (member xs x) parts.0),
      is_distinct xs parts.1,
    )

-- a number below the bound that is not in the list finds room
pub room_for_new : (c : ℕ) (xs : List ℕ) (n : ℕ) → all_below c xs ≡ true → distinct xs ≡ true → member xs n ≡ false → n < c → length xs < c
room_for_new c xs n low once new l =
    let all_low : all_below c (n ∷ xs) ≡ true = grind (arith, nat_tests) in
    let all_once : distinct (n ∷ xs) ≡ true = grind (arith, nat_tests) in
    length-le_from_distinct_below (n ∷ xs) c (is_distinct (n ∷ xs) all_once) (λ q. member_below c (n ∷ xs) q all_low)

-- what is left when the first is taken
pub member_rest : (x : ℕ) (xs : List ℕ) (m : ℕ) → distinct (x ∷ xs) ≡ true → member xs m ≡ (member (x ∷ xs) m && not (m == x))
member_rest x xs m h = let here = λ (e : m ≡ x). ap (member xs) e in grind (arith, nat_tests, here)
