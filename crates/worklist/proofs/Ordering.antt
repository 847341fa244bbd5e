-- The order of a ring's queue when a number is put or taken, and the set that follows from it.
use Rattle.std.proofs.Common.{◌≡◌, ℕ, ◌<◌, true, false, nat_lt, if◌then◌else◌, List, [], ◌∷◌, ◌++◌, Some, sym, ap, ◌∙◌, arith}
use mathlib.Core.Path.{fun_ext}
use Rattle.std.proofs.lemmas.Bool.Decides.{nat_tests}
use Rattle.worklist.specs.Sets.{adding, without}
use Rattle.worklist.specs.Rings.{member, distinct, after_put}
use Rattle.worklist.proofs.Distinct.{member_push, member_rest}

pub new_after_put : (c : ℕ) (before : List ℕ) (n : ℕ) → n < c → member before n ≡ false → before ++ n ∷ [] ≡ after_put c before n
new_after_put c before n within new = grind (arith, nat_tests)

-- a number that waits already changes nothing
adding_member : (xs : List ℕ) (n m : ℕ) → member xs n ≡ true → adding (member xs) n m ≡ member xs m
adding_member xs n m e = let here = λ (same : m ≡ n). ap (member xs) same in grind (arith, nat_tests, here)

pub put_set : (c : ℕ) (before : List ℕ) (n : ℕ) → member (after_put c before n) ≡ (if nat_lt n c then adding (member before) n else member before)
put_set c before n = fun_ext (λ m. grind (arith, nat_tests, adding_member before n m, member_push before n m))

pub take_set : (before rest : List ℕ) (n : ℕ) → distinct before ≡ true → before ≡ n ∷ rest → member rest ≡ without (member before) (Some n)
take_set before rest n once front =
    fun_ext (λ m. member_rest n rest m (ap distinct (sym front) ∙ once)) ∙ ap (λ q. without (member q) (Some n)) (sym front)
