-- A row of marks as a set.
use Rattle.std.proofs.Common.{◌≡◌, ℕ, ◌<◌, Bool, true, false, not, ◌==◌, ◌↔◌, if◌then◌else◌, List, length, slice_index_or, slice_set, replicate, IsTrue, sym, refl, ap, ◌∙◌, arith}
use mathlib.Core.Path.{fun_ext}
use mathlib.Core.Bool.{beq}
use Rattle.std.specs.List.{IsAnyAnswer}
use Rattle.std.proofs.lemmas.List.{get_or-replicate, get_or-set_other}
use Rattle.std.proofs.lemmas.Grind.{get_or-set_at}
use Rattle.std.proofs.lemmas.Bool.{false≢true}
use Rattle.std.proofs.lemmas.Bool.Decides.{nat_tests}
use Rattle.worklist.specs.Sets.{empty, marked}

mark_at : (xs : List Bool) (n : ℕ) → n < 512 → marked xs n ≡ slice_index_or xs n false
mark_at xs n h = grind (arith, nat_tests)

none_marked : (xs : List Bool) → ((k : ℕ) → k < 512 → slice_index_or xs k false ≡ false) → marked xs ≡ empty
none_marked xs h = fun_ext (λ n. grind (arith, nat_tests, h n))

pub all_clear : marked (replicate 512 false) ≡ empty
all_clear = none_marked (replicate 512 false) (λ k h. get_or-replicate 512 k false false h)

pub marked-set : (xs : List Bool) (n m : ℕ) (b : Bool) → length xs ≡ 512 → n < 512 → marked (slice_set xs n b) m ≡ (if m == n then b else marked xs m)
marked-set xs n m b full l = grind (arith, nat_tests, get_or-set_at xs n m b false, get_or-set_other xs n m b false)

-- a set of marks is empty exactly when a search finds none
pub is_empty_from_search : (found : Bool) (xs : List Bool) → length xs ≡ 512 → IsAnyAnswer (λ y b. beq y true ≡ b) xs found → IsTrue (not found) ↔ (marked xs ≡ empty)
is_empty_from_search true xs full h =
    (λ e. absurd (false≢true e), λ e. let here = sym (ap (λ s. s h.0) e) ∙ mark_at xs h.0 (omega arith) in grind (arith, h.2 false))
is_empty_from_search false xs full h = (λ _. none_marked xs (λ k l. grind (arith, h k false)), λ _. refl)
