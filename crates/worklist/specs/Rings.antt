-- Numbers in the order in which they came, in slots that are used round and round.
use Rattle.std.specs.Prelude.{◌≡◌, ℕ, zero, suc, ◌+◌, ◌-◌, ◌≤◌, min, Bool, true, not, ◌&&◌, if◌then◌else◌, List, [], ◌∷◌, ◌++◌, length, Some, None, Option, IsTrue, ◌==◌, nat_lt, slice_index}
use Rattle.std.specs.List.{list_all, list_any}
use Rattle.worklist.specs.Sets.{Set, marked}

-- how many of the lent slots are used
abbrev pub used : List ℕ → ℕ
used slots = min (length slots) 512

-- a place that is at most one round too far
abbrev pub around : ℕ → ℕ → ℕ
around capacity place = if nat_lt place capacity then place else place - capacity

-- what stands in so many slots from a place on, going round at the capacity
abbrev pub round : ℕ → List ℕ → ℕ → ℕ → List ℕ
round capacity slots place zero = []
round capacity slots place (suc count) = slice_index slots place ∷ round capacity slots (around capacity (place + 1)) count

-- the numbers that wait, the first to be taken first: `len` slots from `head` on
abbrev pub queue : List ℕ → ℕ → ℕ → List ℕ
queue slots head len = round (used slots) slots head len

-- the numbers of a list, as a set
abbrev pub member : List ℕ → Set
member numbers n = list_any (λ x. n == x) numbers

abbrev pub all_below : ℕ → List ℕ → Bool
all_below capacity numbers = list_all (λ x. nat_lt x capacity) numbers

-- no number stands twice
abbrev pub distinct : List ℕ → Bool
distinct [] = true
distinct (x ∷ xs) = not (member xs x) && distinct xs

-- a queue after a number was put: a new one below the capacity goes last
abbrev pub after_put : ℕ → List ℕ → ℕ → List ℕ
after_put capacity before n = if nat_lt n capacity && not (member before n) then before ++ n ∷ [] else before

-- the first number of a queue was taken, or none where it was empty
abbrev pub Taken : List ℕ → Option ℕ → List ℕ → Type 0
Taken before None after = (before ≡ []) × (after ≡ [])
Taken before (Some n) after = before ≡ n ∷ after

-- what callers see of a ring
pub record Line : Type 0 where
  pub capacity : ℕ
  pub small : capacity ≤ 512
  -- the numbers that wait, the first to be taken first
  pub numbers : List ℕ
  pub low : IsTrue (all_below capacity numbers)
  pub once : IsTrue (distinct numbers)
  -- what the lent slots hold, and where the first number lies: no clause speaks of it, but a refused put leaves it
  pub layout : List ℕ × ℕ

-- how a ring's numbers lie in `len` slots from `head` on, each with its mark
pub record IsLaid (slots : List ℕ) (head len : ℕ) (marks : List Bool) : Type 0 where
  pub starts : head ≤ used slots - 1
  pub few : len ≤ used slots
  pub noted : (n : ℕ) → marked marks n ≡ member (queue slots head len) n
