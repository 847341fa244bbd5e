-- Sets of numbers, by their tests.
use Rattle.std.specs.Prelude.{◌≡◌, ℕ, ◌<◌, Bool, true, false, not, ◌&&◌, ◌||◌, List, Some, None, Option, ◌==◌, nat_lt, slice_index_or}

abbrev pub Set : Type 0
Set = ℕ → Bool

abbrev pub empty : Set
empty n = false

abbrev pub adding : Set → ℕ → Set
adding s n = λ m. s m || m == n

-- a set after a number was taken from it, if one was
abbrev pub without : Set → Option ℕ → Set
without s None = s
without s (Some n) = λ m. s m && not (m == n)

abbrev pub union : Set → Set → Set
union a b n = a n || b n

-- the numbers below 512 whose mark is set
abbrev pub marked : List Bool → Set
marked marks n = nat_lt n 512 && slice_index_or marks n false

-- the smallest number of a set, or none where it is empty
abbrev pub Least : Set → Option ℕ → Type 0
Least s None = s ≡ empty
Least s (Some n) = (s n ≡ true) × ((k : ℕ) → k < n → s k ≡ false)
