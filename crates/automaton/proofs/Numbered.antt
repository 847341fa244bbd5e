-- What a list has at a number.
use Rattle.std.proofs.Common.{◌≡◌, ℕ, ◌<◌, ◌≤◌, List, length, slice_index_or, Some, None}
use Rattle.std.proofs.lemmas.Option.{slice_get-get_or, slice_get_past}
use Rattle.automaton.specs.Pushdown.{at}

pub at_within : {A : Type 0} (xs : List A) (n : ℕ) (d : A) → n < length xs → at xs n ≡ Some (slice_index_or xs n d)
at_within xs n d h = slice_get-get_or xs n d h

pub at_past : {A : Type 0} (xs : List A) (n : ℕ) → length xs ≤ n → at xs n ≡ None
at_past xs n h = slice_get_past xs n h
