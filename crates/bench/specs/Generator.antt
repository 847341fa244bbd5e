-- A linear congruential generator.
use Rattle.std.specs.Prelude.{ℕ, zero, suc, ◌+◌, ◌*◌, ◌%◌, ◌^◌}

-- the state after a state
abbrev pub following : ℕ → ℕ
following state = (state * 1103515245 + 12345) % 2 ^ 32

-- what a bound leaves of a number; nothing where it is 0
abbrev pub remainder : ℕ → ℕ → ℕ
remainder number zero = 0
remainder number (suc bound) = number % suc bound
