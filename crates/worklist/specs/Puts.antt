-- What a worklist answers when a number is put.
use Rattle.std.specs.Prelude.{ℕ, if◌then◌else◌, Ok, Err, Result, nat_lt}

-- a number is refused exactly when it is not below the capacity
abbrev pub put_answer : ℕ → ℕ → Result (Unit {0}) ℕ
put_answer capacity n = if nat_lt n capacity then Ok tt else Err n
