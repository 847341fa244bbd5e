-- The laws of minutes.
use Rattle.std.specs.Prelude.{◌≡◌, ℕ, ◌+◌, ◌≤◌, min, ◌≢◌}
use Rattle.std.proofs.Common.{ap, arith}
use mathlib.Core.HLevel.{is_prop→PathP}
use Rattle.std.proofs.Math.Bridge.{le_prop}
use Rattle.std.proofs.lemmas.Bool.Decides.{nat_tests}
use Rattle.scale.specs.Minutes.{Time, time, smaller, minute_values}
use Rattle.scale.specs.WithNoneLemmas.{Lawful}

same_count : (a b : Time) → a.count ≡ b.count → a ≡ b
same_count a b e = λ i. record { count = e i; fits = is_prop→PathP (λ j. e j ≤ 10000) (λ j. le_prop) a.fits b.fits i }

pub stopped : (n : ℕ) → time (min n 10000) ≡ time n
stopped n = same_count _ _ (omega arith)

-- any two numbers are combined and extended as their values are
pub combined_times : (a b : ℕ) → time (min a b) ≡ smaller (time a) (time b)
combined_times a b = same_count _ _ (omega arith)

pub extended_times : (a b : ℕ) → time (min (a + b) 0xffffffff) ≡ time ((time a).count + (time b).count)
extended_times a b = same_count _ _ (omega arith)

pub minute_laws : Lawful minute_values
minute_laws = record {
  combine_assoc = λ a b c. same_count _ _ (omega arith);
  combine_comm = λ a b. same_count _ _ (omega arith);
  combine_idem = λ a. same_count _ _ (omega arith);
  extend_assoc = λ a b c. same_count _ _ (omega arith);
  one_left = λ a. same_count _ _ (omega arith);
  one_right = λ a. same_count _ _ (omega arith);
  extend_left = λ a b c. same_count _ _ (omega arith);
  extend_right = λ a b c. same_count _ _ (omega arith);
  above_none = λ a. omega arith;
  within = λ a. omega arith;
  rises = λ a b covers apart.
      let less : min a.count b.count ≡ b.count = ap (λ t. t.count) covers in
      let other : a.count ≢ b.count = λ e. apart (same_count a b e) in
      omega arith;
  tells = λ a b. grind (arith, nat_tests, same_count);
}
