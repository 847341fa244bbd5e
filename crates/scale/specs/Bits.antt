-- Numbers by their bits: equations of `&` and `|` are those of `&&` and `||`.
use Rattle.std.specs.Prelude.{◌≡◌, ℕ, zero, suc, ◌+◌, ◌/◌, ◌%◌, ◌^◌, ◌≤◌, max, Bool, false, ◌&&◌, ◌||◌, ◌==◌, count_ones, refl}
use Rattle.std.proofs.Common.{sym, ◌∙◌, ap, arith}
use Rattle.std.proofs.Math.Arith.{bin_ind}
use Rattle.std.specs.Int.Bits.{bit_and, bit_or, and_step, or_step, or_zero_r}
use Rattle.std.proofs.lemmas.Nat.{and_shr, or_shr, and_mask}
use Rattle.std.specs.Int.Count.{ones_step}
use Rattle.std.proofs.lemmas.Bool.Decides.{nat_tests}

unfoldable pub bit : ℕ → ℕ → Bool
bit zero n = n % 2 == 1
bit (suc i) n = bit i (n / 2)

pub bit-bit_and : (i a b : ℕ) → bit i (bit_and a b) ≡ (bit i a && bit i b)
unfolding bit
bit-bit_and zero a b = grind (arith, nat_tests, and_step a b)
bit-bit_and (suc i) a b = ap (bit i) (and_shr a b 1) ∙ bit-bit_and i (a / 2) (b / 2)

pub bit-bit_or : (i a b : ℕ) → bit i (bit_or a b) ≡ (bit i a || bit i b)
unfolding bit
bit-bit_or zero a b = grind (arith, nat_tests, or_step a b)
bit-bit_or (suc i) a b = ap (bit i) (or_shr a b 1) ∙ bit-bit_or i (a / 2) (b / 2)

pub bit_word : (i n : ℕ) → bit i (n % 2 ^ 32) ≡ (bit i n && bit i 0xffffffff)
bit_word i n = ap (bit i) (sym (and_mask n 32)) ∙ bit-bit_and i n 0xffffffff

pub bit_zero : (i : ℕ) → bit i 0 ≡ false
unfolding bit
bit_zero zero = refl
bit_zero (suc i) = bit_zero i

pub ruleset bits = (bit-bit_and, bit-bit_or, bit_word, bit_zero)

pub same_bits : (a b : ℕ) → ((i : ℕ) → bit i a ≡ bit i b) → a ≡ b
unfolding bit
same_bits a b same = go (a + b) a b (omega arith) (omega arith) same
  where
    go : (n a b : ℕ) → a ≤ n → b ≤ n → ((i : ℕ) → bit i a ≡ bit i b) → a ≡ b
    go zero a b low_a low_b same = omega arith
    go (suc n) a b low_a low_b same =
        let halves : a / 2 ≡ b / 2 = go n (a / 2) (b / 2) (omega arith) (omega arith) (λ i. same (suc i)) in
        grind (arith, nat_tests, same 0)

-- a number with all the bits of another has as many ones, and more unless they are equal
pub more_ones : (b a : ℕ) → bit_or a b ≡ b → (count_ones a ≤ count_ones b) × (count_ones a ≡ count_ones b → a ≡ b)
more_ones =
    bin_ind (λ b. (a : ℕ) → bit_or a b ≡ b → (count_ones a ≤ count_ones b) × (count_ones a ≡ count_ones b → a ≡ b))
    (λ a covers. let e = sym (or_zero_r a) ∙ covers in (omega (arith, ap count_ones e), λ same. e))
    (λ b ih a covers.
    let low : max (a % 2) (b % 2) ≡ b % 2 = omega (arith, or_step a b) in
    let high = ih (a / 2) (sym (or_shr a b 1) ∙ ap (λ n. n / 2) covers) in
    (omega (arith, ones_step a, ones_step b), λ same. omega (arith, ones_step a, ones_step b, high.1 (omega (arith, ones_step a, ones_step b)))))
