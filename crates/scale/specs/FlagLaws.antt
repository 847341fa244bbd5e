-- The laws of two words of flags.
use Rattle.std.specs.Prelude.{◌≡◌, ℕ, ◌%◌, ◌^◌, ◌<◌, ◌&&◌, ◌||◌, ◌≢◌, bit_and}
use Rattle.std.proofs.Common.{sym, ◌∙◌, ap, ⊎_elim, mod-eq_of_lt, arith}
use mathlib.Core.HLevel.{is_prop→PathP}
use Rattle.std.proofs.Math.Bridge.{le_prop}
use Rattle.std.proofs.Math.Nat.{ℕ_set}
use Rattle.std.specs.Int.Bits.{bit_or, or_add_and}
use Rattle.std.proofs.lemmas.Nat.{and_le_l, or_lt, ones-le}
use Rattle.std.proofs.lemmas.Bool.{cases_lt}
use Rattle.std.proofs.lemmas.Bool.Decides.{nat_tests}
use Rattle.scale.specs.Flags.{Words, words, flag_values}
use Rattle.scale.specs.WithNoneLemmas.{Lawful}
use Rattle.scale.specs.Bits.{bit, bits, bit-bit_or, bit_word, same_bits, more_ones}

same_words : (a b : Words) → a.keep ≡ b.keep → a.set ≡ b.set → a ≡ b
same_words a b p q = λ i. record {
  keep = p i;
  set = q i;
  fits = is_prop→PathP (λ j. p j < 2 ^ 32) (λ j. le_prop) a.fits b.fits i;
  within = is_prop→PathP (λ j. bit_or (p j) (q j) ≡ p j) (λ j. ℕ_set _ _) a.within b.within i;
}

by_bits : (a b : Words) → ((i : ℕ) → (bit i a.keep ≡ bit i b.keep) × (bit i a.set ≡ bit i b.set)) → a ≡ b
by_bits a b same = same_words a b (same_bits _ _ (λ i. (same i).0)) (same_bits _ _ (λ i. (same i).1))

-- what is set is kept, and what is kept is one of 32
known : (w : Words) (i : ℕ) → ((bit i w.keep || bit i w.set) ≡ bit i w.keep) × ((bit i w.keep && bit i 0xffffffff) ≡ bit i w.keep)
known w i = (sym (bit-bit_or i w.keep w.set) ∙ ap (bit i) w.within, sym (bit_word i w.keep) ∙ ap (bit i) (mod-eq_of_lt w.fits))

pub widened_words : (keep set : ℕ) → words (bit_or keep set) set ≡ words keep set
widened_words keep set = by_bits _ _ (λ i. simp bits (grind arith))

-- any two words are combined and extended as their values are
pub combined_words : (k1 s1 k2 s2 : ℕ) → words (bit_or k1 k2) (bit_or s1 s2) ≡ flag_values.combine (words k1 s1) (words k2 s2)
combined_words k1 s1 k2 s2 = by_bits _ _ (λ i. simp bits (grind arith))

pub extended_words : (k1 s1 k2 s2 : ℕ) → words (bit_and k1 k2) (bit_or (bit_and s1 k2) s2) ≡ flag_values.extend (words k1 s1) (words k2 s2)
extended_words k1 s1 k2 s2 = by_bits _ _ (λ i. simp bits (grind arith))

pub word_or : (a b : ℕ) → a < 2 ^ 32 → b < 2 ^ 32 → bit_or a b % 2 ^ 32 ≡ bit_or a b
word_or a b fits_a fits_b = mod-eq_of_lt (or_lt 32 a b fits_a fits_b)

set_fits : (w : Words) → w.set < 2 ^ 32
set_fits w = omega (arith, w.fits, w.within, or_add_and w.keep w.set, and_le_l w.keep w.set)

rises : (a b : Words) → flag_values.combine a b ≡ b → (a ≢ b) → flag_values.rank a < flag_values.rank b
rises a b covers apart =
    let keep = more_ones b.keep a.keep (same_bits _ _ (λ i. let e = simp bits at (ap (λ w. bit i w.keep) covers) in simp bits (grind (arith, known a i, known b i)))) in
    let set = more_ones b.set a.set (same_bits _ _ (λ i. let e = simp bits at (ap (λ w. bit i w.set) covers) in simp bits (grind (arith, known a i, known b i)))) in
    ⊎_elim (λ less. less) (λ not_less. absurd (apart (same_words a b (keep.1 (omega arith)) (set.1 (omega arith))))) (cases_lt (flag_values.rank a) (flag_values.rank b))

pub flag_laws : Lawful flag_values
flag_laws = record {
  combine_assoc = λ a b c. by_bits _ _ (λ i. simp bits (grind (arith, known a i, known b i, known c i)));
  combine_comm = λ a b. by_bits _ _ (λ i. simp bits (grind arith));
  combine_idem = λ a. by_bits _ _ (λ i. simp bits (grind (arith, known a i)));
  extend_assoc = λ a b c. by_bits _ _ (λ i. simp bits (grind (arith, known a i, known b i, known c i)));
  one_left = λ a. by_bits _ _ (λ i. simp bits (grind (arith, known a i)));
  one_right = λ a. by_bits _ _ (λ i. simp bits (grind (arith, known a i)));
  extend_left = λ a b c. by_bits _ _ (λ i. simp bits (grind (arith, known a i, known b i, known c i)));
  extend_right = λ a b c. by_bits _ _ (λ i. simp bits (grind (arith, known a i, known b i, known c i)));
  above_none = λ a. omega arith;
  within = λ a. omega (arith, ones-le 32 a.keep a.fits, ones-le 32 a.set (set_fits a));
  rises = rises;
  tells = λ a b. grind (arith, nat_tests, same_words);
}
