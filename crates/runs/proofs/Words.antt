-- The word of a stack in a buffer.
use Rattle.std.proofs.Common.{◌≡◌, ℕ, zero, suc, ◌+◌, ◌-◌, ◌<◌, ◌≤◌, Bool, true, false, if◌then◌else◌, List, [], ◌∷◌, ◌++◌, reverse, length, slice_index_or, take, slice_set, Some, None, refl, ap, ◌∙◌, add-one, arith}
use Rattle.std.specs.Bool.{then_some}
use Rattle.std.proofs.lemmas.List.{reverse-append, length-reverse, length-take-le, length-set, take_more, take_more_set}
use Rattle.std.proofs.lemmas.Bool.{lt-ltb}
use native.Mathlib.Numerals.{unary_clauses}
use Rattle.automaton.specs.declared.rules.Rule.{Rule}
use Rattle.automaton.specs.Pushdown.{Config, symbols, applied}
use Rattle.runs.specs.Stacks.{word_in, fits_stack}

abbrev pub config : ℕ → List ℕ → Config
config p w = record { control = p; word = w }

pub word_more : (b : List ℕ) (m : ℕ) → m < length b → word_in b (m + 1) ≡ slice_index_or b m 0 ∷ word_in b m
word_more b m h = ap reverse (take_more b m 0 h) ∙ reverse-append (take m b) (slice_index_or b m 0 ∷ [])

pub word_set : (b : List ℕ) (m a : ℕ) → m < length b → word_in (slice_set b m a) (m + 1) ≡ a ∷ word_in b m
word_set b m a h = ap reverse (take_more_set b m a h) ∙ reverse-append (take m b) (a ∷ [])

pub word_push : (b : List ℕ) (m a c : ℕ) → m + 1 < length b → word_in (slice_set (slice_set b m c) (m + 1) a) (m + 1 + 1) ≡ a ∷ (c ∷ word_in b m)
word_push b m a c h =
    let within : m + 1 < length (slice_set b m c) = rw length-set h in
    word_set (slice_set b m c) (m + 1) a within ∙ ap (λ w. a ∷ w) (word_set b m c (omega arith))

pub length_word : (b : List ℕ) (n : ℕ) → n ≤ length b → length (word_in b n) ≡ n
length_word b n h = length-reverse (take n b) ∙ length-take-le n b h

if_only : {A : Type 0} (b : Bool) (x : A) → (if b then Some x else None) ≡ then_some b x
if_only true x = refl
if_only false x = refl

-- what a rule makes of the configuration of a control and a stack
pub applied_stack : (r : Rule) (p : ℕ) (b : List ℕ) (n : ℕ) → n ≤ length b
    → applied r p (word_in b n) ≡ then_some (fits_stack r p b n) (config r.target (symbols r.word ++ word_in b (n - 1)))
applied_stack r p b zero h = refl
applied_stack r p b (suc m) h =
    let word : word_in b (suc m) ≡ slice_index_or b m 0 ∷ word_in b m = rw add-one at (word_more b m (omega arith)) in
    simp (unary_clauses, lt-ltb 0 (suc m) (omega arith)) (ap (applied r p) word ∙ if_only _ _)
