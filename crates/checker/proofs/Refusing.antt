-- Answers that are refused or not, and what a call that is not refused knows.
use Rattle.std.proofs.Common.{◌≡◌, ◌⊎◌, ℕ, ◌<◌, ◌≤◌, Bool, true, List, [], ◌∷◌, length, Some, None, Ok, Err, Option, Result, refl, inl, inr, arith}
use Rattle.std.proofs.lemmas.Bool.Decides.{nat_tests}
use Rattle.std.proofs.lemmas.List.{length-map}
use Rattle.automaton.specs.Pushdown.{symbols, word_of}
use Rattle.automaton.specs.Limits.{all_below, rule_fits, edge_fits}
use Rattle.checker.specs.Refusals.{Reason}
use Rattle.checker.specs.Session.{Session}
use Rattle.checker.specs.Checks.{refused_or, left_or, rule_refusal, edge_refusal, question_refusal}
use Rattle.checker.specs.Calls.{new_rule}

-- what the tests of lent slices come to
pub ruleset lent_tests = (nat_tests, length-map)

-- an answer is refused or not, and so is what the call leaves
pub refused_or_tells : {A : Type 0} (o : Option Reason) (x : A) → ((refused_or o x ≡ Ok x) × (o ≡ None)) ⊎ ((e : Reason) × (refused_or o x ≡ Err e) × (o ≡ Some e))
refused_or_tells None x = inl (refl, refl)
refused_or_tells (Some e) x = inr (e, refl, refl)

pub left_or_tells : {A : Type 0} (o : Option Reason) (before after : A) → ((left_or o before after ≡ after) × (o ≡ None)) ⊎ ((e : Reason) × (left_or o before after ≡ before) × (o ≡ Some e))
left_or_tells None before after = inl (refl, refl)
left_or_tells (Some e) before after = inr (e, refl, refl)

pub ruleset outcomes = (refused_or_tells, left_or_tells)

pub was_accepted : {A : Type 0} (o : Option Reason) (x y : A) → ◌≡◌ {A = Result A Reason} (Ok y) (refused_or o x) → (o ≡ None) × (y ≡ x)
was_accepted o x y is = grind (arith, refused_or_tells)

word_fits : (n : ℕ) (w : List ℕ) → all_below n w ≡ true → all_below n (symbols (word_of w)) ≡ true
word_fits n [] all = refl
word_fits n (a ∷ []) all = all
word_fits n (a ∷ (b ∷ w)) all = grind (arith, nat_tests)

module _ {V : Type 0} (c : Session V) where
  module _ (p g p2 : ℕ) (w : List ℕ) (accepted : rule_refusal c p g p2 w ≡ None) where
    pub rule_weights : c.table.sizes.limit ≤ length c.weights
    rule_weights = grind (arith, nat_tests)

    pub rule_count : length c.table.rules < c.table.sizes.limit
    rule_count = grind (arith, nat_tests)

    pub rule_fitting : rule_fits c.table.sizes (new_rule p g p2 w) ≡ true
    rule_fitting = let word = word_fits c.table.sizes.symbols w in grind (arith, nat_tests)

  module _ (q g q2 : ℕ) (accepted : edge_refusal c q g q2 ≡ None) where
    pub edge_fitting : edge_fits c.table.sizes q g q2 ≡ true
    edge_fitting = grind (arith, nat_tests)

  module _ (staged : Bool) (n p : ℕ) (w : List ℕ) (accepted : question_refusal staged c n p w ≡ None) where
    pub question_control : p < c.table.sizes.controls
    question_control = grind (arith, nat_tests)

    pub question_word : all_below c.table.sizes.symbols w ≡ true
    question_word = grind (arith, nat_tests)
