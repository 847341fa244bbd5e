-- An entry of a replay is a step of the run.
use Rattle.std.proofs.Common.{◌≡◌, ℕ, ◌+◌, ◌-◌, ◌<◌, ◌≤◌, Bool, true, false, nat_lt, nat_le, List, ◌++◌, length, slice_index_or, slice_set, Some, None, Ok, Err, Option, Result, refl, ◌∙◌, arith}
use Rattle.std.specs.Bool.{then_some}
use Rattle.std.proofs.lemmas.List.{length-set}
use Rattle.std.proofs.lemmas.Bool.{ltb-true}
use Rattle.std.proofs.lemmas.Bool.Decides.{nat_tests}
use Rattle.scale.specs.Semiring.{Semiring}
use Rattle.automaton.specs.declared.rules.Rule.{Rule}
use Rattle.automaton.specs.declared.rules.Word.{Word}
use Rattle.automaton.specs.declared.rules.Word.TheVariants.{Pop, Swap, Push}
use Rattle.automaton.specs.Pushdown.{Config, symbols, at, then, applied}
use Rattle.runs.specs.declared.replay.Stop.{Stop}
use Rattle.runs.specs.Bounded.{step_within}
use Rattle.runs.specs.Stacks.{Point, word_in, fits_stack, replaced, left_by, entered_by, entered}
use Rattle.runs.proofs.Words.{config, word_set, word_push, length_word, applied_stack}

module _ {V : Type 0} (s : Semiring V) (rules : List Rule) (weights : List V) (place k : ℕ) (x : Point V) (b : List ℕ) where
  -- an entry and a step come to the same: the same configuration with the weight extended, or nothing
  abbrev pub Agrees : Result (Point V × List ℕ) Stop → Option Config → Type 0
  Agrees (Ok y) o =
      (o ≡ Some (config y.0.control (word_in y.1 y.0.length)))
      × (length y.1 ≡ length b)
      × (y.0.length ≤ length y.1)
      × (y.0.weight ≡ s.extend x.weight (slice_index_or weights k s.none))
  Agrees (Err e) o = o ≡ None

  module _ (room : x.length ≤ length b) (r : Rule) (some : 0 < x.length) where
    abbrev rest : List ℕ
    rest = word_in b (x.length - 1)

    abbrev yields : Word → Option Config
    yields w = then_some (nat_le (length (symbols w ++ rest)) (length b)) (config r.target (symbols w ++ rest))

    rest_length : length rest ≡ x.length - 1
    rest_length = length_word b (x.length - 1) (omega arith)

    back : (x.length - 1) + 1 ≡ x.length
    back = omega arith

    -- a rule that fits, by its word
    by_word : (w : Word) → Agrees (left_by s rules weights place k x r (replaced w b x.length)) (yields w)
    by_word Pop = (grind (arith, nat_tests, rest_length), refl, omega arith, refl)
    by_word (Swap a) =
        let word = word_set b (x.length - 1) a (omega arith) in
        let long = length-set b (x.length - 1) a in
        (grind (arith, nat_tests, rest_length, back, word), long, omega (arith, long), refl)
    by_word (Push a c) = by_room (nat_lt x.length (length b)) refl
      where
        made : ℕ × List ℕ
        made = (x.length + 1, slice_set (slice_set b (x.length - 1) c) x.length a)

        by_room : (t : Bool) → nat_lt x.length (length b) ≡ t → Agrees (left_by s rules weights place k x r (then_some t made)) (yields (Push a c))
        by_room true fits =
            let below = ltb-true _ _ fits in
            let word = word_push b (x.length - 1) a c (omega arith) in
            let long = length-set (slice_set b (x.length - 1) c) x.length a ∙ length-set b (x.length - 1) c in
            (grind (arith, nat_tests, rest_length, back, word), long, omega (arith, long), refl)
        by_room false full = grind (arith, nat_tests, rest_length)

  -- a rule, whether it fits or not
  by_fit : (room : x.length ≤ length b) (r : Rule) (t : Bool) → (t ≡ true → 0 < x.length)
      → Agrees (entered_by s rules weights place k x b (then_some t r))
      (then (then_some t (config r.target (symbols r.word ++ word_in b (x.length - 1)))) (λ d. then_some (nat_le (length d.word) (length b)) d))
  by_fit room r true some = by_word room r (some refl) r.word
  by_fit room r false some = refl

  by_rule : (room : x.length ≤ length b) (o : Option Rule)
      → Agrees (entered_by s rules weights place k x b (then o (λ r. then_some (fits_stack r x.control b x.length) r)))
      (then o (λ r. then (applied r x.control (word_in b x.length)) (λ d. then_some (nat_le (length d.word) (length b)) d)))
  by_rule room None = refl
  by_rule room (Some r) =
      rw (applied_stack r x.control b x.length room) (by_fit room r (fits_stack r x.control b x.length) (λ h. grind (arith, nat_tests)))

  pub entry_steps : x.length ≤ length b → Agrees (entered s rules weights place k x b) (step_within rules (length b) k (config x.control (word_in b x.length)))
  entry_steps room = by_rule room (at rules k)
