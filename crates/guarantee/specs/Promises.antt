-- What every list of calls on a fresh session keeps.
use Rattle.std.specs.Prelude.{◌≡◌, ℕ, ◌+◌, ◌-◌, ◌*◌, ◌^◌, ◌<◌, ◌≤◌, min, true, false, List, length, Some, Ok, slice_index_or}
use Rattle.scale.specs.Semiring.{Semiring, Covers}
use Rattle.automaton.specs.declared.sizes.Sizes.{Sizes}
use Rattle.automaton.specs.Pushdown.{Config, symbols, word_of, ends, run_weight}
use Rattle.automaton.specs.Automaton.{answer}
use Rattle.checker.specs.declared.answers.Report.{Report}
use Rattle.checker.specs.Session.{Session}
use Rattle.checker.specs.Did.{Event, Did, rule, settle}
use Rattle.guarantee.specs.Histories.{History, Fresh}
use Rattle.guarantee.specs.Accepted.{Answer, answer_of, no_addition, settles, total_raises, total_steps, total_budget, ruled, weighed, final_in, given}

module _ {V : Type 0} (s : Semiring V) where
  -- the target weight of a configuration, over so many states, by the edges and final states that were accepted
  abbrev pub target_weight : ℕ → List (Event V) → Config → V
  target_weight states es end = answer s (given s es) states (final_in es) end.control end.word

  -- a run's worth: its weight, extended by the target weight of the configuration where it ends
  abbrev pub worth : ℕ → List (Event V) → List ℕ → Config → V
  worth states es ns end = s.extend (run_weight s (weighed es) ns) (target_weight states es end)

  -- b covers the worth of every run of the accepted rules from the configuration of p and w
  abbrev pub CoversRuns : ℕ → List (Event V) → ℕ → List ℕ → V → Type 0
  CoversRuns states es p w b =
      (ns : List ℕ) (end : Config) → ends (ruled es) ns (record { control = p; word = w }) ≡ Some end → Covers s b (worth states es ns end)

  abbrev pub most_raises : Sizes → ℕ
  most_raises z = z.controls * z.symbols * z.states * s.height

  module _ {L : Type 0} (view : L → Session V) where
    abbrev sizes_of : L → Sizes
    sizes_of c = (view c).table.sizes

    pub record Promises : Type 0 where
      -- an answer is covered by each weight that covers the worth of every run
      pub least : (c d e : L) (es : List (Event V)) (q : Event V) (a : Answer V)
          → Fresh s view c → History s view c es d → Did s (view d) q (view e) → answer_of q ≡ Some a
          → (b : V) → CoversRuns (sizes_of c).states es a.control a.word b → Covers s b a.weight
      -- a settled or released answer covers the worth of every run
      pub covers : (c d e : L) (es : List (Event V)) (q : Event V) (a : Answer V)
          → Fresh s view c → History s view c es d → Did s (view d) q (view e) → answer_of q ≡ Some a → a.sure ≡ true
          → CoversRuns (sizes_of c).states es a.control a.word a.weight
      -- an answer covers each earlier one for the same configuration
      pub grows : (c d e f g : L) (es fs : List (Event V)) (q r : Event V) (a b : Answer V)
          → Fresh s view c → History s view c es d → Did s (view d) q (view e) → History s view e fs f → Did s (view f) r (view g)
          → answer_of q ≡ Some a → answer_of r ≡ Some b → a.control ≡ b.control → a.word ≡ b.word
          → Covers s b.weight a.weight
      pub few_raises : (c d : L) (es : List (Event V))
          → Fresh s view c → History s view c es d → total_raises (settles es) ≤ most_raises (sizes_of c)
      -- with no addition, the rules there take few steps
      pub few_steps : (c d e : L) (es fs : List (Event V))
          → Fresh s view c → History s view c es d → History s view d fs e → no_addition fs ≡ true
          → total_steps (settles fs) ≤ length (ruled es) * (1 + most_raises (sizes_of c))
      -- and of accepted settles whose budgets come to that many steps, the last answers settled
      pub comes_to_rest : (c d e f : L) (es fs : List (Event V)) (n : ℕ) (r : Report)
          → Fresh s view c → History s view c es d → History s view d fs e → no_addition fs ≡ true → Did s (view e) (settle n (Ok r)) (view f)
          → length (ruled es) * (1 + most_raises (sizes_of c)) ≤ total_budget (settles fs) + n
          → r.settled ≡ true
      -- a session holds the rules that were accepted, in their order, with their weights, and the final states that were marked
      pub rules : (c d : L) (es : List (Event V)) → Fresh s view c → History s view c es d → (view d).table.rules ≡ ruled es
      pub weights : (c d : L) (es : List (Event V)) → Fresh s view c → History s view c es d
          → (n : ℕ) → n < length (ruled es) → slice_index_or (view d).weights n s.none ≡ slice_index_or (weighed es) n s.none
      pub finals : (c d : L) (es : List (Event V)) → Fresh s view c → History s view c es d
          → (q : ℕ) → slice_index_or (view d).table.finals q false ≡ final_in es q
      -- an accepted rule leaves the word that was asked for
      pub words : (c d : L) (p g p2 : ℕ) (w : List ℕ) (f : V) (n : ℕ) → Did s (view c) (rule p g p2 w f (Ok n)) (view d) → symbols (word_of w) ≡ w
      -- the total is that of the raises reported, and stops at the largest number of 64 bits
      pub total : (c d : L) (es : List (Event V)) → Fresh s view c → History s view c es d
          → (view d).table.total ≡ min (total_raises (settles es)) (2 ^ 64 - 1)
