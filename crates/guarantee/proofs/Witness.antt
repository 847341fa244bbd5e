-- A fresh session, a final state, a rule, a settle and a sure answer: there are lists of calls for the promises to speak of.
use Rattle.std.proofs.Common.{◌≡◌, ℕ, zero, suc, Bool, true, false, not, ◌&&◌, ◌||◌, List, [], ◌∷◌, Ok, refl, ap, arith}
use mathlib.Core.Path.{fun_ext}
use lib.Dec.{eqb-suc-zero}
use Rattle.std.proofs.lemmas.Bool.{both_ways}
use Rattle.scale.specs.YesNo.{yes_no}
use Rattle.automaton.specs.declared.sizes.Sizes.{Sizes}
use Rattle.checker.specs.declared.answers.Report.{Report}
use Rattle.checker.specs.Session.{Session}
use Rattle.checker.specs.Calls.{opened, marked, in_table, rule_added, stepped, done, next, Ran, counted}
use Rattle.checker.specs.Did.{Event, rule, final, settle, question}
use Rattle.guarantee.specs.Histories.{History, nothing, and_then, Fresh}

abbrev one_each : Sizes
one_each = record { controls = 1; states = 1; symbols = 1; limit = 1 }

abbrev start : Session Bool
start = opened yes_no one_each (true ∷ []) (false ∷ []) 1

fresh : Fresh yes_no (λ c. c) start
fresh = record { sizes = one_each; edges = true ∷ []; weights = false ∷ []; room = 1; accepted = refl; is = refl }

abbrev with_rule : Session Bool
with_rule = rule_added (in_table start (marked start.table 0)) 0 0 0 [] true

abbrev at_rest : Session Bool
at_rest = (stepped yes_no with_rule 0).0

rests : (n : ℕ) → at_rest.waiting n ≡ false
rests zero = refl
rests (suc n) = ap (λ b. (((false || b) && not b) || false)) (eqb-suc-zero n)

abbrev report : Report
report = record { steps = 1; raises = 1; settled = true }

ran : Ran yes_no with_rule 5 report at_rest
ran = record {
  taken = 0 ∷ [];
  made = next refl done;
  steps = refl;
  within = omega arith;
  settled = (λ e. fun_ext rests, λ e. refl);
  spent = λ e. absurd (both_ways true e refl);
}

calls : List (Event Bool)
calls = final 0 (Ok tt) ∷ (rule 0 0 0 [] true (Ok 0) ∷ (settle 5 (Ok report) ∷ (question 0 (0 ∷ []) 2 (Ok (true, true)) ∷ [])))

history : History yes_no (λ c. c) start calls (counted at_rest 1)
unfolding calls
history =
    and_then ((refl, refl), refl) (and_then (refl, refl) (and_then {d = counted at_rest 1} (at_rest, ran, refl)
    (and_then (refl, (refl, refl, (λ e. fun_ext rests, λ e. refl))) nothing)))
