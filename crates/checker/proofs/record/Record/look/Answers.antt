use Rattle.std.proofs.Common.{◌≡◌, Some, sym, refl, ap, ◌∙◌, arith}
use Rattle.automaton.specs.Pushdown.{at}
use Rattle.automaton.proofs.Places.{value_read}
use Rattle.checker.specs.Calls.{looked}
use Rattle.checker.specs.Views.{table_of}
use Rattle.checker.proofs.Looking.{read_at}
use Rattle.checker.proofs.Refusing.{lent_tests}
use Rattle.checker.proofs.record.Record.look.Goals as goal

pub returns-then-raises-gt0 : goal.returns-then-raises-gt0
returns-then-raises-gt0 g c =
    let a = c.args in
    let live = c.live_rules in
    let rule : at (table_of a.self.now).rules a.number ≡ Some c.in-Some.rule =
    ap (λ rs. at rs a.number) (sym live.ensures.is) ∙ read_at live.result.now a.number c.in-Some.rule (grind arith) (grind arith) in
    let weight = value_read g.S.Scale.value a.weights.now a.number c.index-weights-number.result g.S.Scale.values.none (grind (arith, lent_tests)) c.index-weights-number.is in
    record {
      after = rw (rule, looked) (grind (arith, lent_tests));
      raises = rw (rule, looked) (grind (arith, lent_tests));
      few = grind (arith, lent_tests);
      kept = c.put_readers.ensures.kept;
      rest = c.saturate.ensures.rest;
    }

pub returns-else-raises-gt0 : goal.returns-else-raises-gt0
returns-else-raises-gt0 g c =
    let a = c.args in
    let live = c.live_rules in
    let rule : at (table_of a.self.now).rules a.number ≡ Some c.in-Some.rule =
    ap (λ rs. at rs a.number) (sym live.ensures.is) ∙ read_at live.result.now a.number c.in-Some.rule (grind arith) (grind arith) in
    let weight = value_read g.S.Scale.value a.weights.now a.number c.index-weights-number.result g.S.Scale.values.none (grind (arith, lent_tests)) c.index-weights-number.is in
    record {
      after = rw (rule, looked) (grind (arith, lent_tests));
      raises = rw (rule, looked) (grind (arith, lent_tests));
      few = grind (arith, lent_tests);
      kept = refl;
      rest = c.saturate.ensures.rest;
    }
