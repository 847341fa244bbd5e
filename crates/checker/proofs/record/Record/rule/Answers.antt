use Rattle.std.proofs.Common.{[], map, arith}
use Rattle.std.proofs.lemmas.List.{map-set}
use Rattle.worklist.specs.Sets.{empty}
use Rattle.checker.specs.Views.{session_of}
use Rattle.checker.proofs.Refusing.{lent_tests, outcomes, rule_fitting, was_accepted}
use Rattle.checker.proofs.record.Record.rule.Goals as goal

pub returns-in_err-added-clause-did : goal.returns-in_err-added-clause-did
returns-in_err-added-clause-did g c = λ es. grind (arith, outcomes, c.in_err-added.ensures es (g.K.Worklist.waiting c.args.worklist.now))

pub append-number-requires-clause-fits : goal.append-number-requires-clause-fits
append-number-requires-clause-fits g c =
    let a = c.args in
    let before = session_of a.self.now [] (map g.S.Scale.value a.weights.now) empty (g.K.Worklist.room a.worklist.now) in
    let known = was_accepted _ _ c.in_ok-added.added (c.in_ok-added.ensures [] empty) in
    let fits = rule_fitting before a.control a.symbol a.target a.word.now known.0 in
    grind arith

pub append-number-requires-clause-room : goal.append-number-requires-clause-room
append-number-requires-clause-room g c = grind (arith, outcomes, lent_tests, c.in_ok-added.ensures [] empty)

pub append-number-requires-clause-weights : goal.append-number-requires-clause-weights
append-number-requires-clause-weights g c = grind (arith, outcomes, lent_tests, c.in_ok-added.ensures [] empty)

pub returns-clause-did : goal.returns-clause-did
returns-clause-did g c = λ es. grind (arith, outcomes, lent_tests, map-set, c.in_ok-added.ensures es (g.K.Worklist.waiting c.args.worklist.now))

pub unwrap-requires : goal.unwrap-requires
unwrap-requires g c = grind (arith, outcomes, lent_tests, c.in_ok-added.ensures [] empty)
