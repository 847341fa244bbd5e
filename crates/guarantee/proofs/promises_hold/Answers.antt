use Rattle.guarantee.specs.Histories.{held}
use Rattle.guarantee.proofs.Promised.{promised}
use Rattle.guarantee.proofs.promises_hold.Goals as goal

pub returns : goal.returns
returns g c =
    let laws = g.met.S.Scale in
    promised
    (record {
      combines = laws.combines;
      extends = laws.extends;
      absorbs = laws.absorbs;
      distributes = laws.distributes;
      bounded = laws.bounded;
      tells = laws.tells;
    })
    (held g.S.Scale.value g.K.Worklist.waiting g.K.Worklist.room)
