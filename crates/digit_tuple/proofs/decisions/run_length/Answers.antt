use Rattle.std.proofs.Common.{◌<◌, arith}
use Rattle.std.proofs.lemmas.List.Elements.{All-more}
use Rattle.digit_tuple.specs.declared.transitions.Transition.{Transition}
use Rattle.digit_tuple.proofs.RowGrowthLemmas.{from_place}
use Rattle.digit_tuple.proofs.decisions.run_length.Goals as goal

pub returns-then-transitions-place-clause-later : goal.returns-then-transitions-place-clause-later
returns-then-transitions-place-clause-later c =
    let z : Transition = record { letter = 0; target = 0 } in
    from_place c.args.transitions.now c.loop-place.place c.args.bound z c.requires c.if-transitions-place.true c.loop-place-test.true

pub loop-place-preserved : goal.loop-place-preserved
loop-place-preserved c =
    let z : Transition = record { letter = 0; target = 0 } in
    All-more (λ transition. transition.letter < c.args.bound) c.args.transitions.now c.loop-place.place z c.loop-place-test.true c.loop-place.invariant (omega (arith, c.if-transitions-place.false))
