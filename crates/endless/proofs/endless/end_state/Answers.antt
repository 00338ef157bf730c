use Rattle.std.proofs.Common.{◌<◌, arith}
use Rattle.digit_tuple.specs.Deterministic.{states_of}
use Rattle.endless.proofs.EndLemmas.{ends_same}
use Rattle.endless.proofs.endless.end_state.Goals as goal

pub returns-then-branch : goal.returns-then-branch
returns-then-branch c =
    let within : c.loop-state.state < states_of c.args.language.now = omega (arith, c.loop-state-test.true, c.states-states.ensures.value) in
    let end = c.in_ok-is_end.ensures.0 c.if-branch.true in
    record { end = λ low. end; only = λ q low other. ends_same c.args.language.now c.requires.canonical q c.loop-state.state low within other end }
