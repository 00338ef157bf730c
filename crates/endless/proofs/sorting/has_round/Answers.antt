use Rattle.std.proofs.Common.{◌<◌, arith}
use Rattle.std.proofs.lemmas.List.{get_or_default}
use Rattle.digit_tuple.specs.Deterministic.{states_of}
use Rattle.endless.proofs.PathLemmas.{HasRound-left}
use Rattle.endless.proofs.sorting.has_round.Goals as goal

pub returns-then-index-gt0-clause-round : goal.returns-then-index-gt0-clause-round
returns-then-index-gt0-clause-round c = λ t.
    let within : c.loop-state.state < states_of c.args.language.now = omega (arith, c.loop-state-test.true, c.len-state-end.ensures, c.in_ok-pending.ensures.width) in
    HasRound-left c.args.language.now c.args.without c.in_ok-pending.pending.items c.loop-state.state c.in_ok-pending.ensures within
    (omega (arith, c.if-index-gt0.true, c.index.ensures, get_or_default c.in_ok-pending.pending.items c.loop-state.state c.index.result.now 0 (omega (arith, within, c.in_ok-pending.ensures.width))))
