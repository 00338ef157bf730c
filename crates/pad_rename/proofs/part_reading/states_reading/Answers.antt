use Rattle.std.proofs.Common.{◌≡◌, subst, arith}
use Rattle.digit_tuple.specs.Deterministic.{states_of}
use Rattle.digit_tuple.specs.DfaRows.{states_in}
use Rattle.pad_rename.specs.PartReading.{AreReading}
use Rattle.pad_rename.proofs.PartReadingLemmas.{AreReading-push}
use Rattle.pad_rename.proofs.part_reading.states_reading.Goals as goal

pub loop-state-preserved : goal.loop-state-preserved
loop-state-preserved c =
    AreReading-push c.args.dfa.now c.args.parts.now c.loop-state.state c.loop-state.states.items c.push.new.self.items c.in_ok-state_reading.field-0
    c.in_ok-push.ensures.items c.loop-state.invariant c.in_ok-state_reading.ensures

pub returns : goal.returns
returns c =
    let all : c.loop-state.state ≡ states_of c.args.dfa.now = omega (arith, c.loop-state-test.false, c.loop-state.auto.state-end, c.states-count.ensures.value) in
    subst (λ n. AreReading c.args.dfa.now c.args.parts.now n (states_in c.loop-state.states.items)) all c.loop-state.invariant
