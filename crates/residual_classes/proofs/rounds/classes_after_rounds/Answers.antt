use Rattle.std.proofs.Common.{◌≤◌, subst, sym, arith}
use Rattle.std.proofs.lemmas.Nat.{mul-le}
use Rattle.digit_tuple.specs.Deterministic.{states_of}
use Rattle.digit_tuple.specs.TransitionCounts.{transition_count}
use Rattle.residual_classes.specs.RoundCosts.{IsCheap}
use Rattle.residual_classes.proofs.RoundLemmas.{HasRoom-cheap, IsCheap-fewer, IsCheap-none, next_round_within}
use Rattle.residual_classes.proofs.rounds.classes_after_rounds.Goals as goal

pub loop-round-init : goal.loop-round-init
loop-round-init g c =
    let n = states_of c.args.machine.now.dfa.now in
    let is = c.states-states.ensures.value in
    let digits = c.binary_digits-round-end.result in
    record {
      hashes = c.requires.hashes;
      counted = c.in_ok-counted.ensures.counted;
      cheap = subst (IsCheap n 0) (sym c.in_ok-counted.ensures.largest) (IsCheap-none n digits c.states-states.ensures.table.initial (omega (arith, c.binary_digits-round-end.ensures.enough, is)) (λ b less. c.binary_digits-round-end.ensures.least b (omega (arith, less, is))));
      looks = omega arith;
    }

pub returns-then-is_last-clause-room : goal.returns-then-is_last-clause-room
returns-then-is_last-clause-room g c unstable =
    let m = c.args.machine.now in
    let counted = c.is_last.new.self in
    let round = c.loop-round.round in
    HasRoom-cheap m.dfa.now m.outputs.now counted c.args.looks.now c.loop-round.looks round c.in_ok-is_last.ensures.counted
    (IsCheap-fewer (states_of m.dfa.now) round c.loop-round.counted.largest counted.largest c.in_ok-is_last.ensures.largest c.loop-round.invariant.cheap) c.loop-round.invariant.looks

pub returns-in_err-advance-clause-looks : goal.returns-in_err-advance-clause-looks
returns-in_err-advance-clause-looks g c b less = next_round_within (transition_count c.args.machine.now.dfa.now) b c.binary_digits-round-end.result c.loop-round.round c.args.looks.now c.loop-round.looks c.advance.new.looks
    (c.binary_digits-round-end.ensures.least b (omega (arith, less, c.states-states.ensures.value))) c.loop-round-test.true c.loop-round.invariant.looks c.advance.ensures.looks

pub returns-in_err-classes-clause-looks : goal.returns-in_err-classes-clause-looks
returns-in_err-classes-clause-looks g c b less = next_round_within (transition_count c.args.machine.now.dfa.now) b c.binary_digits-round-end.result c.loop-round.round c.args.looks.now c.loop-round.looks c.advance.new.looks
    (c.binary_digits-round-end.ensures.least b (omega (arith, less, c.states-states.ensures.value))) c.loop-round-test.true c.loop-round.invariant.looks c.advance.ensures.looks

pub returns-in_err-is_stable-clause-looks : goal.returns-in_err-is_stable-clause-looks
returns-in_err-is_stable-clause-looks g c b less = next_round_within (transition_count c.args.machine.now.dfa.now) b c.binary_digits-round-end.result c.loop-round.round c.args.looks.now c.loop-round.looks c.advance.new.looks
    (c.binary_digits-round-end.ensures.least b (omega (arith, less, c.states-states.ensures.value))) c.loop-round-test.true c.loop-round.invariant.looks c.advance.ensures.looks

pub returns-then-branch-clause-looks : goal.returns-then-branch-clause-looks
returns-then-branch-clause-looks g c b less = next_round_within (transition_count c.args.machine.now.dfa.now) b c.binary_digits-round-end.result c.loop-round.round c.args.looks.now c.loop-round.looks c.advance.new.looks
    (c.binary_digits-round-end.ensures.least b (omega (arith, less, c.states-states.ensures.value))) c.loop-round-test.true c.loop-round.invariant.looks c.advance.ensures.looks

pub is_last-requires-clause-rounds : goal.is_last-requires-clause-rounds
is_last-requires-clause-rounds g c = omega (arith, c.loop-round-test.true, c.binary_digits-round-end.ensures.few)

pub loop-round-preserved : goal.loop-round-preserved
loop-round-preserved g c = record {
  hashes = c.in_ok-advance.ensures.coarse;
  counted = c.in_ok-is_last.ensures.counted;
  cheap = c.in_ok-is_last.ensures.cheap c.if-is_last.false;
  looks = omega (arith, c.advance.ensures.looks, c.loop-round.invariant.looks);
}

pub returns-then-branch-clause-coarse : goal.returns-then-branch-clause-coarse
returns-then-branch-clause-coarse g c = c.in_ok-classes.ensures

pub returns-clause-coarse : goal.returns-clause-coarse
returns-clause-coarse g c = c.loop-round.invariant.counted.coarse

pub returns-clause-looks : goal.returns-clause-looks
returns-clause-looks g c b less =
    let rounds : c.loop-round.round ≤ b = omega (arith, c.loop-round.auto.round-end, c.binary_digits-round-end.ensures.least b (omega (arith, less, c.states-states.ensures.value))) in
    omega (arith, c.loop-round.invariant.looks, mul-le c.loop-round.round (transition_count c.args.machine.now.dfa.now) b (transition_count c.args.machine.now.dfa.now) rounds (omega arith))

pub returns-clause-room : goal.returns-clause-room
returns-clause-room g c unstable =
    let m = c.args.machine.now in
    HasRoom-cheap m.dfa.now m.outputs.now c.loop-round.counted c.args.looks.now c.loop-round.looks c.loop-round.round c.loop-round.invariant.counted c.loop-round.invariant.cheap c.loop-round.invariant.looks
