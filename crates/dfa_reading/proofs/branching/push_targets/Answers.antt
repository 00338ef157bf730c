use Rattle.std.proofs.Common.{map, arith}
use Rattle.dfa_reading.specs.LineLetters.{transition_to, transitions_by}
use Rattle.dfa_reading.proofs.Appended.{all_appended, lists_appended}
use Rattle.dfa_reading.proofs.branching.push_targets.Goals as goal

pub overflow_cast-target : goal.overflow_cast-target
overflow_cast-target c = omega (arith, c.requires c.loop-target.target-index 0 c.loop-target-test.true)

pub loop-target-preserved : goal.loop-target-preserved
loop-target-preserved c =
    lists_appended (λ target. map (transition_to target) c.args.letters.now) c.args.targets.now c.loop-target.target-index 0 c.args.transitions.now.items c.loop-target.transitions.items c.push_letters.new.transitions.items c.loop-target-test.true c.loop-target.invariant
    c.in_ok-push_letters.ensures

pub returns : goal.returns
returns c = all_appended (transitions_by c.args.letters.now) c.args.targets.now c.loop-target.target-index c.args.transitions.now.items c.loop-target.transitions.items c.loop-target-test.false c.loop-target.invariant
