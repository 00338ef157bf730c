use Rattle.std.proofs.Common.{map}
use Rattle.dfa_reading.specs.LineLetters.{transition_to}
use Rattle.dfa_reading.proofs.Appended.{all_appended, map_appended}
use Rattle.dfa_reading.proofs.branching.push_letters.Goals as goal

pub loop-letter-preserved : goal.loop-letter-preserved
loop-letter-preserved c =
    map_appended (transition_to c.args.target) c.args.letters.now c.loop-letter.letter-index 0 c.args.transitions.now.items c.loop-letter.transitions.items c.push.new.self.items c.loop-letter-test.true c.loop-letter.invariant c.in_ok-push.ensures.items

pub returns : goal.returns
returns c = all_appended (map (transition_to c.args.target)) c.args.letters.now c.loop-letter.letter-index c.args.transitions.now.items c.loop-letter.transitions.items c.loop-letter-test.false c.loop-letter.invariant
