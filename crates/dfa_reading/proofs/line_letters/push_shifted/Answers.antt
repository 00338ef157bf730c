use Rattle.std.proofs.Common.{◌+◌, arith}
use Rattle.dfa_reading.specs.LineLetters.{shifted}
use Rattle.dfa_reading.proofs.Appended.{all_appended, map_appended}
use Rattle.dfa_reading.proofs.line_letters.push_shifted.Goals as goal

pub overflow_add-by : goal.overflow_add-by
overflow_add-by c = omega (arith, c.requires c.loop-letter.letter-index 0 c.loop-letter-test.true)

pub loop-letter-preserved : goal.loop-letter-preserved
loop-letter-preserved c =
    map_appended (λ letter. c.args.by + letter) c.args.letters.now c.loop-letter.letter-index 0 c.args.out.now.items c.loop-letter.out.items c.push.new.self.items c.loop-letter-test.true c.loop-letter.invariant c.in_ok-push.ensures.items

pub returns : goal.returns
returns c = all_appended (shifted c.args.by) c.args.letters.now c.loop-letter.letter-index c.args.out.now.items c.loop-letter.out.items c.loop-letter-test.false c.loop-letter.invariant
