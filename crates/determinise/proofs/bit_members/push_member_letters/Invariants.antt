use Rattle.digit_tuple.specs.Groups.{some_set}
use Rattle.digit_tuple.specs.Keys.{AreKeyTransitions, part_of}
use Rattle.determinise.specs.Bits.{members_in}
use Rattle.determinise.proofs.bit_members.push_member_letters.Given as goal

abbrev pub invariant-loop-letter : goal.invariant-loop-letter
invariant-loop-letter l = AreKeyTransitions l.letter (λ letter. some_set (members_in (part_of l.words l.width letter))) l.out
