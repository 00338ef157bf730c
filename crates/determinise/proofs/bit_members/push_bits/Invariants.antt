use Rattle.determinise.proofs.BitMemberLemmas.{IsAdding}
use Rattle.determinise.proofs.bit_members.push_bits.Given as goal

abbrev pub invariant-loop-rest : goal.invariant-loop-rest
invariant-loop-rest l = IsAdding l.initial.members.items l.first l.word l.rest l.members.items

abbrev pub decreases-loop-rest : goal.decreases-loop-rest
decreases-loop-rest l = l.rest
