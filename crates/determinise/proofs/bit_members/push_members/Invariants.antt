use Rattle.determinise.proofs.BitMemberLemmas.{AreMembersBelow}
use Rattle.determinise.proofs.bit_members.push_members.Given as goal

abbrev pub invariant-loop-place : goal.invariant-loop-place
invariant-loop-place l = AreMembersBelow l.words l.place l.members.items
