use Rattle.std.proofs.Common.{take}
use Rattle.determinise.proofs.PlaceLemmas.{AreMembersAt}
use Rattle.determinise.proofs.bit_members.push_at.Given as goal

abbrev pub invariant-loop-place : goal.invariant-loop-place
invariant-loop-place l = AreMembersAt l.words (take l.place-index l.places) l.members.items
