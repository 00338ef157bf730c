use Rattle.std.proofs.Common.{sym, subst, arith}
use Rattle.determinise.proofs.BitMemberLemmas.{AreMembersBelow, AreMembersBelow-none, AreMembersBelow-more, all_below, members_in_all}
use Rattle.determinise.proofs.bit_members.push_members.Goals as goal

pub loop-place-init : goal.loop-place-init
loop-place-init c = subst (AreMembersBelow c.args.words.now 0) (sym c.requires.empty) (AreMembersBelow-none c.args.words.now)

pub push_bits-requires-clause-below : goal.push_bits-requires-clause-below
push_bits-requires-clause-below c = all_below c.args.words.now c.loop-place.place c.loop-place.members.items c.loop-place.invariant

pub push_bits-requires-clause-ascending : goal.push_bits-requires-clause-ascending
push_bits-requires-clause-ascending c = c.loop-place.invariant.ascending

pub loop-place-preserved : goal.loop-place-preserved
loop-place-preserved c =
    AreMembersBelow-more c.args.words.now c.loop-place.place c.loop-place.members.items c.push_bits.new.members.items (omega (arith, c.type_inv.words c.loop-place.place)) c.loop-place.invariant c.in_ok-push_bits.ensures

pub returns : goal.returns
returns c = members_in_all c.args.words.now c.loop-place.place c.loop-place.members.items c.loop-place-test.false c.loop-place.invariant
