use Rattle.std.proofs.Common.{[], get_or, sym, subst, arith}
use Rattle.determinise.proofs.PlaceLemmas.{AreMembersAt, AreMembersAt-none, AreMembersAt-more, below_next, members_at_all}
use Rattle.determinise.proofs.bit_members.push_at.Goals as goal

pub loop-place-init : goal.loop-place-init
loop-place-init c = subst (AreMembersAt c.args.words.now []) (sym c.requires.empty) (AreMembersAt-none c.args.words.now)

pub push_bits-requires-clause-below : goal.push_bits-requires-clause-below
push_bits-requires-clause-below c = below_next c.args.words.now c.args.places.now c.loop-place.members.items c.loop-place.place-index c.loop-place-test.true c.requires.ascending c.loop-place.invariant

pub push_bits-requires-clause-ascending : goal.push_bits-requires-clause-ascending
push_bits-requires-clause-ascending c = c.loop-place.invariant.ascending

pub loop-place-preserved : goal.loop-place-preserved
loop-place-preserved c =
    AreMembersAt-more c.args.words.now c.args.places.now c.loop-place.members.items c.push_bits.new.members.items c.loop-place.place-index c.loop-place-test.true (omega (arith, c.type_inv.words (get_or c.args.places.now c.loop-place.place-index 0))) c.loop-place.invariant c.in_ok-push_bits.ensures

pub returns : goal.returns
returns c = members_at_all c.args.words.now c.args.places.now c.loop-place.members.items c.loop-place.place-index c.loop-place-test.false c.requires.places c.loop-place.invariant
