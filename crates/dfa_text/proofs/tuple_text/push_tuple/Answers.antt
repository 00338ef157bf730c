use Rattle.std.proofs.Common.{◌+◌, ◌<◌, [], length, get_or, take, pos, codes, arith}
use Rattle.std.specs.Fmt.{signed_decimal}
use Rattle.std.proofs.lemmas.List.{take_all, length-take}
use Rattle.digit_tuple.specs.Headers.{sets_of}
use Rattle.digit_tuple.specs.Sets.{members_at}
use Rattle.dfa_text.proofs.Joins.{join_more}
use Rattle.dfa_text.proofs.TupleSteps.{has_member, members_more, length-members, length-places}
use Rattle.dfa_text.proofs.tuple_text.push_tuple.Goals as goal

pub push_digit-requires-clause-place : goal.push_digit-requires-clause-place
push_digit-requires-clause-place c =
    let sets = sets_of c.args.header.now in
    let within : c.loop-track.track < length sets = omega (arith, c.loop-track-test.true, length-places sets c.args.places.now c.requires) in
    (has_member sets c.args.places.now c.loop-track.track c.requires within).member_in

pub loop-track-preserved : goal.loop-track-preserved
loop-track-preserved c =
    let sets = sets_of c.args.header.now in
    let members = members_at sets c.args.places.now in
    let k = c.loop-track.track in
    join_more signed_decimal (codes " ") c.args.out.now.items c.loop-track.out.items c.push_digit.new.out.items (take k members) (take (k + 1) members) (get_or (get_or sets k []) (get_or c.args.places.now k 0) (pos 0)) k
    (omega (arith, length-take k members, length-members sets c.args.places.now c.requires, length-places sets c.args.places.now c.requires, c.loop-track-test.true))
    (members_more sets c.args.places.now k c.requires c.loop-track-test.true)
    c.loop-track.invariant c.in_ok-push_digit.ensures

pub returns : goal.returns
returns c =
    let sets = sets_of c.args.header.now in
    rw (← take_all c.loop-track.track (members_at sets c.args.places.now) (omega (arith, c.loop-track-test.false, length-members sets c.args.places.now c.requires, length-places sets c.args.places.now c.requires))) c.loop-track.invariant
