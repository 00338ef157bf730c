-- The member of each track, after a comma where it is not the first.
use Rattle.std.proofs.Common.{◌≡◌, ◌+◌, ◌<◌, ◌++◌, [], List, ℤ, cond, eqb, length, get_or, take, pos, codes, sym, subst, arith}
use Rattle.std.specs.Fmt.{signed_decimal}
use Rattle.std.proofs.lemmas.List.{take_all, length-take}
use Rattle.digit_tuple.specs.Sets.{members_at}
use Rattle.dfa_text.proofs.Joins.{join_more}
use Rattle.dfa_text.proofs.TupleSteps.{has_member, members_more, length-members, length-places}
use Rattle.listings.proofs.WordLineLemmas.{set_at}
use Rattle.listings.proofs.word_line.push_digits.Goals as goal

pub bounds-sets-track : goal.bounds-sets-track
bounds-sets-track c = omega (arith, length-places c.args.sets.now c.args.places.now c.requires, c.loop-track-test.true)

pub push_digit-requires : goal.push_digit-requires
push_digit-requires c =
    let sets = c.args.sets.now in
    let within : c.loop-track.track < length sets = omega (arith, length-places sets c.args.places.now c.requires, c.loop-track-test.true) in
    subst (λ (set : List ℤ). get_or c.args.places.now c.loop-track.track 0 < length set) (sym (set_at sets c.loop-track.track c.index-sets-track.result within c.index-sets-track.is)) (has_member sets c.args.places.now c.loop-track.track c.requires within).member_in

pub loop-track-preserved : goal.loop-track-preserved
loop-track-preserved c =
    let sets = c.args.sets.now in
    let places = c.args.places.now in
    let members = members_at sets places in
    let k = c.loop-track.track in
    let within : k < length sets = omega (arith, length-places sets places c.requires, c.loop-track-test.true) in
    join_more signed_decimal (codes ",") c.args.out.now.items c.loop-track.out.items c.push_digit.new.out.items (take k members) (take (k + 1) members) (get_or (get_or sets k []) (get_or places k 0) (pos 0)) k
    (omega (arith, length-take k members, length-members sets places c.requires, length-places sets places c.requires, c.loop-track-test.true))
    (members_more sets places k c.requires c.loop-track-test.true)
    c.loop-track.invariant
    (subst (λ (set : List ℤ). c.push_digit.new.out.items ≡ c.loop-track.out.items ++ (cond (eqb k 0) [] (codes ",") ++ signed_decimal (get_or set (get_or places k 0) (pos 0)))) (set_at sets k c.index-sets-track.result within c.index-sets-track.is) c.in_ok-push_digit.ensures)

pub returns : goal.returns
returns c =
    let sets = c.args.sets.now in
    rw (← take_all c.loop-track.track (members_at sets c.args.places.now) (omega (arith, c.loop-track-test.false, length-members sets c.args.places.now c.requires, length-places sets c.args.places.now c.requires))) c.loop-track.invariant
