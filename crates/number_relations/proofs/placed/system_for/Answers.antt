use Rattle.std.proofs.Common.{rules, ◌<◌, map, length, get_or, sym, ap, ◌∙◌, arith}
use Rattle.std.specs.Rc.{rc_value}
use Rattle.std.proofs.lemmas.List.{get_or-map}
use Rattle.digit_tuple.proofs.NameLemmas.{place_of-contained}
use Rattle.num_system.specs.Tracks.{absent_system}
use Rattle.number_relations.proofs.placed.system_for.Goals as goal

pub bounds-systems-place : goal.bounds-systems-place
bounds-systems-place c =
    let spot = place_of-contained c.args.under.now c.args.name.now c.requires.there in
    omega (arith, spot.0, c.in-Some.ensures.place, c.requires.count)

pub offset_bounds-systems-place : goal.offset_bounds-systems-place
offset_bounds-systems-place c =
    let spot = place_of-contained c.args.under.now c.args.name.now c.requires.there in
    let within : c.in-Some.place < length c.args.systems.now = omega (arith, spot.0, c.in-Some.ensures.place, c.requires.count) in
    search rules

pub returns : goal.returns
returns c =
    let systems = c.args.systems.now in
    let spot = place_of-contained c.args.under.now c.args.name.now c.requires.there in
    let within : c.in-Some.place < length systems = omega (arith, spot.0, c.in-Some.ensures.place, c.requires.count) in
    c.in_ok-clone-in-Some.ensures.cases ∙ ap rc_value c.index-systems-place.is
    ∙ sym (get_or-map rc_value systems c.in-Some.place c.index-systems-place.result absent_system within)
    ∙ ap (λ p. get_or (map rc_value systems) p absent_system) c.in-Some.ensures.place
