use Rattle.std.proofs.Common.{◌≡◌, ◌∙◌, ap, sym, arith, refl, length, not, true, false, eq-eqb}
use Rattle.digit_tuple.specs.Deterministic.{Automaton}
use Rattle.pad_rename.proofs.RestrictionLemmas.{IsTrackAt, IsTrackAt-found, one_place}
use Rattle.pad_rename.proofs.restriction.are_two_tracks.Goals as goal
use Rattle.pad_rename.proofs.restriction.are_two_tracks.Goals.{In-Some-Some}

sizes_are : (c : In-Some-Some) → c.sizes-sizes.result.now ≡ c.args.a.now.automaton.sizes
sizes_are c = c.sizes-sizes.ensures.sizes ∙ c.alphabet.ensures.sizes ∙ ap (λ (d : Automaton). d.sizes) c.dfa.ensures.value

first_at : (c : In-Some-Some) → IsTrackAt c.args.a.now c.args.kept.now c.in-Some-Some.first
first_at c =
    IsTrackAt-found c.args.a.now c.names-names.result.now c.sizes-sizes.result.now c.args.kept.now c.in-Some-Some.first c.names-names.ensures.tracked c.names-names.ensures.value
    (sizes_are c) (omega (arith, c.sizes-sizes.ensures.alphabet.tracks, ap length c.sizes-sizes.ensures.sizes)) (c.in-Some-Some.ensures.there.0 refl) c.in-Some-Some.ensures.place

second_at : (c : In-Some-Some) → IsTrackAt c.args.a.now c.args.dropped.now c.in-Some-Some.second
second_at c =
    IsTrackAt-found c.args.a.now c.names-names.result.now c.sizes-sizes.result.now c.args.dropped.now c.in-Some-Some.second c.names-names.ensures.tracked c.names-names.ensures.value
    (sizes_are c) (omega (arith, c.sizes-sizes.ensures.alphabet.tracks, ap length c.sizes-sizes.ensures.sizes)) (c.in-Some-Some.ensures'.there.0 refl) c.in-Some-Some.ensures'.place

pub offset_bounds-sizes-first : goal.offset_bounds-sizes-first
offset_bounds-sizes-first c = let at = first_at (goal.at.offset_bounds-sizes-first c).In-Some-Some in omega (arith, at.within, at.few)

pub bounds-sizes-first : goal.bounds-sizes-first
bounds-sizes-first c = let at = first_at (goal.at.bounds-sizes-first c).In-Some-Some in omega (arith, at.within, ap length (sizes_are (goal.at.bounds-sizes-first c).In-Some-Some))

pub offset_bounds-sizes-second : goal.offset_bounds-sizes-second
offset_bounds-sizes-second c = let at = second_at (goal.at.offset_bounds-sizes-second c).In-Some-Some in omega (arith, at.within, at.few)

pub bounds-sizes-second : goal.bounds-sizes-second
bounds-sizes-second c = let at = second_at (goal.at.bounds-sizes-second c).In-Some-Some in omega (arith, at.within, ap length (sizes_are (goal.at.bounds-sizes-second c).In-Some-Some))

pub returns-else-first-second : goal.returns-else-first-second
returns-else-first-second c =
    let at = (goal.at.returns-else-first-second c).In-Some-Some in (
      λ yes. absurd (let bad : false ≡ true = ap not (sym (eq-eqb c.in-Some-Some.first c.in-Some-Some.second c.if-first-second.false)) ∙ yes in cc),
      λ two. absurd (two.distinct (one_place c.args.a.now c.args.kept.now c.args.dropped.now c.in-Some-Some.first c.in-Some-Some.second (first_at at) (second_at at) c.if-first-second.false)),
    )
