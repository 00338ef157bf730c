use Rattle.std.proofs.Common.{◌≡◌, List, [], ◌∷◌, length, map, sym, ap, ◌∙◌, subst, arith}
use Rattle.std.specs.List.{sum_by}
use Rattle.digit_tuple.specs.Letters.{product}
use Rattle.digit_tuple.specs.Decisions.{rows_in, sizes_in, joined_rows, letters_in, only_transition, IsSound, IsTrack}
use Rattle.digit_tuple.specs.declared.transitions.Transition.{Transition}
use Rattle.digit_tuple.specs.declared.decisions.Decisions.{Decisions}
use Rattle.digit_tuple.proofs.DecisionReads.{letters-one_track, length-only_transitions}
use Rattle.digit_tuple.proofs.decisions.Decisions.only_digits.Goals as goal

pub returns-in-Some-clause-one : goal.returns-in-Some-clause-one
returns-in-Some-clause-one c =
    let track = c.in-OnTrack.track in
    let below = c.in-OnTrack.below.value in
    let targets = c.in-Some.field-0.now in
    let both : IsTrack track (product (sizes_in below)) (rows_in below) × IsSound below = subst IsSound c.in-OnTrack.is c.requires in
    let rows : rows_in below ≡ map only_transition targets = ap rows_in (sym c.deref.ensures) ∙ c.in-Some.ensures.targets.0 in
    let sizes : sizes_in below ≡ [] = ap sizes_in (sym c.deref.ensures) ∙ c.in-Some.ensures.targets.1 in
    let count : sum_by length track.digits ≡ length targets = omega (arith, both.0.count, ap length rows, length-only_transitions targets) in
    let weight : track.weight ≡ 1 = both.0.weight ∙ ap product sizes in (
      ap (λ (d : Decisions). length (sizes_in d)) c.in-OnTrack.is ∙ ap (λ ss. length (track.size ∷ ss)) sizes,
      sym (
          ap (λ (d : Decisions). map letters_in (rows_in d)) c.in-OnTrack.is
          ∙ ap (λ w. map letters_in (joined_rows w track.digits (rows_in below))) weight
          ∙ ap (λ (rs : List (List Transition)). map letters_in (joined_rows 1 track.digits rs)) rows
          ∙ letters-one_track track.digits targets count
          ),
    )
