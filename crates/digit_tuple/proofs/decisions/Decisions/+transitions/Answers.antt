use Rattle.std.proofs.Common.{length, subst, ap, arith}
use Rattle.std.specs.List.{sum_by}
use Rattle.digit_tuple.specs.Letters.{product}
use Rattle.digit_tuple.specs.declared.decisions.Decisions.{Decisions}
use Rattle.digit_tuple.specs.Decisions.{rows_in, sizes_in, IsSound, IsTrack}
use Rattle.digit_tuple.proofs.JoinedReads.{sum-joined_rows}
use Rattle.digit_tuple.proofs.DecisionReads.{sum-only_transitions}
use Rattle.digit_tuple.proofs.decisions.Decisions.+transitions.Goals as goal

pub returns-in-Targets : goal.returns-in-Targets
returns-in-Targets t c =
    let targets = c.in-Targets.targets.items in
    omega (arith, c.len.ensures, ap (λ (d : Decisions). sum_by length (rows_in d)) c.in-Targets.is, sum-only_transitions targets)

pub returns-in-OnTrack : goal.returns-in-OnTrack
returns-in-OnTrack t c =
    let track = c.in-OnTrack.field-0 in
    let below = c.in-OnTrack.below.value in
    let sound : IsTrack track (product (sizes_in below)) (rows_in below) × IsSound below = subst IsSound c.in-OnTrack.is c.requires in
    omega (arith, c.transitions.ensures, ap (λ (d : Decisions). sum_by length (rows_in d)) c.deref.ensures, ap (λ (d : Decisions). sum_by length (rows_in d)) c.in-OnTrack.is, sum-joined_rows track.weight track.digits (rows_in below) sound.0.count)
