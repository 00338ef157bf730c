use Rattle.std.proofs.Common.{length, sym, ap, ◌∙◌}
use Rattle.digit_tuple.specs.Decisions.{rows_in}
use Rattle.digit_tuple.specs.declared.decisions.Decisions.{Decisions}
use Rattle.digit_tuple.proofs.JoinedRows.{length-joined_rows}
use Rattle.digit_tuple.proofs.decisions.Decisions.len.Goals as goal

pub returns-in-OnTrack : goal.returns-in-OnTrack
returns-in-OnTrack c =
    let track = c.in-OnTrack.track in
    let below = c.in-OnTrack.field-1.value in
    c.len-in-OnTrack.ensures ∙ sym (length-joined_rows track.weight track.digits (rows_in below)) ∙ ap (λ (d : Decisions). length (rows_in d)) (sym c.in-OnTrack.is)
