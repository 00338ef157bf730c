use Rattle.std.proofs.Common.{◌∙◌, [], ◌∷◌, ◌++◌, List, map, ap, sym}
use Rattle.std.specs.Rc.{rc_value}
use Rattle.std.proofs.lemmas.List.{map-append, get_or-map}
use Rattle.digit_tuple.specs.Deterministic.{Automaton}
use Rattle.product_op.specs.Readings.{Reading, reading_in, readings_in}
use Rattle.product_op.specs.Validity.{no_language}
use Rattle.product_op.specs.TrackReadings.{read_on, track_reading}
use Rattle.std.specs.List.{range_with_len}
use Rattle.product_op.proofs.ProductLemmas.{track_readings_more}
use Rattle.product_op.proofs.argument_readers.add_track_readers.Goals as goal

pub loop-track-preserved : goal.loop-track-preserved
loop-track-preserved c =
    let sizes = c.args.alphabet.now in
    let languages = map rc_value c.args.languages.now in
    let track = c.loop-track.track in
    let reader = c.in_ok-reader_on.field-0 in
    let at = c.as_ref.ensures ∙ sym (get_or-map rc_value c.args.languages.now track c.index-languages-track.result no_language c.loop-track-test.true ∙ ap rc_value (sym c.index-languages-track.is)) in
    ap readings_in c.in_ok-push.ensures.items
    ∙ map-append reading_in c.loop-track.readers.items (reader ∷ [])
    ∙ ap (λ (rs : List Reading). rs ++ reading_in reader ∷ []) c.loop-track.invariant
    ∙ ap (λ (r : Reading). (readings_in c.args.readers.now.items ++ map (track_reading sizes languages) (range_with_len 0 track)) ++ r ∷ [])
    (c.in_ok-reader_on.ensures ∙ ap (λ (d : Automaton). read_on sizes d (track ∷ [])) at)
    ∙ track_readings_more (readings_in c.args.readers.now.items) sizes languages track
