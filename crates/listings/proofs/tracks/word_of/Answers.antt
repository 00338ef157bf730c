use Rattle.listings.proofs.TrackLemmas.{coded_on_tracks, found_as}
use Rattle.listings.proofs.tracks.word_of.Goals as goal

pub returns-clause-on_tracks : goal.returns-clause-on_tracks
returns-clause-on_tracks c =
    found_as _ c.args.sets.now c.args.place.now c.as_slice.result.now c.letters.result.now c.found_word.result c.found_word.ensures
    (λ word h. coded_on_tracks c.as_slice.result.now c.letters.result.now _ h) c.as_slice.ensures.value c.letters.ensures
