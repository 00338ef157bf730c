use Rattle.std.proofs.Common.{subst}
use Rattle.endless.specs.Links.{HasPlaces, HasRound}
use Rattle.endless.proofs.EndlessAnswers.{decided}
use Rattle.word_walk.specs.Infinity.{IsInfinite}
use Rattle.word_walk.specs.Listed.{is_listed}
use Rattle.word_walk.proofs.InfinityLemmas.{IsInfinite-listing, IsInfinite-places, IsInfinite-round}
use Rattle.word_walk.proofs.infinity.is_infinite.Goals as goal

pub returns : goal.returns
returns c =
    let d = c.args.d.now in
    let skip = c.args.skip in
    let e = c.in_ok-listing.listing in
    let same = IsInfinite-listing d skip e c.in_ok-listing.ensures.words in
    let canonical = c.in_ok-listing.ensures.canonical in
    let z = c.states.result in
    decided (HasRound e z) (HasPlaces e z) (IsInfinite (is_listed d skip)) c.has_round.result c.has_round.ensures.round c.has_round.ensures.places
    (λ round. same.0 (IsInfinite-round e canonical z round))
    (λ places infinite. IsInfinite-places e canonical (subst (HasPlaces e) c.states.ensures.value places) (same.1 infinite))
