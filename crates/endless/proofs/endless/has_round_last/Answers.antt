use Rattle.digit_tuple.specs.declared.direction.Direction.TheVariants.{Lsd}
use Rattle.endless.specs.LanguageLaws.{IsEndless, language_in}
use Rattle.endless.specs.Links.{HasRound, HasPlaces}
use Rattle.endless.proofs.EndlessAnswers.{decided}
use Rattle.endless.proofs.LastLemmas.{endless_last, bounded_last}
use Rattle.endless.proofs.endless.has_round_last.Goals as goal

pub returns : goal.returns
returns c =
    let d = c.args.language.now in
    let z = c.in_ok-end.end in
    decided (HasRound d z) (HasPlaces d z) (IsEndless (language_in Lsd d)) c.has_round.result c.has_round.ensures.round c.has_round.ensures.places
    (endless_last d c.requires.canonical c.requires.zeros z c.in_ok-end.ensures.only) (bounded_last d c.requires.canonical z c.in_ok-end.ensures.end)
