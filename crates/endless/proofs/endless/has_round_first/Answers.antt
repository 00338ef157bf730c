use Rattle.digit_tuple.specs.declared.direction.Direction.TheVariants.{Msd}
use Rattle.endless.specs.LanguageLaws.{IsEndless, language_in}
use Rattle.endless.specs.Links.{HasRound, HasPlaces}
use Rattle.endless.proofs.EndlessAnswers.{decided}
use Rattle.endless.proofs.RoundLemmas.{endless_first, bounded_first}
use Rattle.endless.proofs.endless.has_round_first.Goals as goal

pub returns : goal.returns
returns c =
    let d = c.args.language.now in
    decided (HasRound d 0) (HasPlaces d 0) (IsEndless (language_in Msd d)) c.has_round.result c.has_round.ensures.round c.has_round.ensures.places
    (endless_first d c.requires.canonical c.requires.zeros) (bounded_first d c.requires.canonical c.requires.zeros)
