use Rattle.table_listings.proofs.DigitLemmas.{places_are_words}
use Rattle.table_listings.proofs.laws.listed_places_are_words.Goals as goal

pub returns : goal.returns
returns c = places_are_words
