use Rattle.word_output.proofs.PlaceLaws.{letter_sets, one_set}
use Rattle.word_output.proofs.laws.letter_sets_hold.Goals as goal

pub returns-clause-holds : goal.returns-clause-holds
returns-clause-holds c = letter_sets

pub returns-clause-one : goal.returns-clause-one
returns-clause-one c = one_set
