use Rattle.language_commands.proofs.LanguageSoundness.{language_sound}
use Rattle.language_commands.proofs.language.one_outcome.Goals as goal

pub returns : goal.returns
returns c = λ op limit ledger text. (language_sound op limit ledger text).single
