use Rattle.headlines.proofs.LanguageFiles as steps
use Rattle.headlines.proofs.language.languages.Goals as goal

pub returns : goal.returns
returns c = steps.languages
