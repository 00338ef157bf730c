use Rattle.dfa_text.proofs.RelationTexts.{equal_languages}
use Rattle.dfa_text.proofs.laws.equal_texts_have_equal_languages.Goals as goal

pub returns : goal.returns
returns c = equal_languages
