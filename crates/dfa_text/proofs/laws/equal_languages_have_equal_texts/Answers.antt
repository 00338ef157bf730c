use Rattle.dfa_text.proofs.RelationTexts.{equal_texts}
use Rattle.dfa_text.proofs.laws.equal_languages_have_equal_texts.Goals as goal

pub returns : goal.returns
returns c = equal_texts
