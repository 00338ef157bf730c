use Rattle.definitions.proofs.OneTexts.{one_text_of}
use Rattle.definitions.proofs.laws.one_text.Goals as goal

pub returns : goal.returns
returns c = one_text_of
