use Rattle.definitions.proofs.CustomTexts.{custom_texts}
use Rattle.definitions.proofs.laws.custom_texts_are_files.Goals as goal

pub returns : goal.returns
returns c = custom_texts
