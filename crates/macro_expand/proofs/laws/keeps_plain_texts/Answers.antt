use Rattle.macro_expand.proofs.PlainTexts.{text_keeps}
use Rattle.macro_expand.proofs.laws.keeps_plain_texts.Goals as goal

pub returns : goal.returns
returns c macros text all short = text_keeps macros text all short
