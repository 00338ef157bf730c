use Rattle.macro_expand.proofs.PlainTexts.{call_gives}
use Rattle.macro_expand.proofs.laws.gives_plain_texts.Goals as goal

pub returns : goal.returns
returns c macros name text before after is first last short = call_gives macros name text before after is first last short
