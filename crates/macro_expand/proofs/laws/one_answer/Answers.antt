use Rattle.macro_expand.proofs.OneAnswers.{one_answer}
use Rattle.macro_expand.proofs.laws.one_answer.Goals as goal

pub returns : goal.returns
returns c = one_answer
