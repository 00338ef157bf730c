use Rattle.formula_parse.proofs.OneAnswer.{one_answer_of}
use Rattle.formula_parse.proofs.laws.one_answer.Goals as goal

pub returns : goal.returns
returns c = λ text f g i j p q. one_answer_of text f g i j p q
