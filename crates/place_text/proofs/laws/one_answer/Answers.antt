use Rattle.place_text.proofs.OneParse.{one_answer}
use Rattle.place_text.proofs.laws.one_answer.Goals as goal

pub returns : goal.returns
returns c = one_answer
