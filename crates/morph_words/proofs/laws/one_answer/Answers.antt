use Rattle.morph_words.proofs.OneParse.{one_answer}
use Rattle.morph_words.proofs.laws.one_answer.Goals as goal

pub returns : goal.returns
returns c = one_answer
