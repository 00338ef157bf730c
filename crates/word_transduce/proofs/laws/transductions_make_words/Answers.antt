use Rattle.word_transduce.proofs.TransducedWordLemmas.{transductions_make_words}
use Rattle.word_transduce.proofs.laws.transductions_make_words.Goals as goal

pub returns : goal.returns
returns c = transductions_make_words c.rank_is_positional.ensures
