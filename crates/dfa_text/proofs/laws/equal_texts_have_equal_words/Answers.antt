use Rattle.dfa_text.proofs.PrintedWords.{equal_texts_have_equal_words}
use Rattle.dfa_text.proofs.laws.equal_texts_have_equal_words.Goals as goal

pub returns : goal.returns
returns c = equal_texts_have_equal_words
