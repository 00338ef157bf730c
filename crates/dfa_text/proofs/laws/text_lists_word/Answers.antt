use Rattle.dfa_text.proofs.PrintedWords.{text_lists_word}
use Rattle.dfa_text.proofs.laws.text_lists_word.Goals as goal

pub returns : goal.returns
returns c = text_lists_word
