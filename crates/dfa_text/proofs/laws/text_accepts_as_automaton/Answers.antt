use Rattle.dfa_text.proofs.RelationPaths.{text_accepts_words, text_accepts_only_codes}
use Rattle.dfa_text.proofs.laws.text_accepts_as_automaton.Goals as goal

pub returns : goal.returns
returns c = record { words = text_accepts_words; only = text_accepts_only_codes }
