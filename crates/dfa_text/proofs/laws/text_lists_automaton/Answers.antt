use Rattle.dfa_text.proofs.PrintedRelations.{text_lists}
use Rattle.dfa_text.proofs.laws.text_lists_automaton.Goals as goal

pub returns : goal.returns
returns c = text_lists
