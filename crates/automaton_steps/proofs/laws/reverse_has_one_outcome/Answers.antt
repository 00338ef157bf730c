use Rattle.automaton_steps.proofs.OneAnswers.{reverse_one}
use Rattle.automaton_steps.proofs.laws.reverse_has_one_outcome.Goals as goal

pub returns : goal.returns
returns c = reverse_one
