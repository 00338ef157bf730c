use Rattle.automaton_steps.proofs.OneAnswers.{read_one}
use Rattle.automaton_steps.proofs.laws.read_has_one_outcome.Goals as goal

pub returns : goal.returns
returns c = read_one
