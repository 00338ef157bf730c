use Rattle.automaton_steps.proofs.OneAnswers.{join_one}
use Rattle.automaton_steps.proofs.laws.join_has_one_outcome.Goals as goal

pub returns : goal.returns
returns c = join_one
