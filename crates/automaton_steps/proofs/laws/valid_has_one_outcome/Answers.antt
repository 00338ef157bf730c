use Rattle.automaton_steps.proofs.OneAnswers.{valid_one}
use Rattle.automaton_steps.proofs.laws.valid_has_one_outcome.Goals as goal

pub returns : goal.returns
returns c = valid_one
