use Rattle.automaton_steps.proofs.OneAnswers.{complement_one}
use Rattle.automaton_steps.proofs.laws.complement_has_one_outcome.Goals as goal

pub returns : goal.returns
returns c = complement_one
