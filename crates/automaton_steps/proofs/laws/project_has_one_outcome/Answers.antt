use Rattle.automaton_steps.proofs.OneAnswers.{project_one}
use Rattle.automaton_steps.proofs.laws.project_has_one_outcome.Goals as goal

pub returns : goal.returns
returns c = project_one
