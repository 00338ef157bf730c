use Rattle.automaton_steps.proofs.OneAnswers.{pad_one}
use Rattle.automaton_steps.proofs.laws.pad_has_one_outcome.Goals as goal

pub returns : goal.returns
returns c = pad_one
