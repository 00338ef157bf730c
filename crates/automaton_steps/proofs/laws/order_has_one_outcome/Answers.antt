use Rattle.automaton_steps.proofs.OneAnswers.{order_one}
use Rattle.automaton_steps.proofs.laws.order_has_one_outcome.Goals as goal

pub returns : goal.returns
returns c = order_one
