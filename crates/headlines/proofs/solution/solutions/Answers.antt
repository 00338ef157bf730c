use Rattle.headlines.proofs.SolutionSteps as steps
use Rattle.headlines.proofs.solution.solutions.Goals as goal

pub returns : goal.returns
returns c = steps.solutions
