use Rattle.formula_commands.proofs.OneFormulas.{formula_single}
use Rattle.formula_commands.proofs.formula.one_outcome.Goals as goal

pub returns : goal.returns
returns c = formula_single
