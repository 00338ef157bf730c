use Rattle.std.proofs.lemmas.Result.{IfOk-from_err}
use Rattle.minimise.proofs.canonical.canonical_of_numbered.Goals as goal

pub returns-in_err-minimal-clause-sizes : goal.returns-in_err-minimal-clause-sizes
returns-in_err-minimal-clause-sizes c = IfOk-from_err c.from_residual.result _ c.from_residual.ensures.0

pub returns-in_err-minimal-clause-language : goal.returns-in_err-minimal-clause-language
returns-in_err-minimal-clause-language c = IfOk-from_err c.from_residual.result _ c.from_residual.ensures.0

pub returns-in_err-minimal-clause-canonical : goal.returns-in_err-minimal-clause-canonical
returns-in_err-minimal-clause-canonical c = IfOk-from_err c.from_residual.result _ c.from_residual.ensures.0
