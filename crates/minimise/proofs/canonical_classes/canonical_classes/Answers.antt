use Rattle.std.proofs.Common.{sym, subst}
use Rattle.std.proofs.lemmas.Result.{IfOk-from_err}
use Rattle.residual_classes.specs.CoarseClasses.{AreResidualClasses}
use Rattle.minimise.proofs.canonical_classes.canonical_classes.Goals as goal

pub residual_classes-requires : goal.residual_classes-requires
residual_classes-requires c = c.requires

pub returns-in_err-residuals-clause-sizes : goal.returns-in_err-residuals-clause-sizes
returns-in_err-residuals-clause-sizes c = IfOk-from_err c.from_residual.result _ c.from_residual.ensures.0

pub returns-in_err-residuals-clause-function : goal.returns-in_err-residuals-clause-function
returns-in_err-residuals-clause-function c = IfOk-from_err c.from_residual.result _ c.from_residual.ensures.0

pub returns-in_err-residuals-clause-canonical : goal.returns-in_err-residuals-clause-canonical
returns-in_err-residuals-clause-canonical c = IfOk-from_err c.from_residual.result _ c.from_residual.ensures.0

pub minimal-requires-clause-outputs : goal.minimal-requires-clause-outputs
minimal-requires-clause-outputs c = c.requires

pub minimal-requires-clause-classes : goal.minimal-requires-clause-classes
minimal-requires-clause-classes c = subst (AreResidualClasses c.args.d.now c.args.classes.now) (sym c.deref.ensures.value) c.in_ok-residuals.ensures

pub returns-clause-sizes : goal.returns-clause-sizes
returns-clause-sizes c = c.minimal.ensures.sizes

pub returns-clause-function : goal.returns-clause-function
returns-clause-function c = c.minimal.ensures.function

pub returns-clause-canonical : goal.returns-clause-canonical
returns-clause-canonical c = c.minimal.ensures.canonical
