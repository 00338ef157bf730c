use Rattle.std.proofs.Common.{sym, subst}
use Rattle.std.proofs.lemmas.Result.{IfOk-from_err}
use Rattle.residual_classes.specs.CoarseClasses.{AreResidualClasses}
use Rattle.minimise.proofs.canonical_classes.canonical_classes_counted.Goals as goal

pub counted_classes-requires : goal.counted_classes-requires
counted_classes-requires g c = c.requires

pub returns-in_err-residuals-clause-sizes : goal.returns-in_err-residuals-clause-sizes
returns-in_err-residuals-clause-sizes g c = IfOk-from_err c.from_residual.result _ c.from_residual.ensures.0

pub returns-in_err-residuals-clause-function : goal.returns-in_err-residuals-clause-function
returns-in_err-residuals-clause-function g c = IfOk-from_err c.from_residual.result _ c.from_residual.ensures.0

pub returns-in_err-residuals-clause-canonical : goal.returns-in_err-residuals-clause-canonical
returns-in_err-residuals-clause-canonical g c = IfOk-from_err c.from_residual.result _ c.from_residual.ensures.0

pub returns-in_err-residuals-clause-looks : goal.returns-in_err-residuals-clause-looks
returns-in_err-residuals-clause-looks g c = c.counted_classes.ensures.looks

pub minimal-requires-clause-outputs : goal.minimal-requires-clause-outputs
minimal-requires-clause-outputs g c = c.requires

pub minimal-requires-clause-classes : goal.minimal-requires-clause-classes
minimal-requires-clause-classes g c = subst (AreResidualClasses c.args.d.now c.args.classes.now) (sym c.deref.ensures.value) c.in_ok-residuals.ensures.residuals

pub returns-clause-sizes : goal.returns-clause-sizes
returns-clause-sizes g c = c.minimal.ensures.sizes

pub returns-clause-function : goal.returns-clause-function
returns-clause-function g c = c.minimal.ensures.function

pub returns-clause-canonical : goal.returns-clause-canonical
returns-clause-canonical g c = c.minimal.ensures.canonical

pub returns-clause-looks : goal.returns-clause-looks
returns-clause-looks g c = c.counted_classes.ensures.looks
