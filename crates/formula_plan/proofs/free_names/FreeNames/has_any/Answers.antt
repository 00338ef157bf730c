use Rattle.std.proofs.Common.{arith, sym}
use Rattle.formula_plan.proofs.NamesAdded.{any_found}
use Rattle.formula_plan.proofs.free_names.FreeNames.has_any.Goals as goal

pub returns-then-has : goal.returns-then-has
returns-then-has c =
    sym (any_found c.args.names.now c.args.self.now c.loop-name.name-index c.name-item.result (omega (arith, c.loop-name-test.true)) c.name-item.is (sym c.if-has.ensures))
