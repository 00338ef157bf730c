use Rattle.std.proofs.Common.{take}
use Rattle.formula_parse.specs.Views.{operands_view}
use Rattle.formula_resolve.specs.Walks.{WalkedAmong}
use Rattle.formula_resolve.proofs.walk.+walk_formula.Given as goal

abbrev pub invariant-loop-operand : goal.invariant-loop-operand
invariant-loop-operand l = WalkedAmong l.headers (operands_view (take l.operand-index l.operand-items)) l.initial.walk l.walk l.meeting
