use Rattle.std.proofs.Common.{◌≡◌, ◌++◌, take}
use Rattle.formula_parse.specs.Views.{operands_view}
use Rattle.formula_resolve.specs.Mentions.{mentions_among}
use Rattle.formula_resolve.proofs.mention.+add_mentions.Given as goal

abbrev pub invariant-loop-operand : goal.invariant-loop-operand
invariant-loop-operand l = l.found.items ≡ l.initial.found.items ++ mentions_among (operands_view (take l.operand-index l.operand-items))
