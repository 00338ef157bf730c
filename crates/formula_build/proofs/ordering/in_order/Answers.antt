use Rattle.std.proofs.Common.{subst}
use Rattle.std.specs.List.{AllPairs}
use Rattle.digit_tuple.specs.Names.{IsBytesBefore}
use Rattle.formula_build.proofs.OrderedLemmas.{IsOrdered-itself}
use Rattle.formula_build.proofs.ordering.in_order.Goals as goal

pub returns-then-are_ascending : goal.returns-then-are_ascending
returns-then-are_ascending c = IsOrdered-itself c.args.relation c.names.ensures.relation (subst (AllPairs IsBytesBefore) c.names.ensures.value (c.are_ascending.ensures c.if-are_ascending.true))
