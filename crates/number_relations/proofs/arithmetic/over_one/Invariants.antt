use Rattle.std.proofs.Common.{◌≡◌, take, map}
use Rattle.std.specs.Rc.{rc_value}
use Rattle.number_relations.proofs.PairLemmas.{repeated}
use Rattle.number_relations.proofs.arithmetic.over_one.Given as goal

abbrev pub invariant-loop-name : goal.invariant-loop-name
invariant-loop-name l = map rc_value l.systems.items ≡ repeated l.system.value (take l._name-index l.under)
