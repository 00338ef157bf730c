use Rattle.std.proofs.Common.{◌≡◌, take}
use Rattle.number_relations.specs.Placed.{each_once}
use Rattle.number_relations.proofs.placed.each_once.Given as goal

abbrev pub invariant-loop-name : goal.invariant-loop-name
invariant-loop-name l = l.once.items ≡ each_once (take l.name-index l.names)
