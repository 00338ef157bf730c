use Rattle.std.proofs.Common.{◌≡◌, take}
use Rattle.number_relations.specs.Placed.{changed_names}
use Rattle.number_relations.proofs.placed.changed_names.Given as goal

abbrev pub invariant-loop-name : goal.invariant-loop-name
invariant-loop-name l = l.changed.items ≡ changed_names l.from l.to (take l.name-index l.names)
