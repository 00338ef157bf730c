use Rattle.std.proofs.Common.{◌≡◌, take}
use Rattle.digit_tuple.specs.Names.{names_without}
use Rattle.digit_tuple.proofs.names.names_without.Given as goal

abbrev pub invariant-loop-other : goal.invariant-loop-other
invariant-loop-other l = l.rest.items ≡ names_without (take l.other-index l.names) l.name
