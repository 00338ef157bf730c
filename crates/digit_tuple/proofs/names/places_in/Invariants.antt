use Rattle.std.proofs.Common.{◌≡◌, take}
use Rattle.digit_tuple.specs.Names.{places_of}
use Rattle.digit_tuple.proofs.names.places_in.Given as goal

abbrev pub invariant-loop-name : goal.invariant-loop-name
invariant-loop-name l = l.places.items ≡ places_of l.names (take l.name-index l.some)
