use Rattle.std.proofs.Common.{◌≡◌, ◌++◌, take, drop}
use Rattle.digit_tuple.specs.Names.{with_name}
use Rattle.digit_tuple.proofs.names.new_place.Given as goal

abbrev pub invariant-loop-place : goal.invariant-loop-place
invariant-loop-place l = with_name l.names l.name ≡ take l.place l.names ++ with_name (drop l.place l.names) l.name
