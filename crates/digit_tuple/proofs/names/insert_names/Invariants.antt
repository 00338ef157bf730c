use Rattle.std.proofs.Common.{◌≡◌, drop}
use Rattle.digit_tuple.specs.Names.{with_names}
use Rattle.digit_tuple.proofs.names.insert_names.Given as goal

abbrev pub invariant-loop-name : goal.invariant-loop-name
invariant-loop-name l = with_names l.names.items (drop l.name-index l.more) ≡ with_names l.fn.names.items l.more
