use Rattle.digit_tuple.proofs.NameLemmas.{IsNotAmong}
use Rattle.digit_tuple.proofs.names.find_name.Given as goal

abbrev pub invariant-loop-place : goal.invariant-loop-place
invariant-loop-place l = IsNotAmong l.names l.name l.place
