use Rattle.std.proofs.Common.{◌≡◌, ◌++◌, take, codes}
use Rattle.std.specs.Fmt.{signed_decimal}
use Rattle.std.specs.List.{join_by}
use Rattle.digit_tuple.specs.Headers.{sets_of}
use Rattle.digit_tuple.specs.Sets.{members_at}
use Rattle.dfa_text.proofs.tuple_text.push_tuple.Given as goal

abbrev pub invariant-loop-track : goal.invariant-loop-track
invariant-loop-track l = l.out.items ≡ l.initial.out.items ++ join_by signed_decimal (codes " ") (take l.track (members_at (sets_of l.header) l.places))
