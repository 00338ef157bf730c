-- The digits so far are appended.
use Rattle.std.proofs.Common.{◌≡◌, ◌++◌, take, codes}
use Rattle.std.specs.Fmt.{signed_decimal}
use Rattle.std.specs.List.{join_by}
use Rattle.digit_tuple.specs.Sets.{members_at}
use Rattle.listings.proofs.word_line.push_digits.Given as goal

abbrev pub invariant-loop-track : goal.invariant-loop-track
invariant-loop-track l = l.out.items ≡ l.initial.out.items ++ join_by signed_decimal (codes ",") (take l.track (members_at l.sets l.places))
