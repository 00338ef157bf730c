use Rattle.std.proofs.Common.{◌≡◌, length, vec_len, arith, rules}
use Rattle.dfa_reading.proofs.ReadHeaders.{IsAscending-from_sorted}
use Rattle.transducer_reading.proofs.read_set.letter_set.Goals as goal

pub new-requires : goal.new-requires
new-requires c =
    let members = c.in_ok-members.members in
    let long : vec_len members ≡ length members.items = search rules in
    record { ascending = IsAscending-from_sorted members.items c.in_ok-members.ensures.sorted; small = omega (arith, long) }
