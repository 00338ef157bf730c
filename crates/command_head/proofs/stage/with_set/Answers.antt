use Rattle.command_head.proofs.SetShape.{IsAscending-from_sorted}
use Rattle.command_head.proofs.stage.with_set.Goals as goal

pub new-requires : goal.new-requires
new-requires c = record { ascending = IsAscending-from_sorted c.in_ok-numbers.numbers.items c.in_ok-numbers.ensures.ascending; small = rw c.in_ok-numbers.ensures.numbers c.requires }
