use Rattle.std.proofs.Common.{◌≡◌, take}
use Rattle.listing_commands.proofs.listing.names_in.Given as goal

-- the names so far were copied
abbrev pub invariant-loop-name : goal.invariant-loop-name
invariant-loop-name l = l.copies.items ≡ take l.name-index l.names
