use Rattle.std.proofs.Common.{length, map}
use Rattle.command_head.specs.HeadViews.{valued_view}
use Rattle.command_head.proofs.Listing.{IsListing}
use Rattle.command_head.proofs.combining.combine_parts.Given as goal

-- these automata were read, and the rest is left
abbrev pub invariant-automata : goal.invariant-automata
invariant-automata l = IsListing l.text l.word (map valued_view l.automata.items) l.rest.whole l.rest.blank l.rest.bytes.now

abbrev pub decreases-automata : goal.decreases-automata
decreases-automata l = length l.rest.bytes.now
