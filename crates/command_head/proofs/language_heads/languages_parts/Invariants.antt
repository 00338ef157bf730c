use Rattle.std.proofs.Common.{length}
use Rattle.command_head.proofs.NameListing.{AreListed}
use Rattle.command_head.proofs.language_heads.languages_parts.Given as goal

-- these names were read, and the rest is left
abbrev pub invariant-languages : goal.invariant-languages
invariant-languages l = AreListed l.text l.word l.name l.languages.items l.rest.whole l.rest.blank l.rest.bytes.now

abbrev pub decreases-languages : goal.decreases-languages
decreases-languages l = length l.rest.bytes.now
