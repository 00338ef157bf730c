use Rattle.std.proofs.Common.{◌≡◌, take}
use Rattle.formula_resolve.specs.FirstMentions.{first_systems}
use Rattle.formula_resolve.proofs.first_mentions.first_systems.Given as goal

abbrev pub invariant-loop-mention : goal.invariant-loop-mention
invariant-loop-mention l = l.firsts ≡ first_systems l.headers (take l.mention-index l.mentions)
