use Rattle.std.proofs.Common.{◌≡◌, take}
use Rattle.formula_resolve.specs.FirstMentions.{first_files}
use Rattle.formula_resolve.proofs.first_mentions.first_files.Given as goal

abbrev pub invariant-loop-mention : goal.invariant-loop-mention
invariant-loop-mention l = l.firsts ≡ first_files (take l.mention-index l.mentions)
