use Rattle.std.proofs.Common.{◌≡◌, take}
use Rattle.word_commands.specs.CombineMakes.{automata_in}
use Rattle.word_commands.specs.CombineOutcomes.{listed_mentions}
use Rattle.word_commands.proofs.combine.mentions_of.Given as goal

-- those before it are mentioned
abbrev pub invariant-loop-valued : goal.invariant-loop-valued
invariant-loop-valued l = l.mentioned.items ≡ listed_mentions (automata_in (take l.valued-index l.automata))
