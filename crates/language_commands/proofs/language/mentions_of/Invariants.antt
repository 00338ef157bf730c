use Rattle.std.proofs.Common.{◌≡◌, take}
use Rattle.language_commands.specs.LanguageOutcomes.{language_mentions}
use Rattle.language_commands.proofs.language.mentions_of.Given as goal

-- those before it are mentioned
abbrev pub invariant-loop-name : goal.invariant-loop-name
invariant-loop-name l = l.mentioned.items ≡ language_mentions (take l.name-index l.names)
