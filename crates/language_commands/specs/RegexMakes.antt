-- What `reg` makes, part by part.
use Rattle.std.specs.Prelude.{ℕ, ℤ, ◌<◌, List, length, Result, Ok, MatchResult}
use Rattle.command_head.specs.Heads as heads
use Rattle.dfa_text.specs.Meaning.{AreTrackSets}
use Rattle.regex_build.specs.Patterns.{Pattern}
use Rattle.regex_build.specs.Parsing.{Parses}
use Rattle.command_parts.specs.declared.fault.Fault.{Fault}
use Rattle.command_parts.specs.Checks.{Pure, Fails}
use Rattle.language_commands.specs.RegOutcomes.{ParsedAnswers}

-- the expression of a quoted text over sets, or why there is none
abbrev pub ParsesTo : List (List ℤ) → List ℕ → Result Pattern Fault → Type 0
ParsesTo sets body result = MatchResult result (λ pattern. Parses sets body (Ok pattern)) (Fails (Pure (ParsedAnswers sets body)))

-- tracks of a head: sets of which each has a member, or some systems
abbrev pub AreFormedAlphabets : heads.Alphabets → Type 0
AreFormedAlphabets (heads.Sets sets) = AreTrackSets sets
AreFormedAlphabets (heads.Systems names) = 0 < length names
