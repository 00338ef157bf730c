-- What reading the words of the command line gives.
use Rattle.std.specs.Prelude.{◌≡◌, ℕ, ◌<◌, ◌^◌, List, Option, None, Some, Result, Ok, Err, ⊤, decimal}
use Rattle.std.specs.Option.{option_map}
use Rattle.command_line.specs.declared.options.Options.{Options}
use Rattle.command_line.specs.declared.words.Named.{Named}
use Rattle.command_line.specs.declared.words.WordsFault.{WordsFault}
use Rattle.command_line.specs.declared.words.WordsFault.TheVariants as faults
use Rattle.command_line.specs.Words.{Names, IsLimit, GivesOptions, GivesNone}

-- the options; or there are none, or no memory to find them
abbrev pub ReadsOptions : List (List ℕ) → Result Options WordsFault → Type 0
ReadsOptions words (Ok options) = GivesOptions words options
ReadsOptions words (Err faults.Refused) = GivesNone words
ReadsOptions words (Err faults.Memory) = ⊤

-- what the words name; or the words are refused whatever the values, or there is no memory to find them
abbrev pub ReadsNames : List (List ℕ) → Result Named WordsFault → Type 0
ReadsNames words (Ok named) = Names words (option_map (λ text. text.now) named.limit) named.stop (option_map (λ text. text.now) named.seed)
ReadsNames words (Err faults.Refused) = GivesNone words
ReadsNames words (Err faults.Memory) = ⊤

-- the number below 2 ^ 64 that a text is in decimal, where it is one
abbrev pub ReadsNumber : List ℕ → Option ℕ → Type 0
ReadsNumber text (Some number) = (text ≡ decimal number) × (number < 2 ^ 64)
ReadsNumber text None = (number : ℕ) → number < 2 ^ 64 → text ≡ decimal number → ⊥

-- the limit that a text denotes, where it denotes one
abbrev pub ReadsLimit : List ℕ → Option ℕ → Type 0
ReadsLimit text (Some limit) = IsLimit (Some text) limit
ReadsLimit text None = (limit : ℕ) → IsLimit (Some text) limit → ⊥
