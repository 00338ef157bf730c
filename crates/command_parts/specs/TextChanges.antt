-- What the code makes of a text that is stored as it is, and of the rules of a morphism.
use Rattle.std.specs.Prelude.{◌≡◌, ℕ, ◌<◌, List, [], length, Result, MatchResult, ⊤}
use Rattle.command_parts.specs.declared.text_refusal.TextRefusal.TheVariants as text_refusals
use Rattle.command_parts.specs.declared.refusal.Refusal.TheVariants as refusals
use Rattle.command_parts.specs.declared.fault.Fault.{Fault}
use Rattle.command_parts.specs.declared.fault.Fault.TheVariants as faults
use Rattle.command_parts.specs.declared.file_change.Made.{Made}
use Rattle.command_parts.specs.Accepting.{FitsFile}

-- the text is stored, a file may have it, and nothing is printed
pub record IsTextMade (text : List ℕ) (made : Made) : Type 0 where
  pub stored_is : made.stored.items ≡ text
  pub printed_is : made.printed ≡ []
  pub fits : FitsFile text

-- the text is too long, or memory ran out
abbrev pub IsTextRefused : List ℕ → Fault → Type 0
IsTextRefused text (faults.Refused refusal) = (refusal ≡ refusals.Text (text_refusals.Long 16777216)) × (16777216 < length text)
IsTextRefused text (faults.Store folder name) = ⊥
IsTextRefused text faults.Memory = ⊤

-- a text is stored, or refused
abbrev pub StoresText : List ℕ → Result Made Fault → Type 0
StoresText text result = MatchResult result (IsTextMade text) (IsTextRefused text)
