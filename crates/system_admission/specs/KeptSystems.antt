-- Users' systems that are kept, each beside the files from which it was admitted. Nobody has to believe this: it serves the invariant of what is kept.
use Rattle.std.specs.Prelude.{◌≡◌, ℕ, ◌≤◌, List, length, drop, Some, Ok}
use Rattle.std.specs.List.{AllByRecursion}
use Rattle.digit_tuple.specs.Steps.{StepLog, with_lines}
use Rattle.digit_tuple.specs.declared.direction.Direction.{Direction}
use Rattle.digit_tuple.specs.declared.steps.StepLine.{StepLine}
use Rattle.dfa_reading.specs.Listed.{Listed}
use Rattle.dfa_reading.specs.SystemFiles.{language_of}
use Rattle.num_system.specs.Sealed.{SystemValue}
use Rattle.system_names.specs.UserNames.{IsUserName, adder_name}
use Rattle.system_files.specs.SystemFiles.{Custom, taken_name}
use Rattle.system_files.specs.SystemTexts.{FoundText, HasText}
use Rattle.system_admission.specs.NameAdmissions.{IsNamedSystem}

-- the direction of a system, the name of its language, and the texts of its language and its adder
pub record Pair : Type 0 where
  pub direction : Direction
  pub name : List ℕ
  pub language : List ℕ
  pub adder : List ℕ

-- these are the files that the system called so has
pub record IsPairOf (custom : Custom) (part : List ℕ) (pair : Pair) : Type 0 where
  pub name : pair.name ≡ taken_name custom pair.direction part
  pub language : custom pair.name ≡ Some pair.language
  pub adder : custom (adder_name pair.name) ≡ Some pair.adder

-- and this is its name
pub record TakesPair (custom : Custom) (name : List ℕ) (pair : Pair) : Type 0 where
  pub part : List ℕ
  pub is_name : IsUserName pair.direction part name
  pub is_pair : IsPairOf custom part pair

-- wherever a name takes these files, it is admitted by these steps, and means this system
abbrev pub AdmitsPair : Pair → StepLog → StepLog → SystemValue → Type 0
AdmitsPair pair old new s = (custom : Custom) (name : List ℕ) → TakesPair custom name pair → IsNamedSystem custom name old new s

-- a system, beside its files, the limit under which it was admitted, and the lines of its steps
pub record KeptSystem : Type 0 where
  pub pair : Pair
  pub limit : ℕ
  pub lines : List StepLine
  pub system : SystemValue

-- the text is that of a language
abbrev pub IsLanguage : List ℕ → Type 0
IsLanguage text = (listed : Listed) × (language_of text ≡ Ok listed)

-- Its language is one, and the files are admitted by these lines as the next ones, whatever lines are before them.
pub record IsRight (k : KeptSystem) : Type 0 where
  pub language : IsLanguage k.pair.language
  pub admits : (old : StepLog) → old.limit ≡ k.limit → AdmitsPair k.pair old (with_lines old k.lines) k.system

-- at most 64 are kept, and each is right
pub record AreKept (kept : List KeptSystem) : Type 0 where
  pub few : length kept ≤ 64
  pub right : AllByRecursion IsRight kept

-- it may be kept with all lines from the first on
abbrev pub CanBeKept : Pair → ℕ → StepLog → SystemValue → Type 0
CanBeKept pair first log s = IsRight (record { pair = pair; limit = log.limit; lines = drop first log.lines; system = s })

-- the text that was found under the name is that of a language
pub record HasLanguageText (found : List FoundText) (name : List ℕ) : Type 0 where
  pub text : List ℕ
  pub there : HasText found name text
  pub is_language : IsLanguage text
