-- Texts of users' systems, looked up by their names, and what they list. Nobody has to believe this: it serves the loading of files.
use Rattle.std.specs.Prelude.{◌≡◌, ◌≢◌, ℕ, ◌<◌, ◌≤◌, Bool, true, false, List, [], ◌∷◌, length, slice_get, Option, Some, None, Result, Ok, Err, MatchResult, ⊤}
use Rattle.dfa_loading.specs.Places.{HasRead}
use Rattle.dfa_loading.specs.declared.fault.FileFlaw.{FileFlaw}
use Rattle.dfa_loading.specs.declared.fault.FileFlaw.TheVariants as flaws
use Rattle.dfa_loading.specs.declared.fault.LoadFault.{LoadFault}
use Rattle.dfa_loading.specs.declared.fault.LoadFault.TheVariants as faults
use Rattle.dfa_reading.specs.Headers.{Header, Sets}
use Rattle.dfa_reading.specs.Listed.{Listed}
use Rattle.dfa_reading.specs.SystemFiles.{part_of}
use Rattle.dfa_reading.specs.declared.system_part.SystemPart.{SystemPart}
use Rattle.wal_outside.specs.Views.{StoreView}
use Rattle.wal_outside.specs.declared.folder.Folder.TheVariants.{Bases}
use Rattle.wal_outside.specs.declared.store.TheConstants.{TEXT_LIMIT}
use Rattle.system_files.specs.SystemFiles.{Custom}
use Rattle.system_files.specs.SystemTexts.{Finding, Absent, Text, TooLong, FoundText, IsFoundAs, Agrees, HasFound}

-- nothing was found under the name yet
abbrev pub IsNew : List FoundText → List ℕ → Type 0
IsNew found name = (place : ℕ) (one : FoundText) → slice_get found place ≡ Some one → one.name ≢ name

-- what was found under the name is at this place
pub record IsAt (found : List FoundText) (name : List ℕ) (place : ℕ) : Type 0 where
  pub finding : Finding
  pub there : slice_get found place ≡ Some (record { name = name; finding = finding })

-- a text was found
abbrev pub is_text : Finding → Bool
is_text Absent = false
is_text (Text text) = true
is_text TooLong = true

-- this may be found under a name
abbrev pub CanBeFound : Finding → Type 0
CanBeFound finding = (there : Option (List ℕ)) × IsFoundAs there finding

-- Something was read, or not, by the texts that were found, whatever else is in their folder.
pub record Loads {X : Type 0} (Holds : Custom → List FoundText → X → Type 0) (Fails : Custom → LoadFault → Type 0) (before : List FoundText) (old : StoreView) (result : Result X LoadFault) (after : List FoundText) (new : StoreView) : Type 0 where
  pub gives : (custom : Custom) → Agrees custom after → MatchResult result (Holds custom after) (Fails custom)
  pub found : HasFound before old after
  pub has_read : HasRead old result new

-- the store failed at this name, or memory ran out
abbrev pub FailsLook : List ℕ → LoadFault → Type 0
FailsLook name (faults.Store folder other) = (folder ≡ Bases) × (other ≡ name)
FailsLook name faults.Memory = ⊤
FailsLook name (faults.Unknown folder other) = ⊥
FailsLook name (faults.File folder other flaw) = ⊥

-- the text that was found lists this, as that part of a system
pub record ListsPart (part : SystemPart) (finding : Finding) (listed : Listed) : Type 0 where
  pub text : List ℕ
  pub is_text : finding ≡ Text text
  pub lists : part_of part text ≡ Ok listed

-- some text lists this, as that part of a system
abbrev pub IsListedPart : SystemPart → Listed → Type 0
IsListedPart part listed = (text : List ℕ) × (part_of part text ≡ Ok listed)

-- it has this flaw
abbrev pub HasFlaw : SystemPart → Finding → FileFlaw → Type 0
HasFlaw part (Text text) (flaws.Line at) = part_of part text ≡ Err at
HasFlaw part TooLong flaws.TooLong = ⊤
HasFlaw part finding flaw = ⊥

-- why what was found lists nothing
abbrev pub ListsNoPart : SystemPart → FoundText → LoadFault → Type 0
ListsNoPart part found (faults.Unknown folder name) = (folder ≡ Bases) × (name ≡ found.name) × (found.finding ≡ Absent)
ListsNoPart part found (faults.File folder name flaw) = (folder ≡ Bases) × (name ≡ found.name) × HasFlaw part found.finding flaw
ListsNoPart part found (faults.Store folder name) = ⊥
ListsNoPart part found faults.Memory = ⊤

-- a text is under the name, short enough, that lists this as that part of a system
pub record IsPartAt (part : SystemPart) (custom : Custom) (name : List ℕ) (listed : Listed) : Type 0 where
  pub text : List ℕ
  pub there : custom name ≡ Some text
  pub short : length text ≤ TEXT_LIMIT
  pub lists : part_of part text ≡ Ok listed

-- the text is none of that part
abbrev pub IsNoPart : SystemPart → List ℕ → FileFlaw → Type 0
IsNoPart part text (flaws.Line at) = (length text ≤ TEXT_LIMIT) × (part_of part text ≡ Err at)
IsNoPart part text flaws.TooLong = TEXT_LIMIT < length text

-- why nothing is listed under the name as that part
abbrev pub FailsPart : SystemPart → Custom → List ℕ → LoadFault → Type 0
FailsPart part custom name (faults.Unknown folder other) = (folder ≡ Bases) × (other ≡ name) × (custom name ≡ None)
FailsPart part custom name (faults.File folder other flaw) = (folder ≡ Bases) × (other ≡ name) × ((text : List ℕ) × (custom name ≡ Some text) × IsNoPart part text flaw)
FailsPart part custom name (faults.Store folder other) = (folder ≡ Bases) × (other ≡ name)
FailsPart part custom name faults.Memory = ⊤

-- how many digits the only track has
abbrev pub digits_on : Header → ℕ
digits_on (Sets (set ∷ [])) = length set
digits_on _ = 0
