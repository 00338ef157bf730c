-- The texts of users' systems that were read so far. A name is read once, so that what is said of them holds of one folder.
use Rattle.std.specs.Prelude.{◌≡◌, ℕ, ◌<◌, ◌≤◌, List, length, slice_get, Option, None, Some, IfSome}
use Rattle.std.specs.List.{AllByRecursion}
use Rattle.wal_outside.specs.Files.{Files}
use Rattle.wal_outside.specs.Views.{StoreView}
use Rattle.wal_outside.specs.declared.folder.Folder.TheVariants.{Bases}
use Rattle.wal_outside.specs.declared.store.TheConstants.{TEXT_LIMIT}
use Rattle.system_files.specs.SystemFiles.{Custom}

-- what was found under a name: nothing, a text, or one that is too long to be read
pub data Finding : Type 0 where
  Absent : Finding
  Text : List ℕ → Finding
  TooLong : Finding

pub record FoundText : Type 0 where
  pub name : List ℕ
  pub finding : Finding

-- this is there
abbrev pub IsFoundAs : Option (List ℕ) → Finding → Type 0
IsFoundAs there Absent = there ≡ None
IsFoundAs there (Text text) = (there ≡ Some text) × (length text ≤ TEXT_LIMIT)
IsFoundAs there TooLong = (text : List ℕ) × (there ≡ Some text) × (TEXT_LIMIT < length text)

-- all that was found is in the folder
abbrev pub Agrees : Custom → List FoundText → Type 0
Agrees custom found = AllByRecursion (λ (f : FoundText). IsFoundAs (custom f.name) f.finding) found

-- this text was found under the name
pub record HasText (found : List FoundText) (name text : List ℕ) : Type 0 where
  pub place : ℕ
  pub there : slice_get found place ≡ Some (record { name = name; finding = Text text })

-- what was found before was found still; and it is in the store's folder, where the store reports that, if it did before
pub record HasFound (before : List FoundText) (old : StoreView) (after : List FoundText) : Type 0 where
  pub kept : (custom : Custom) → Agrees custom after → Agrees custom before
  pub reported : IfSome old.files (λ (files : Files). Agrees (files Bases) before → Agrees (files Bases) after)

-- some folder has all that was found
abbrev pub AreInSomeFolder : List FoundText → Type 0
AreInSomeFolder found = (custom : Custom) × Agrees custom found
