-- What a store's answers say of its files, where these are reported.
use Rattle.std.specs.Prelude.{◌≡◌, ℕ, ◌<◌, ◌≤◌, List, length, Option, None, Some, IfSome, Result, Ok, Err, ⊤}
use Rattle.wal_outside.specs.Files.{Files, put}
use Rattle.wal_outside.specs.declared.folder.Folder.{Folder}
use Rattle.wal_outside.specs.declared.sink.WriteFault.{WriteFault}
use Rattle.wal_outside.specs.declared.store.Found.{Found}
use Rattle.wal_outside.specs.declared.store.Found.TheVariants as answers
use Rattle.wal_outside.specs.declared.store.TheConstants.{TEXT_LIMIT}

-- what a read answers of a text that may be there: it is handed over where it is not too long
abbrev pub Answers : Option (List ℕ) → Found → List ℕ → Type 0
Answers there answers.Found into = (there ≡ Some into) × (length into ≤ TEXT_LIMIT)
Answers there answers.Absent into = there ≡ None
Answers there answers.TooLong into = (text : List ℕ) × (there ≡ Some text) × (TEXT_LIMIT < length text)
Answers there answers.Failed into = ⊤
Answers there answers.Memory into = ⊤

-- what a read of a name answers, where the files are reported
abbrev pub Finds : Option Files → Folder → List ℕ → Found → List ℕ → Type 0
Finds stored folder name result into = IfSome stored (λ files. Answers (files folder name) result into)

-- a write that answers Ok changes the files at one name; every other write, and what isn't reported, leaves them
abbrev pub Keeps : Option Files → Option Files → Folder → List ℕ → List ℕ → Result (Unit {0}) WriteFault → Type 0
Keeps None new folder name text result = new ≡ None
Keeps (Some files) new folder name text (Ok _) = new ≡ Some (put files folder name text)
Keeps (Some files) new folder name text (Err _) = new ≡ Some files
