-- What one read of a store reports of a file.
use Rattle.std.proofs.Common.{◌≡◌, ℕ, ◌+◌, ◌<◌, ◌≤◌, true, List, length, replicate, Option, None, Some, Result, Ok, Err, refl, arith}
use Rattle.std.specs.Option.{IfSome}
use Rattle.std.specs.Result.{MatchResult}
use Rattle.std.proofs.lemmas.List.{length-replicate}
use Rattle.wal_outside.specs.Answers.{Finds}
use Rattle.wal_outside.specs.Causes.{CountsFault}
use Rattle.wal_outside.specs.Files.{Files}
use Rattle.wal_outside.specs.Places.{FailedAt}
use Rattle.wal_outside.specs.Views.{StoreView}
use Rattle.wal_outside.specs.declared.folder.Folder.{Folder}
use Rattle.wal_outside.specs.declared.store.Found.TheVariants as answers
use Rattle.wal_outside.specs.declared.store.TheConstants.{TEXT_LIMIT}
use Rattle.dfa_loading.specs.declared.fault.FileFlaw.TheVariants.{TooLong}
use Rattle.dfa_loading.specs.declared.fault.LoadFault.{LoadFault}
use Rattle.dfa_loading.specs.declared.fault.LoadFault.TheVariants as faults
use Rattle.dfa_loading.specs.declared.loaded.Loaded.{Loaded}
use Rattle.formula_resolve.specs.declared.file.File.{File}
use Rattle.dfa_loading.specs.Places.{place_of, IsReadAt, ListsAs, IsNotListed, IsListedBy, Fails, IsLoadedFile, HasRead}
use Rattle.dfa_loading.proofs.ReadSteps.{quiet_read}

-- the files that are reported, or else some that have this everywhere
abbrev pub files_by : Option Files → Option (List ℕ) → Files
files_by None there = λ folder name. there
files_by (Some files) there = files

pub reported_by : (reported : Option Files) (there : Option (List ℕ)) → IfSome reported (λ files. files_by reported there ≡ files)
reported_by None there = tt
reported_by (Some files) there = refl

there_by : (reported : Option Files) (there : Option (List ℕ)) (file : File) → IfSome reported (λ files. files (place_of file).0 (place_of file).1 ≡ there) → files_by reported there (place_of file).0 (place_of file).1 ≡ there
there_by None there file is = refl
there_by (Some files) there file is = is

-- some files, where the store reports its files by these
pub some_files : (reported : Option Files) → (found : Files) × IfSome reported (λ files. found ≡ files)
some_files reported = (files_by reported None, reported_by reported None)

-- a text that is too long
pub text_past : (n : ℕ) → (text : List ℕ) × (n < length text)
text_past n = (replicate {A = ℕ} (n + 1) 0, omega (arith, length-replicate {A = ℕ} (n + 1) 0))

at_place : (old new : StoreView) (file : File) (there : Option (List ℕ)) (result : Result Loaded LoadFault) → IfSome old.files (λ files. files (place_of file).0 (place_of file).1 ≡ there)
    → ((found : Files) → found (place_of file).0 (place_of file).1 ≡ there → MatchResult result (IsListedBy found file) (Fails found file)) → HasRead old result new → IsLoadedFile file old result new
at_place old new file there result is gives read = record {
  found = files_by old.files there;
  reported = reported_by old.files there;
  gives = gives (files_by old.files there) (there_by old.files there file is);
  has_read = read;
}

found_so : (reported : Option Files) (file : File) (text : List ℕ) → Finds reported (place_of file).0 (place_of file).1 answers.Found text → IfSome reported (λ files. files (place_of file).0 (place_of file).1 ≡ Some text)
found_so None file text finds = tt
found_so (Some files) file text finds = finds.0

long_so : (reported : Option Files) (file : File) (into : List ℕ) → Finds reported (place_of file).0 (place_of file).1 answers.TooLong into → (text : List ℕ) × IfSome reported (λ files. files (place_of file).0 (place_of file).1 ≡ Some text) × (TEXT_LIMIT < length text)
long_so None file into finds = let past = text_past TEXT_LIMIT in (past.0, tt, past.1)
long_so (Some files) file into finds = finds

-- a text that was read lists a table, or doesn't
pub found_there : (old new : StoreView) (file : File) (text : List ℕ) (result : Result Loaded LoadFault)
    → Finds old.files (place_of file).0 (place_of file).1 answers.Found text → length text ≤ TEXT_LIMIT → new.files ≡ old.files → new.faults ≡ old.faults → new.failed ≡ old.failed
    → MatchResult result (ListsAs file text) (IsNotListed file text) → IsLoadedFile file old result new
found_there old new file text (Ok table) finds short files counts failed lists =
    at_place old new file (Some text) (Ok table) (found_so old.files file text finds) (λ found there. record { text = text; there = there; short = short; lists = lists }) (quiet_read old new (Ok table) files counts failed)
found_there old new file text (Err (faults.Unknown folder name)) finds short files counts failed lists = absurd lists
found_there old new file text (Err (faults.File folder name flaw)) finds short files counts failed lists =
    at_place old new file (Some text) (Err (faults.File folder name flaw)) (found_so old.files file text finds) (λ found there. (lists.0, (text, there, lists.1))) (quiet_read old new (Err (faults.File folder name flaw)) files counts failed)
found_there old new file text (Err (faults.Store folder name)) finds short files counts failed lists = absurd lists
found_there old new file text (Err faults.Memory) finds short files counts failed lists =
    at_place old new file (Some text) (Err faults.Memory) (found_so old.files file text finds) (λ found there. tt) (quiet_read old new (Err faults.Memory) files counts failed)

module _ (file : File) (folder : Folder) (name : List ℕ) (at : IsReadAt file folder name) where
  -- nothing is there
  pub absent_there : (old new : StoreView) (into : List ℕ) → Finds old.files (place_of file).0 (place_of file).1 answers.Absent into → new.files ≡ old.files → new.faults ≡ old.faults → new.failed ≡ old.failed
      → IsLoadedFile file old (Err (faults.Unknown folder name)) new
  absent_there old new into finds files counts failed =
      at_place old new file None (Err (faults.Unknown folder name)) finds (λ found there. (at, there)) (quiet_read old new (Err (faults.Unknown folder name)) files counts failed)

  -- a text is there that is too long
  pub long_there : (old new : StoreView) (into : List ℕ) → Finds old.files (place_of file).0 (place_of file).1 answers.TooLong into → new.files ≡ old.files → new.faults ≡ old.faults → new.failed ≡ old.failed
      → IsLoadedFile file old (Err (faults.File folder name TooLong)) new
  long_there old new into finds files counts failed =
      let long : (text : List ℕ) × IfSome old.files (λ files. files (place_of file).0 (place_of file).1 ≡ Some text) × (TEXT_LIMIT < length text) = long_so old.files file into finds in
      at_place old new file (Some long.0) (Err (faults.File folder name TooLong)) long.1 (λ found there. (at, (long.0, there, long.2))) (quiet_read old new (Err (faults.File folder name TooLong)) files counts failed)

  -- the store failed there
  pub failed_there : (old new : StoreView) → new.files ≡ old.files → CountsFault true old.faults new.faults → FailedAt true (folder, name) old.failed new.failed → IsLoadedFile file old (Err (faults.Store folder name)) new
  failed_there old new files counts failed = record {
    found = files_by old.files None;
    reported = reported_by old.files None;
    gives = at;
    has_read = record { files = files; later = counts.0; cause = (counts.1, failed) };
  }

-- memory ran out
pub memory_there : (old new : StoreView) (file : File) → new.files ≡ old.files → new.faults ≡ old.faults → new.failed ≡ old.failed → IsLoadedFile file old (Err faults.Memory) new
memory_there old new file files counts failed = record {
  found = files_by old.files None;
  reported = reported_by old.files None;
  gives = tt;
  has_read = quiet_read old new (Err faults.Memory) files counts failed;
}
