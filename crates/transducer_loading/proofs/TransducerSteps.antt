-- What one read of a store reports of a transducer.
use Rattle.std.proofs.Common.{◌≡◌, ℕ, ◌<◌, ◌≤◌, true, List, length, Option, None, Some, Result, Ok, Err, refl, subst, sym}
use Rattle.std.specs.Option.{IfSome}
use Rattle.std.specs.Result.{MatchResult, IsErrAnd}
use Rattle.wal_outside.specs.Answers.{Finds}
use Rattle.wal_outside.specs.Causes.{CountsFault}
use Rattle.wal_outside.specs.Files.{Files}
use Rattle.wal_outside.specs.Places.{FailedAt}
use Rattle.wal_outside.specs.Views.{StoreView}
use Rattle.wal_outside.specs.declared.folder.Folder.TheVariants.{Transducers}
use Rattle.wal_outside.specs.declared.store.Found.TheVariants as answers
use Rattle.wal_outside.specs.declared.store.TheConstants.{TEXT_LIMIT}
use Rattle.transducer_reading.specs.Transducers.{Transducer}
use Rattle.transducer_reading.specs.Reading.{transducer_of}
use Rattle.dfa_loading.specs.declared.fault.FileFlaw.TheVariants.{TooLong}
use Rattle.dfa_loading.specs.declared.fault.LoadFault.{LoadFault}
use Rattle.dfa_loading.specs.declared.fault.LoadFault.TheVariants as faults
use Rattle.dfa_loading.specs.Places.{HasRead}
use Rattle.dfa_loading.proofs.PlaceSteps.{some_files, text_past, files_by, reported_by}
use Rattle.dfa_loading.proofs.ReadSteps.{nothing_refused, quiet_read}
use Rattle.transducer_loading.specs.TransducerFiles.{IsTransducerIn, IsNoTransducer, FailsTransducer, IsLoadedTransducer}

module _ (name : List ℕ) where
  there_by : (reported : Option Files) (there : Option (List ℕ)) → IfSome reported (λ files. files Transducers name ≡ there) → files_by reported there Transducers name ≡ there
  there_by None there is = refl
  there_by (Some files) there is = is

  at_place : (old new : StoreView) (there : Option (List ℕ)) (result : Result Transducer LoadFault) → IfSome old.files (λ files. files Transducers name ≡ there)
      → ((found : Files) → found Transducers name ≡ there → MatchResult result (IsTransducerIn found name) (FailsTransducer found name)) → HasRead old result new → IsLoadedTransducer name old result new
  at_place old new there result is gives read = record {
    found = files_by old.files there;
    reported = reported_by old.files there;
    gives = gives (files_by old.files there) (there_by old.files there is);
    has_read = read;
  }

  found_so : (reported : Option Files) (text : List ℕ) → Finds reported Transducers name answers.Found text → IfSome reported (λ files. files Transducers name ≡ Some text)
  found_so None text finds = tt
  found_so (Some files) text finds = finds.0

  long_so : (reported : Option Files) (into : List ℕ) → Finds reported Transducers name answers.TooLong into → (text : List ℕ) × IfSome reported (λ files. files Transducers name ≡ Some text) × (TEXT_LIMIT < length text)
  long_so None into finds = let past = text_past TEXT_LIMIT in (past.0, tt, past.1)
  long_so (Some files) into finds = finds

  -- a text that was read gives a transducer, or does not
  pub found_there : (old new : StoreView) (text : List ℕ) (result : Result Transducer LoadFault) → Finds old.files Transducers name answers.Found text → length text ≤ TEXT_LIMIT
      → new.files ≡ old.files → new.faults ≡ old.faults → new.failed ≡ old.failed → MatchResult result (λ t. transducer_of text ≡ Ok t) (IsNoTransducer name text) → IsLoadedTransducer name old result new
  found_there old new text (Ok t) finds short files counts failed derives =
      at_place old new (Some text) (Ok t) (found_so old.files text finds) (λ found there. record { text = text; there = there; short = short; gives = derives }) (quiet_read old new (Ok t) files counts failed)
  found_there old new text (Err (faults.Unknown folder at)) finds short files counts failed none = absurd none
  found_there old new text (Err (faults.File folder at flaw)) finds short files counts failed none =
      at_place old new (Some text) (Err (faults.File folder at flaw)) (found_so old.files text finds) (λ found there. (none.0, (text, there, none.1))) (quiet_read old new (Err (faults.File folder at flaw)) files counts failed)
  found_there old new text (Err (faults.Store folder at)) finds short files counts failed none = absurd none
  found_there old new text (Err faults.Memory) finds short files counts failed none =
      at_place old new (Some text) (Err faults.Memory) (found_so old.files text finds) (λ found there. tt) (quiet_read old new (Err faults.Memory) files counts failed)

  -- nothing is there
  pub absent_there : (old new : StoreView) (into : List ℕ) → Finds old.files Transducers name answers.Absent into → new.files ≡ old.files → new.faults ≡ old.faults → new.failed ≡ old.failed
      → IsLoadedTransducer name old (Err (faults.Unknown Transducers name)) new
  absent_there old new into finds files counts failed =
      at_place old new None (Err (faults.Unknown Transducers name)) finds (λ found there. ((refl, refl), there)) (quiet_read old new (Err (faults.Unknown Transducers name)) files counts failed)

  -- a text is there that is too long
  pub long_there : (old new : StoreView) (into : List ℕ) → Finds old.files Transducers name answers.TooLong into → new.files ≡ old.files → new.faults ≡ old.faults → new.failed ≡ old.failed
      → IsLoadedTransducer name old (Err (faults.File Transducers name TooLong)) new
  long_there old new into finds files counts failed =
      let long : (text : List ℕ) × IfSome old.files (λ files. files Transducers name ≡ Some text) × (TEXT_LIMIT < length text) = long_so old.files into finds in
      at_place old new (Some long.0) (Err (faults.File Transducers name TooLong)) long.1 (λ found there. ((refl, refl), (long.0, there, long.2))) (quiet_read old new (Err (faults.File Transducers name TooLong)) files counts failed)

  -- the store failed there
  pub failed_there : (old new : StoreView) → new.files ≡ old.files → CountsFault true old.faults new.faults → FailedAt true (Transducers, name) old.failed new.failed → IsLoadedTransducer name old (Err (faults.Store Transducers name)) new
  failed_there old new files counts failed = record {
    found = files_by old.files None;
    reported = reported_by old.files None;
    gives = (refl, refl);
    has_read = record { files = files; later = counts.0; cause = (counts.1, failed) };
  }

  -- memory ran out
  pub memory_there : (old new : StoreView) → new.files ≡ old.files → new.faults ≡ old.faults → new.failed ≡ old.failed → IsLoadedTransducer name old (Err faults.Memory) new
  memory_there old new files counts failed = record {
    found = files_by old.files None;
    reported = reported_by old.files None;
    gives = tt;
    has_read = quiet_read old new (Err faults.Memory) files counts failed;
  }

  -- memory runs out before the text is read
  pub no_memory : (store : StoreView) (result : Result Transducer LoadFault) → IsErrAnd result (λ e. e ≡ faults.Memory) → IsLoadedTransducer name store result store
  no_memory store (Ok t) same = absurd same
  no_memory store (Err fault) same =
      let some : (found : Files) × IfSome store.files (λ files. found ≡ files) = some_files store.files in
      subst (λ (f : LoadFault). IsLoadedTransducer name store (Err f) store) (sym same) (record {
        found = some.0;
        reported = some.1;
        gives = tt;
        has_read = nothing_refused store faults.Memory refl;
      })
