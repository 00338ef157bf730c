-- What one read of a store reports of a file of commands, and what a load gives by it.
use Rattle.std.proofs.Common.{◌≡◌, ℕ, ◌<◌, ◌≤◌, true, List, length, Option, None, Some, IfSome, Result, Ok, Err, Vec, Global, refl, sym, subst, inl, inr, arith}
use Rattle.wal_outside.specs.Answers.{Finds}
use Rattle.wal_outside.specs.Causes.{CountsFault}
use Rattle.wal_outside.specs.Files.{Files}
use Rattle.wal_outside.specs.Places.{FailedAt}
use Rattle.wal_outside.specs.Views.{StoreView}
use Rattle.wal_outside.specs.declared.folder.Folder.TheVariants.{Commands}
use Rattle.wal_outside.specs.declared.store.Found.TheVariants as answers
use Rattle.wal_outside.specs.declared.store.TheConstants.{TEXT_LIMIT}
use Rattle.command_head.specs.Breaks.{HasHead}
use Rattle.command_head.specs.Grammar.{DerivesLoad}
use Rattle.command_head.specs.declared.fault.HeadFault.{HeadFault}
use Rattle.definitions.specs.Texts.{Stores}
use Rattle.definitions.specs.Trees.{Ledger}
use Rattle.dfa_loading.proofs.PlaceSteps.{text_past, files_by, reported_by}
use Rattle.dfa_loading.specs.declared.fault.FileFlaw.TheVariants.{TooLong}
use Rattle.command_parts.specs.declared.file_refusal.FileRefusal.TheVariants as file_refusals
use Rattle.command_parts.specs.declared.refusal.Refusal.TheVariants as refusals
use Rattle.command_parts.specs.declared.fault.Fault.{Fault}
use Rattle.command_parts.specs.declared.fault.Fault.TheVariants as faults
use Rattle.command_parts.specs.Checks.{Check, Pure, Then, Fails}
use Rattle.command_parts.specs.HeadAnswers.{HeadAnswers, fault_of_head}
use Rattle.session_cli.specs.RunOutcomes.{DepthAnswers, TextIn, text_read, LoadsText, IsLoadedText}
use Rattle.command_parts.specs.StoreReads.{HasRead, FromFiles}
use Rattle.command_parts.proofs.CheckSteps.{fails_first, fails_after}
use Rattle.command_parts.proofs.HeadSteps.{head_unread}
use Rattle.command_parts.proofs.StoreReads.{IsOwn, read_on}

-- a call that did not fail
quiet : {X : Type 0} (old new : StoreView) (result : Result X Fault) → IsOwn result → new.files ≡ old.files → new.faults ≡ old.faults → new.failed ≡ old.failed → HasRead old result new
quiet old new result own files counts failed = read_on {X = Unit {0}} old new tt result own (record { files = files; later = omega arith; cause = failed })

module _ (name : List ℕ) where
  there_by : (reported : Option Files) (there : Option (List ℕ)) → IfSome reported (λ files. files Commands name ≡ there) → files_by reported there Commands name ≡ there
  there_by None there is = refl
  there_by (Some files) there is = is

  at_place : (old new : StoreView) (there : Option (List ℕ)) (result : Result (Vec ℕ Global) Fault) → IfSome old.files (λ files. files Commands name ≡ there)
      → ((found : Files) → found Commands name ≡ there → IsLoadedText name found result) → HasRead old result new → FromFiles (IsLoadedText name) old result new
  at_place old new there result is gives read = record {
    found = files_by old.files there;
    reported = reported_by old.files there;
    gives = gives (files_by old.files there) (there_by old.files there is);
    has_read = read;
  }

  found_so : (reported : Option Files) (text : List ℕ) → Finds reported Commands name answers.Found text → IfSome reported (λ files. files Commands name ≡ Some text)
  found_so None text finds = tt
  found_so (Some files) text finds = finds.0

  long_so : (reported : Option Files) (into : List ℕ) → Finds reported Commands name answers.TooLong into → (text : List ℕ) × IfSome reported (λ files. files Commands name ≡ Some text) × (TEXT_LIMIT < length text)
  long_so None into finds = let past = text_past TEXT_LIMIT in (past.0, tt, past.1)
  long_so (Some files) into finds = finds

  -- a text that is read
  pub found_there : (old new : StoreView) (text : Vec ℕ Global) → Finds old.files Commands name answers.Found text.items → length text.items ≤ TEXT_LIMIT
      → new.files ≡ old.files → new.faults ≡ old.faults → new.failed ≡ old.failed → FromFiles (IsLoadedText name) old (Ok text) new
  found_there old new text finds short files counts failed =
      at_place old new (Some text.items) (Ok text) (found_so old.files text.items finds)
      (λ found there. let P : Option (List ℕ) → Type 0 = λ t. TextIn name t (Ok text.items) in subst P (sym there) (inl (short, refl)))
      (quiet old new (Ok text) tt files counts failed)

  -- nothing is there
  pub absent_there : (old new : StoreView) (into : List ℕ) → Finds old.files Commands name answers.Absent into → new.files ≡ old.files → new.faults ≡ old.faults → new.failed ≡ old.failed
      → FromFiles (IsLoadedText name) old (Err (faults.Refused (refusals.File (file_refusals.Unknown Commands name)))) new
  absent_there old new into finds files counts failed =
      at_place old new None (Err (faults.Refused (refusals.File (file_refusals.Unknown Commands name)))) finds
      (λ found there. let P : Option (List ℕ) → Type 0 = λ t. TextIn name t (Err (refusals.File (file_refusals.Unknown Commands name))) in subst P (sym there) refl)
      (quiet old new (Err (faults.Refused (refusals.File (file_refusals.Unknown Commands name)))) refl files counts failed)

  -- a text is there that is too long
  pub long_there : (old new : StoreView) (into : List ℕ) → Finds old.files Commands name answers.TooLong into → new.files ≡ old.files → new.faults ≡ old.faults → new.failed ≡ old.failed
      → FromFiles (IsLoadedText name) old (Err (faults.Refused (refusals.File (file_refusals.File Commands name TooLong)))) new
  long_there old new into finds files counts failed =
      let long : (text : List ℕ) × IfSome old.files (λ files. files Commands name ≡ Some text) × (TEXT_LIMIT < length text) = long_so old.files into finds in
      at_place old new (Some long.0) (Err (faults.Refused (refusals.File (file_refusals.File Commands name TooLong)))) long.1
      (λ found there. let P : Option (List ℕ) → Type 0 = λ t. TextIn name t (Err (refusals.File (file_refusals.File Commands name TooLong))) in subst P (sym there) (inr (long.2, refl)))
      (quiet old new (Err (faults.Refused (refusals.File (file_refusals.File Commands name TooLong)))) refl files counts failed)

  -- the store failed there
  pub failed_there : (old new : StoreView) → new.files ≡ old.files → CountsFault true old.faults new.faults → FailedAt true (Commands, name) old.failed new.failed → FromFiles (IsLoadedText name) old (Err (faults.Store Commands name)) new
  failed_there old new files counts failed = record {
    found = files_by old.files None;
    reported = reported_by old.files None;
    gives = (refl, refl);
    has_read = record { files = files; later = counts.0; cause = (counts.1, failed) };
  }

  -- memory ran out
  pub memory_there : (old new : StoreView) → new.files ≡ old.files → new.faults ≡ old.faults → new.failed ≡ old.failed → FromFiles (IsLoadedText name) old (Err faults.Memory) new
  memory_there old new files counts failed = record {
    found = files_by old.files None;
    reported = reported_by old.files None;
    gives = tt;
    has_read = quiet old new (Err faults.Memory) refl files counts failed;
  }

-- why no text was read
text_unread : (ledger : Ledger) (name : List ℕ) (files : Files) → Stores ledger files → (f : Fault) → IsLoadedText name files (Err f) → Fails (text_read ledger name) f
text_unread ledger name files stores (faults.Store folder under) is = is
text_unread ledger name files stores faults.Memory is = tt
text_unread ledger name files stores (faults.Refused refusal) is = (files, stores, is)

module _ (depth : ℕ) (text : List ℕ) where
  -- the checks after the head
  abbrev after_the_head : Ledger → List ℕ → Check (List ℕ)
  after_the_head ledger name = Then (Pure (DepthAnswers depth name)) (λ few. text_read ledger name)

  -- a load gives what was read
  pub load_reads : (name : List ℕ) → HeadAnswers DerivesLoad text (Ok name) → depth < 8 → (files : Files) (result : Result (Vec ℕ Global) Fault) → IsLoadedText name files result
      → (ledger : Ledger) → Stores ledger files → LoadsText depth ledger text result
  load_reads name head few files (Ok loaded) is ledger stores = (name, head, (tt, inl (few, refl), (files, stores, is)))
  load_reads name head few files (Err fault) is ledger stores =
      fails_after (Pure (HeadAnswers DerivesLoad text)) (after_the_head ledger) name fault head
      (fails_after (Pure (DepthAnswers depth name)) (λ done. text_read ledger name) tt fault (inl (few, refl)) (text_unread ledger name files stores fault is))

  -- a load within eight others
  pub load_deep : (name : List ℕ) → HeadAnswers DerivesLoad text (Ok name) → 8 ≤ depth → (ledger : Ledger) → LoadsText depth ledger text (Err (faults.Refused (refusals.File (file_refusals.LoadDepth name))))
  load_deep name head deep ledger =
      fails_after (Pure (HeadAnswers DerivesLoad text)) (after_the_head ledger) name (faults.Refused (refusals.File (file_refusals.LoadDepth name))) head
      (fails_first (Pure (DepthAnswers depth name)) (λ done. text_read ledger name) (faults.Refused (refusals.File (file_refusals.LoadDepth name))) (inr (deep, refl)))

  -- a head that is not read
  pub load_unread : (fault : HeadFault) → HasHead DerivesLoad (λ (name : List ℕ). name) text (Err fault) → (ledger : Ledger) → LoadsText depth ledger text (Err (fault_of_head fault))
  load_unread fault unread ledger =
      fails_first (Pure (HeadAnswers DerivesLoad text)) (after_the_head ledger) (fault_of_head fault) (head_unread DerivesLoad (λ (name : List ℕ). name) text fault unread)
