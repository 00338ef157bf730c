-- The files that sessions leave are those of the ledger.
use Rattle.std.proofs.Common.{◌≡◌, ℕ, Bool, true, false, if◌then◌else◌, List, Option, None, Some, IfSome, Ok, refl, sym, subst, inl}
use Rattle.std.specs.Option.{option_map}
use Rattle.wal_outside.specs.Files.{Files, same_file, put}
use Rattle.wal_outside.specs.declared.folder.Folder.{Folder}
use Rattle.definitions.proofs.CustomTexts.{entered_custom}
use Rattle.definitions.specs.Texts.{HasText, HasTextIn, HasTextAt, Stores}
use Rattle.definitions.specs.Trees.{Entry, Bytes, Ledger, tree_of, entered, custom_of, ledger_of}
use Rattle.system_files.specs.SystemFiles.{Custom}
use Rattle.script_runs.specs.Languages.{Enters, IsSound}
use Rattle.script_runs.specs.declared.script_fault.ScriptFault.{ScriptFault}
use Rattle.script_runs.specs.declared.script_fault.ScriptFault.TheVariants as script
use Rattle.session_cli.specs.declared.run_word.RunWord.TheVariants as words
use Rattle.command_parts.specs.Accepting.{Success, Accepted, Storing, Saying, after}
use Rattle.session_cli.specs.Outcomes.{after_length, checks_of}
use Rattle.session_cli.specs.RunOutcomes.{run_checks}
use Rattle.session_cli.specs.SessionLanguage.{StoresEntry, ChangesFiles, script_refusal, first_ledger, session_language}
use Rattle.command_parts.specs.StoreFailures.{failed_at}
use Rattle.command_parts.proofs.SoundChecks.{MayBeStored, AcceptedMayBeStored}
use Rattle.session_cli.specs.StoredEntries.{may_be_there, accepted_may_be_stored}

-- bytes are stored as they are
text_of_bytes : (custom : Custom) (folder : Folder) (there : Option (List ℕ)) → HasTextAt custom folder (option_map (λ bytes. Bytes bytes) there) there
text_of_bytes custom folder None = tt
text_of_bytes custom folder (Some text) = (tt, refl)

-- at first the files are those of the ledger
stores_first : (files : Option Files) → IfSome files (Stores (first_ledger files))
stores_first None = tt
stores_first (Some files) = λ folder name. text_of_bytes (custom_of (ledger_of files)) folder (files folder name)

one_entered : (custom : Custom) (folder : Folder) (v : Bool) (entry : Entry) (stored : List ℕ) (there : Option Entry) (text : Option (List ℕ)) → (v ≡ true → HasTextIn custom folder entry stored) → HasTextAt custom folder there text → HasTextAt custom folder (if v then Some entry else there) (if v then Some stored else text)
one_entered custom folder true entry stored there text new old = new refl
one_entered custom folder false entry stored there text new old = old

-- and stay so with each command that stores
stores_after : (ledger known : Ledger) (success : Success) (old new : Option Files) → MayBeStored success → IfSome old (Stores ledger) → IfSome old (λ (files : Files). known ≡ ledger) → StoresEntry (custom_of known) success old new → IfSome new (Stores (after ledger (Storing success)))
stores_after ledger known success None new may stores known_is (stored, has, is) = let P : Option Files → Type 0 = λ files. IfSome files (Stores (after ledger (Storing success))) in subst P (sym is) tt
stores_after ledger known success (Some files) new may stores known_is (stored, has, is) =
    let own : HasText (custom_of ledger) success.entry stored = subst (λ (l : Ledger). HasText (custom_of l) success.entry stored) known_is has in
    let P : Option Files → Type 0 = λ reported. IfSome reported (Stores (after ledger (Storing success))) in
    let there : (folder : Folder) (name : List ℕ) → HasTextAt (custom_of ledger) folder (entered ledger success.folder success.name success.entry folder name) (put files success.folder success.name stored folder name) = λ folder name.
    one_entered (custom_of ledger) folder (same_file success.folder success.name folder name) success.entry stored (ledger folder name) (files folder name)
    (λ same. (may_be_there success.folder folder success.name name (tree_of success.entry) same may.1, own)) (stores folder name) in
    let Q : Custom → Type 0 = λ custom. (folder : Folder) (name : List ℕ) → HasTextAt custom folder (entered ledger success.folder success.name success.entry folder name) (put files success.folder success.name stored folder name) in
    subst P (sym is) (subst Q (sym (entered_custom ledger success.folder success.name success.entry may.0)) there)

-- and with each accepted command
stays_stored : (ledger known : Ledger) (accepted : Accepted) (old new : Option Files) → AcceptedMayBeStored accepted → IfSome old (Stores ledger) → IfSome old (λ (files : Files). known ≡ ledger) → ChangesFiles (custom_of known) accepted old new → IfSome new (Stores (after ledger accepted))
stays_stored ledger known (Storing success) old new may_be_stored stores known_is changed = stores_after ledger known success old new may_be_stored stores known_is changed
stays_stored ledger known (Saying said) old new may_be_stored stores known_is same = let P : Option Files → Type 0 = λ files. IfSome files (Stores ledger) in subst P (sym same) stores

not_by_store : (fault : ScriptFault) → failed_at (script_refusal fault) ≡ None
not_by_store script.Long = refl
not_by_store (script.Unterminated at) = refl
not_by_store script.PastLimit = refl

-- only what a session's command does is accepted so
entering : (limit depth : ℕ) (ledger : Ledger) (text : List ℕ) (success : Accepted) → (run_checks limit depth ledger text).answers (Ok (Enters success)) → (checks_of limit ledger text).answers (Ok success)
entering limit depth ledger text success (short, is_short, (None, other, (made, made_by, is))) = (short, is_short, subst (λ (s : Accepted). (after_length limit ledger text).answers (Ok s)) (same made success is) made_by)
  where
    same : (made success : Accepted) → Enters success ≡ Enters made → made ≡ success
    same made success is = cc
entering limit depth ledger text success (short, is_short, (Some words.Load, is_word, (loaded, read, is))) = absurd (cc)
entering limit depth ledger text success (short, is_short, (Some words.Exit, is_word, (done, head, is))) = absurd (cc)
entering limit depth ledger text success (short, is_short, (Some words.Quit, is_word, (done, head, is))) = absurd (cc)

pub session_is_sound : (limit : ℕ) (stop : Bool) → IsSound (session_language limit stop)
session_is_sound limit stop = record {
  first_stores = stores_first;
  after_stores = λ depth ledger known text success old new answered stores known_is changed. stays_stored ledger known success old new (accepted_may_be_stored limit known text success (entering limit depth known text success answered)) stores known_is changed;
  too_long = λ depth ledger text long. inl (inl (refl, long));
  not_by_store = not_by_store;
  ends_at_limit = refl;
}
