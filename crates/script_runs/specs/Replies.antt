-- How an item of a script is answered, and what that makes of the store and of what is known of it.
use Rattle.std.specs.Prelude.{◌≡◌, ◌⊎◌, ℕ, ◌-◌, ◌<◌, ◌≤◌, Bool, true, false, List, length, Option, None, Some, IfSome, Result, Ok, Err, IsTrue, ⊤}
use Rattle.std.specs.Option.{option_map}
use Rattle.wal_outside.specs.Causes.{Rose}
use Rattle.wal_outside.specs.Files.{Files}
use Rattle.wal_outside.specs.Places.{Place}
use Rattle.wal_outside.specs.Views.{StoreView}
use Rattle.script_cut.specs.Cuts.{Ended, Terminated, Unterminated, PastLimit, Item}
use Rattle.script_runs.specs.Languages.{CommandLanguage, Deed, Enters, Loads, Ends, Reply, is_store_fault}
use Rattle.script_runs.specs.declared.deed.Deed.{Deed as Done}
use Rattle.script_runs.specs.declared.deed.Deed.TheVariants as deeds
use Rattle.script_runs.specs.declared.script_fault.ScriptFault.TheVariants as script

-- a text without terminator is refused
abbrev pub IsOpenReply : {F : Type 0} (l : CommandLanguage F) → List ℕ → Reply l → Type 0
IsOpenReply l text reply =
    ((65536 < length text) × (reply ≡ Err (l.of_script script.Long)))
    ⊎ ((length text ≤ 65536) × (reply ≡ Err (l.of_script (script.Unterminated (length text)))))

-- a text that is loaded fits into the bytes that may still be read
abbrev pub FitsIn : {F : Type 0} (l : CommandLanguage F) → ℕ → Reply l → Type 0
FitsIn l room (Ok (Enters success)) = ⊤
FitsIn l room (Ok (Loads loaded)) = length loaded ≤ room
FitsIn l room (Ok Ends) = ⊤
FitsIn l room (Err fault) = ⊤

-- the script and the files that are loaded would pass the limit
abbrev pub PassesLimit : {F : Type 0} (l : CommandLanguage F) → ℕ → ℕ → l.Ledger → List ℕ → Reply l → Type 0
PassesLimit l depth room ledger text reply = (loaded : List ℕ) × l.answers depth ledger text (Ok (Loads loaded)) × (room < length loaded) × (reply ≡ Err (l.of_script script.PastLimit))

-- the reply to an item that is nested in so many loads, where so many bytes may still be read, by how the item ended
abbrev pub IsReplyOf : {F : Type 0} (l : CommandLanguage F) → Ended → ℕ → ℕ → l.Ledger → List ℕ → Reply l → Type 0
IsReplyOf l (Terminated shown) depth room ledger text reply = (l.answers depth ledger text reply × FitsIn l room reply) ⊎ PassesLimit l depth room ledger text reply
IsReplyOf l Unterminated depth room ledger text reply = IsOpenReply l text reply
IsReplyOf l PastLimit depth room ledger text reply = reply ≡ Err (l.of_script script.PastLimit)

-- only a command that makes something changes files
abbrev pub Changes : {F : Type 0} (l : CommandLanguage F) → l.Ledger → Option Files → Reply l → Option Files → Type 0
Changes l ledger old (Ok (Enters success)) new = l.changes ledger success old new
Changes l ledger old (Ok (Loads loaded)) new = new ≡ old
Changes l ledger old (Ok Ends) new = new ≡ old
Changes l ledger old (Err fault) new = new ≡ old

-- what is known after a reply
abbrev pub ledger_after : {F : Type 0} (l : CommandLanguage F) → l.Ledger → Reply l → l.Ledger
ledger_after l ledger (Ok (Enters success)) = l.after ledger success
ledger_after l ledger (Ok (Loads loaded)) = ledger
ledger_after l ledger (Ok Ends) = ledger
ledger_after l ledger (Err fault) = ledger

-- how many bytes may be read after a reply: a text that is loaded counts as a whole
abbrev pub room_after : {F : Type 0} (l : CommandLanguage F) → ℕ → Reply l → ℕ
room_after l room (Ok (Enters success)) = room
room_after l room (Ok (Loads loaded)) = room - length loaded
room_after l room (Ok Ends) = room
room_after l room (Err fault) = room

abbrev pub of_fault : {F : Type 0} (l : CommandLanguage F) → (F → Bool) → Reply l → Bool
of_fault l p (Ok deed) = false
of_fault l p (Err fault) = p fault

abbrev pub is_refusal : {F : Type 0} (l : CommandLanguage F) → Reply l → Bool
is_refusal l reply = of_fault l (λ fault. true) reply

abbrev pub is_by_store : {F : Type 0} (l : CommandLanguage F) → Reply l → Bool
is_by_store l reply = of_fault l (is_store_fault l) reply

abbrev pub is_by_memory : {F : Type 0} (l : CommandLanguage F) → Reply l → Bool
is_by_memory l reply = of_fault l l.is_memory reply

-- the file of the last call that failed, where that is reported: a store fault's, from then on
abbrev pub failed_by : Option Place → Option (Option Place) → Option (Option Place)
failed_by None old = old
failed_by (Some place) old = option_map (λ _. Some place) old

abbrev pub failed_after : {F : Type 0} (l : CommandLanguage F) → Option (Option Place) → Reply l → Option (Option Place)
failed_after l old (Ok deed) = old
failed_after l old (Err fault) = failed_by (l.failed_at fault) old

-- A store before and after a reply. A store fault comes only where the store's count of faults rose.
pub record Stored {F : Type 0} (l : CommandLanguage F) (known : l.Ledger) (old : StoreView) (reply : Reply l) (new : StoreView) : Type 0 where
  pub files : Changes l known old.files reply new.files
  pub later : old.faults ≤ new.faults
  pub cause : IsTrue (is_by_store l reply) → Rose old.faults new.faults
  pub failed : new.failed ≡ failed_after l old.failed reply

-- the state of a run: what is known, the store, and how many bytes of the script and of files may still be read
pub record State {F : Type 0} (l : CommandLanguage F) : Type 0 where
  pub ledger : l.Ledger
  pub store : StoreView
  pub room : ℕ

-- an item with its reply
pub record Answered {F : Type 0} (l : CommandLanguage F) : Type 0 where
  pub item : Item
  pub reply : Reply l

-- One item that is nested in so many loads: it has this reply, and then the store is so. Where the store reports its files, the command is
-- answered by what is known of it, and else by something that may be known.
pub record Replies {F : Type 0} (l : CommandLanguage F) (depth : ℕ) (old : State l) (answered : Answered l) (new : StoreView) : Type 0 where
  pub known : l.Ledger
  pub known_is : IfSome old.store.files (λ (files : Files). known ≡ old.ledger)
  pub replied : IsReplyOf l answered.item.ended depth old.room known answered.item.text answered.reply
  pub stored : Stored l known old.store answered.reply new

-- the state of a run after a reply
abbrev pub state_after : {F : Type 0} (l : CommandLanguage F) → State l → Reply l → StoreView → State l
state_after l old reply new = record { ledger = ledger_after l old.ledger reply; store = new; room = room_after l old.room reply }

-- what a call did: it made something, and printed this; or loaded this text; or ended the run
abbrev pub HasDone : {F : Type 0} (l : CommandLanguage F) → Bool → Done → Deed l.Success → Type 0
HasDone l shown (deeds.Enters printed) (Enters success) = printed.items ≡ l.success_text shown success
HasDone l shown (deeds.Enters printed) (Loads loaded) = ⊥
HasDone l shown (deeds.Enters printed) Ends = ⊥
HasDone l shown (deeds.Loads text) (Enters success) = ⊥
HasDone l shown (deeds.Loads text) (Loads loaded) = text.items ≡ loaded
HasDone l shown (deeds.Loads text) Ends = ⊥
HasDone l shown deeds.Ends (Enters success) = ⊥
HasDone l shown deeds.Ends (Loads loaded) = ⊥
HasDone l shown deeds.Ends Ends = ⊤

-- a call's result is the reply: what it did, or the same fault
abbrev pub Gives : {F : Type 0} (l : CommandLanguage F) → Bool → Result Done F → Reply l → Type 0
Gives l shown (Ok done) (Ok deed) = HasDone l shown done deed
Gives l shown (Ok done) (Err fault) = ⊥
Gives l shown (Err fault) (Ok deed) = ⊥
Gives l shown (Err fault) (Err refusal) = fault ≡ refusal

-- one command that has its terminator: it has a reply that the call gives
pub record AnswersCommand {F : Type 0} (l : CommandLanguage F) (depth : ℕ) (ledger : l.Ledger) (old : StoreView) (text : List ℕ) (shown : Bool) (result : Result Done F) (new : StoreView) : Type 0 where
  pub reply : Reply l
  pub gives : Gives l shown result reply
  pub known : l.Ledger
  pub known_is : IfSome old.files (λ (files : Files). known ≡ ledger)
  pub answered : l.answers depth known text reply
  pub stored : Stored l known old reply new
