-- What a run does with one item, and with a file that is loaded.
use Rattle.std.specs.Prelude.{◌≡◌, ◌⊎◌, ℕ, suc, ◌-◌, ◌<◌, ◌≤◌, false, List, ◌∷◌, ◌++◌, length, IfSome, Result, Ok, Err}
use Rattle.wal_outside.specs.Views.{SourceView, SinkView, StoreView}
use Rattle.script_cut.specs.Cuts.{Item, Rest, start, IsAtEnd}
use Rattle.script_cut.specs.Kept.{Kept}
use Rattle.script_runs.specs.declared.deed.Deed.{Deed}
use Rattle.script_runs.specs.declared.deed.Deed.TheVariants as deeds
use Rattle.script_runs.specs.declared.flow.Flow.{Flow}
use Rattle.script_runs.specs.declared.script_fault.ScriptFault.TheVariants as script
use Rattle.script_runs.specs.declared.tally.Tally.{Tally}
use Rattle.script_runs.specs.declared.status.Status.{Status}
use Rattle.script_runs.specs.Languages.{CommandLanguage, Reply}
use Rattle.script_runs.specs.Replies.{State, Replies, state_after, room_after, Gives}
use Rattle.script_runs.specs.Turns.{Turns, in_order, is_cut_off}
use Rattle.script_runs.specs.Runs.{Run}
use Rattle.script_runs.specs.Printed.{is_shown}
use Rattle.script_runs.specs.Tallies.{Counts, nothing, tally_status}
use Rattle.script_runs.specs.Ends.{HasGiven, RanThrough, RanToStop, RanToFault}
use Rattle.script_runs.specs.Flows.{Prints, ItemEndsBy, TextEndsBy, Loaded}

-- an item has a reply that a call gives, and so many bytes may be read afterwards
pub record HasReplied {F : Type 0} (l : CommandLanguage F) (depth : ℕ) (old : State l) (item : Item) (result : Result Deed F) (store : StoreView) (room : ℕ) : Type 0 where
  pub reply : Reply l
  pub gives : Gives l (is_shown item.ended) result reply
  pub replies : Replies l depth old (record { item = item; reply = reply }) store
  pub room_is : room ≡ room_after l old.room reply

-- An item that is nested in so many loads was answered, and so were those of the text that it loaded. Their lines were printed and counted.
pub record TakesItem {F : Type 0} (l : CommandLanguage F) (depth : ℕ) (old : State l) (item : Item) (held : SinkView) (tally : Tally) (flow : Flow) (later : State l) (now : SinkView) (counted : Tally) : Type 0 where
  pub reply : Reply l
  pub store : StoreView
  pub inside : Turns l
  pub replies : Replies l depth old (record { item = item; reply = reply }) store
  pub loaded : Loaded l (suc depth) reply (state_after l old reply store) inside later
  pub ends : ItemEndsBy l reply inside flow
  pub prints : Prints l held (record { item = item; reply = reply } ∷ in_order l inside) flow now
  pub counts : Counts l tally (record { item = item; reply = reply } ∷ in_order l inside) counted
  pub stores : IfSome later.store.files (l.stores later.ledger)

-- The items of a text that is nested in so many loads were answered, to its end unless the run ended in it. Their lines were printed and counted.
pub record TakesText {F : Type 0} (l : CommandLanguage F) (depth : ℕ) (old : State l) (text : List ℕ) (held : SinkView) (tally : Tally) (flow : Flow) (end : Rest) (later : State l) (now : SinkView) (counted : Tally) : Type 0 where
  pub turns : Turns l
  pub run : Run l depth (start text) old turns end later
  pub ended : is_cut_off l turns ≡ false → IsAtEnd end
  pub ends : TextEndsBy l turns flow
  pub prints : Prints l held (in_order l turns) flow now
  pub counts : Counts l tally (in_order l turns) counted
  pub stores : IfSome later.store.files (l.stores later.ledger)

-- the state of a run, by what is known, the store, and how many bytes may still be read
abbrev pub state : {F : Type 0} (l : CommandLanguage F) → l.Ledger → StoreView → ℕ → State l
state l ledger store room = record { ledger = ledger; store = store; room = room }

-- the bytes of a text that is loaded are taken from those that may be read, unless there are too few
abbrev pub Pays : {F : Type 0} (l : CommandLanguage F) → ℕ → Deed → Result Deed F → ℕ → Type 0
Pays l room (deeds.Enters printed) result left = (result ≡ Ok (deeds.Enters printed)) × (left ≡ room)
Pays l room (deeds.Loads text) result left =
    ((length text.items ≤ room) × (result ≡ Ok (deeds.Loads text)) × (left ≡ room - length text.items))
    ⊎ ((room < length text.items) × (result ≡ Err (l.of_script script.PastLimit)) × (left ≡ room))
Pays l room deeds.Ends result left = (result ≡ Ok deeds.Ends) × (left ≡ room)

-- of what is kept of a script only the room may have fallen
pub record OnlySpends (old new : Kept) : Type 0 where
  pub only : new ≡ record old { room = new.room }
  pub falls : new.room ≤ old.room

-- The items of a script were all answered, and counted. Or source or sink ended the run with a status, or memory ran out.
abbrev pub HasAnswered : {F : Type 0} → CommandLanguage F → SourceView → SourceView → StoreView → StoreView → SinkView → SinkView → Result Tally Status → Type 0
HasAnswered l from to old new held now (Ok tally) =
    (gave : List ℕ) × (more : List ℕ) × HasGiven from to gave more
    × (through : RanThrough l (gave ++ more) from to old new held now (tally_status tally)) × Counts l nothing (in_order l through.turns) tally
HasAnswered l from to old new held now (Err state) =
    (gave : List ℕ) × (more : List ℕ) × HasGiven from to gave more
    × (RanToStop l (gave ++ more) from to old new held now state ⊎ RanToFault l gave more from to old new held now state)
