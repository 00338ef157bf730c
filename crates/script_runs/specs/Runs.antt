-- A run: the items of a script in turn, and of the files that it loads.
use Rattle.std.specs.Prelude.{◌≡◌, ℕ, zero, suc, false, List, Ok, Err}
use Rattle.wal_outside.specs.Views.{StoreView}
use Rattle.script_cut.specs.Cuts.{Rest, Next, start, IsAtEnd}
use Rattle.script_runs.specs.Languages.{CommandLanguage, Enters, Loads, Ends, Reply}
use Rattle.script_runs.specs.Replies.{State, Replies, state_after}
use Rattle.script_runs.specs.Turns.{Turns, no_more, cut_off, turn, is_cut_off, goes_on}

-- How many bytes may still be read. Of the script each byte counts that is passed; a file counted as a whole when it was loaded.
abbrev pub room_at : ℕ → Rest → ℕ → ℕ
room_at zero mid room = mid.room
room_at (suc depth) mid room = room

abbrev pub place_with : ℕ → Rest → ℕ → Rest
place_with zero mid room = record mid { room = room }
place_with (suc depth) mid room = mid

abbrev pub with_room : {F : Type 0} (l : CommandLanguage F) → State l → ℕ → State l
with_room l old room = record old { room = room }

-- one property of the text that a command loads, and another of a command that loads none
abbrev pub by_load : {F : Type 0} (l : CommandLanguage F) → Reply l → (List ℕ → Type 0) → Type 0 → Type 0
by_load l (Ok (Enters success)) P Q = Q
by_load l (Ok (Loads loaded)) P Q = P loaded
by_load l (Ok Ends) P Q = Q
by_load l (Err fault) P Q = Q

-- The items of a text that is nested in so many loads come in turn, from a place and a state to others. A text that is loaded runs from its
-- start, and to its end unless the run ends in it.
abbrev pub Run : {F : Type 0} (l : CommandLanguage F) → ℕ → Rest → State l → Turns l → Rest → State l → Type 0
Run l depth place old no_more last new = (last ≡ place) × (new ≡ old)
Run l depth place old cut_off last new = (last ≡ place) × (new ≡ old)
Run l depth place old (turn first inside after) last new =
    (mid : Rest) × (store : StoreView) × (later : State l) × Next place first.item mid
    × Replies l depth (with_room l old (room_at depth mid old.room)) first store
    × by_load l first.reply
    (λ loaded. (end : Rest) × Run l (suc depth) (start loaded) (state_after l (with_room l old (room_at depth mid old.room)) first.reply store) inside end later × (is_cut_off l inside ≡ false → IsAtEnd end))
    ((inside ≡ no_more) × (later ≡ state_after l (with_room l old (room_at depth mid old.room)) first.reply store))
    × (goes_on l first.reply inside ≡ false → after ≡ cut_off)
    × Run l depth (place_with depth mid later.room) later after last new

-- where a run begins: nothing was read of the script, and 16,777,216 bytes may be
abbrev pub first_state : {F : Type 0} (l : CommandLanguage F) → StoreView → State l
first_state l store = record { ledger = l.first store.files; store = store; room = 16777216 }
