-- What is printed of a run, and its status.
use Rattle.std.specs.Prelude.{ℕ, Bool, false, ◌||◌, if◌then◌else◌, List, [], ◌∷◌, ◌++◌, Ok, Err}
use Rattle.script_cut.specs.Cuts.{Ended, Terminated, Unterminated, PastLimit, Item}
use Rattle.script_runs.specs.Languages.{CommandLanguage, Enters, Loads, Ends, Reply}
use Rattle.script_runs.specs.Replies.{Answered, is_refusal, is_by_store, is_by_memory}
use Rattle.script_runs.specs.declared.status.Status.{Status}
use Rattle.script_runs.specs.declared.status.Status.TheVariants as status

-- whether the steps of an item are shown
abbrev pub is_shown : Ended → Bool
is_shown (Terminated shown) = shown
is_shown Unterminated = false
is_shown PastLimit = false

-- what is printed of an item: nothing of a load or an end
abbrev pub line_of : {F : Type 0} (l : CommandLanguage F) → Item → Reply l → List ℕ
line_of l item (Ok (Enters success)) = l.success_text (is_shown item.ended) success
line_of l item (Ok (Loads loaded)) = []
line_of l item (Ok Ends) = []
line_of l item (Err fault) = l.fault_line item.line fault

abbrev pub printed : {F : Type 0} (l : CommandLanguage F) → List (Answered l) → List ℕ
printed l [] = []
printed l (a ∷ answered) = line_of l a.item a.reply ++ printed l answered

-- whether a reply of a kind is among them
abbrev pub some_of : {F : Type 0} (l : CommandLanguage F) → (Reply l → Bool) → List (Answered l) → Bool
some_of l p [] = false
some_of l p (a ∷ answered) = p a.reply || some_of l p answered

-- out of memory counts before a store that failed, and that before another refusal
abbrev pub status_by : Bool → Bool → Bool → Status
status_by refused store memory = if memory then status.Memory else if store then status.Outside else if refused then status.Refused else status.Done

abbrev pub status_of : {F : Type 0} (l : CommandLanguage F) → List (Answered l) → Status
status_of l answered = status_by (some_of l (is_refusal l) answered) (some_of l (is_by_store l) answered) (some_of l (is_by_memory l) answered)
