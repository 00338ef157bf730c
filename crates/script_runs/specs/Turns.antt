-- What comes of a text, item after item.
use Rattle.std.specs.Prelude.{◌≡◌, Bool, true, false, not, ◌||◌, List, [], ◌∷◌, ◌++◌, Ok, Err, ⊤}
use Rattle.script_runs.specs.Languages.{CommandLanguage, Enters, Loads, Ends, Reply}
use Rattle.script_runs.specs.Replies.{Answered}

-- The items of a text in turn: no more come; or the run ended there; or one was answered, with what came of the text that it loaded, and then
-- what came next.
pub data Turns {F : Type 0} (l : CommandLanguage F) : Type 0 where
  no_more : Turns l
  cut_off : Turns l
  turn : Answered l → Turns l → Turns l → Turns l

-- the answered items: one, those of the text that it loaded, and those after it
abbrev pub in_order : {F : Type 0} (l : CommandLanguage F) → Turns l → List (Answered l)
in_order l no_more = []
in_order l cut_off = []
in_order l (turn first inside after) = first ∷ (in_order l inside ++ in_order l after)

-- whether the run ended there
abbrev pub is_cut_off : {F : Type 0} (l : CommandLanguage F) → Turns l → Bool
is_cut_off l no_more = false
is_cut_off l cut_off = true
is_cut_off l (turn first inside after) = is_cut_off l after

-- whether a run ends with a reply
abbrev pub ends_with : {F : Type 0} (l : CommandLanguage F) → Reply l → Bool
ends_with l (Ok (Enters success)) = false
ends_with l (Ok (Loads loaded)) = false
ends_with l (Ok Ends) = true
ends_with l (Err fault) = l.ends_run fault

-- whether more may come after an item
abbrev pub goes_on : {F : Type 0} (l : CommandLanguage F) → Reply l → Turns l → Bool
goes_on l reply inside = not (ends_with l reply || is_cut_off l inside)

-- the run ended only where it has to
abbrev pub IsDue : {F : Type 0} (l : CommandLanguage F) → Turns l → Type 0
IsDue l no_more = ⊤
IsDue l cut_off = ⊥
IsDue l (turn first inside after) = IsDue l inside × (goes_on l first.reply inside ≡ true → IsDue l after)
