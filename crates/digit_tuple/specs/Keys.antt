-- Keys that letters lead to, and where words lead.
use Rattle.std.specs.Prelude.{◌≡◌, ◌==◌, ℕ, ◌+◌, ◌*◌, ◌<◌, Bool, false, List, [], ◌∷◌, Option, None, Some, slice_index_or, slice_range, not, if◌then◌else◌}
use Rattle.std.specs.List.{All, AllPairs, list_any}
use Rattle.std.specs.Option.{option_map_or, option_and_then}

-- a transition from a key: its letter, and the key that it leads to
pub record KeyTransition : Type 0 where
  pub letter : ℕ
  pub key : List ℕ

-- the transition at a place
abbrev pub no_transition : KeyTransition
no_transition = record { letter = 0; key = [] }

abbrev pub transition_at : List KeyTransition → ℕ → KeyTransition
transition_at transitions place = slice_index_or transitions place no_transition

-- where the first transition by the letter leads
abbrev pub key_by : List KeyTransition → ℕ → Option (List ℕ)
key_by [] letter = None
key_by (transition ∷ transitions) letter = if transition.letter == letter then Some transition.key else key_by transitions letter

-- the letter of the one transition is before that of the other
abbrev pub IsByEarlier : KeyTransition → KeyTransition → Type 0
IsByEarlier e f = e.letter < f.letter

-- the transitions are by letters of the alphabet, are sorted by letter, at most one by each, and lead where the function says
pub record AreKeyTransitions (letters : ℕ) (after : ℕ → Option (List ℕ)) (transitions : List KeyTransition) : Type 0 where
  pub in_range : All (λ transition. transition.letter < letters) transitions
  pub ascending : AllPairs IsByEarlier transitions
  pub lead : (letter : ℕ) → letter < letters → key_by transitions letter ≡ after letter

-- the transition by a letter to a key, if it leads to one
abbrev pub transitions_to : ℕ → Option (List ℕ) → List KeyTransition
transitions_to letter None = []
transitions_to letter (Some key) = (record { letter = letter; key = key }) ∷ []

-- the part of the numbers that is the letter's, where each letter in turn has so many
abbrev pub part_of : List ℕ → ℕ → ℕ → List ℕ
part_of numbers width letter = slice_range numbers (letter * width) (letter * width + width)

-- the numbers, unless all of them are 0
abbrev pub some_nonzero : List ℕ → Option (List ℕ)
some_nonzero numbers = if list_any (λ number. not (number == 0)) numbers then Some numbers else None

-- where a word leads from a key
abbrev pub key_run : (List ℕ → ℕ → Option (List ℕ)) → List ℕ → List ℕ → Option (List ℕ)
key_run after key [] = Some key
key_run after key (a ∷ w) = option_and_then (λ next. key_run after next w) (after key a)

-- whether a word is accepted from a key
abbrev pub key_accepts : (List ℕ → ℕ → Option (List ℕ)) → (List ℕ → Bool) → List ℕ → List ℕ → Bool
key_accepts after accepts key [] = accepts key
key_accepts after accepts key (a ∷ w) = option_map_or (λ next. key_accepts after accepts next w) (after key a) false

-- the two words lead from the key to one key, or both to none
abbrev pub LeadAlike : (List ℕ → ℕ → Option (List ℕ)) → List ℕ → List ℕ → List ℕ → Type 0
LeadAlike after key w v = key_run after key w ≡ key_run after key v
