-- Keys of listed words: a state, and what is known of zeros. With the most significant digit first that is whether a letter was read, with
-- the least significant one whether the last letter was 0. Nobody has to believe this: it serves the code of `listed_words`.
use Rattle.std.specs.Prelude.{◌≡◌, ◌==◌, ℕ, ◌<◌, Bool, true, not, List, [], ◌∷◌, length, filter, map, Option, None, Some, slice_index_or, ◌&&◌, if◌then◌else◌}
use Rattle.std.specs.Option.{option_map}
use Rattle.digit_tuple.specs.Deterministic.{Automaton, states_of, step_of, accepting_of}
use Rattle.digit_tuple.specs.Keys.{KeyTransition}
use Rattle.digit_tuple.specs.declared.direction.Direction.{Direction}
use Rattle.digit_tuple.specs.declared.direction.Direction.TheVariants.{Msd, Lsd}
use Rattle.digit_tuple.specs.declared.transitions.Transition.{Transition}

-- a word may go on with the letter
abbrev pub goes_on : Option Direction → ℕ → ℕ → Bool
goes_on None mark a = true
goes_on (Some Msd) mark a = not ((mark == 0) && (a == 0))
goes_on (Some Lsd) mark a = true

-- what is known after the letter
abbrev pub mark_after : Option Direction → ℕ → ℕ
mark_after None a = 0
mark_after (Some Msd) a = 1
mark_after (Some Lsd) a = if a == 0 then 1 else 0

-- a word may end
abbrev pub may_end : Option Direction → ℕ → Bool
may_end None mark = true
may_end (Some Msd) mark = true
may_end (Some Lsd) mark = mark == 0

abbrev pub state_in : List ℕ → ℕ
state_in key = slice_index_or key 0 0

abbrev pub mark_in : List ℕ → ℕ
mark_in key = slice_index_or key 1 0

-- where a letter leads from a key
abbrev pub key_after : Automaton → Option Direction → List ℕ → ℕ → Option (List ℕ)
key_after d skip key a = if goes_on skip (mark_in key) a then option_map (λ q. q ∷ mark_after skip a ∷ []) (step_of d (state_in key) a) else None

-- whether a key accepts
abbrev pub accepts_key : Automaton → Option Direction → List ℕ → Bool
accepts_key d skip key = accepting_of d (state_in key) && may_end skip (mark_in key)

-- a state and a mark
pub record IsKey (d : Automaton) (key : List ℕ) : Type 0 where
  pub two : length key ≡ 2
  pub state : state_in key < states_of d

-- the transition from a key of a state's transition
abbrev pub key_transition : Option Direction → Transition → KeyTransition
key_transition skip e = record { letter = e.letter; key = e.target ∷ mark_after skip e.letter ∷ [] }

-- those with whose letters a word may go on
abbrev pub key_transitions : Option Direction → ℕ → List Transition → List KeyTransition
key_transitions skip mark es = map (key_transition skip) (filter (λ e. goes_on skip mark e.letter) es)
