-- The classes that words have from each state of an automaton. Nobody has to believe this: it serves the code.
use Rattle.std.specs.Prelude.{◌≡◌, ◌==◌, ℕ, ◌*◌, ◌<◌, Bool, not, List, length, map, Option}
use Rattle.std.specs.List.{list_any, range_with_len}
use Rattle.digit_tuple.specs.Deterministic.{Automaton, letters_of, states_of}
use Rattle.digit_tuple.specs.Keys.{part_of, some_nonzero}
use Rattle.residual_classes.specs.Classes.{class_of, next_of}

-- where the letter leads from each state, to the sink where there is no transition
abbrev pub targets_by : Automaton → ℕ → List ℕ
targets_by d letter = map (λ q. next_of d q letter) (range_with_len 0 (states_of d))

-- where each letter in turn leads from each state
pub record AreTargets (d : Automaton) (targets : List ℕ) : Type 0 where
  pub room : length targets ≡ letters_of d * states_of d
  pub parts : (letter : ℕ) → letter < letters_of d → part_of targets (states_of d) letter ≡ targets_by d letter

-- there is a class for each state
abbrev pub HasStateClasses : Automaton → List ℕ → Type 0
HasStateClasses d key = length key ≡ states_of d

-- from each state the class of where the letter leads, unless all are 0
abbrev pub classes_back : Automaton → List ℕ → ℕ → Option (List ℕ)
classes_back d key letter = some_nonzero (map (class_of key) (targets_by d letter))

-- the class of the initial state
abbrev pub first_class : List ℕ → ℕ
first_class key = class_of key 0

-- whether the initial state has a class
abbrev pub has_class : List ℕ → Bool
has_class key = not (first_class key == 0)

-- whether some state has a class
abbrev pub has_some_class : List ℕ → Bool
has_some_class key = list_any (λ class. not (class == 0)) key
