-- The next word of the same length.
use Rattle.std.specs.Prelude.{ℕ, suc, List, [], ◌∷◌, length, Option, None}
use Rattle.std.specs.Option.{option_map, option_map_or, option_and_then, option_or}
use Rattle.digit_tuple.specs.Deterministic.{Automaton, step_of, transitions_of}
use Rattle.digit_tuple.specs.declared.transitions.Transition.{Transition}
use Rattle.word_walk.specs.Levels.{first_live, least_word}

-- the transition's letter, and then the first word of so many letters
abbrev pub word_by : Automaton → ℕ → Transition → List ℕ
word_by d m e = e.letter ∷ least_word d m e.target

-- the first accepted word of the same length that is letterwise after the word: one with the same first letter, or else one with a greater one
abbrev pub raised : Automaton → ℕ → List ℕ → Option (List ℕ)
raised d q [] = None
raised d q (a ∷ w) = option_or (option_map (λ v. a ∷ v) (option_and_then (λ p. raised d p w) (step_of d q a)))
    (option_map (word_by d (length w)) (first_live d (length w) (suc a) (transitions_of d q)))

-- the states to which the word's prefixes lead that are shorter than the word, as long as they lead to some
abbrev pub path_of : Automaton → ℕ → List ℕ → List ℕ
path_of d q [] = []
path_of d q (a ∷ w) = q ∷ option_map_or (λ p. path_of d p w) (step_of d q a) []
