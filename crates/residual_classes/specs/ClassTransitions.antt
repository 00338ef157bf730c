-- The transitions of states between classes.
use Rattle.std.specs.Prelude.{◌==◌, ℕ, List, [], ◌∷◌, if◌then◌else◌}
use Rattle.digit_tuple.specs.declared.transitions.Transition.{Transition}
use Rattle.residual_classes.specs.Classes.{class_of}

-- the transitions with classes for targets, but those to the dead class left out
abbrev pub class_transitions : List ℕ → ℕ → List Transition → List Transition
class_transitions classes dead [] = []
class_transitions classes dead (transition ∷ transitions) =
    if class_of classes transition.target == dead then class_transitions classes dead transitions else (record { letter = transition.letter; target = class_of classes transition.target }) ∷ class_transitions classes dead transitions
