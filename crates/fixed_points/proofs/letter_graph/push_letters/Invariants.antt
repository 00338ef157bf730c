use Rattle.std.proofs.Common.{◌≡◌, get_or, pos}
use Rattle.digit_tuple.proofs.LetterTransitions.{key_transitions_to}
use Rattle.fixed_points.specs.LetterGraph.{key_of}
use Rattle.fixed_points.proofs.letter_graph.push_letters.Given as goal

abbrev pub invariant-loop-digit : goal.invariant-loop-digit
invariant-loop-digit l = l.out ≡ key_transitions_to (λ digit. key_of (get_or l.word digit (pos 0))) 0 l.digit
