use Rattle.std.proofs.Common.{◌+◌, List, Some, refl, sym, subst, arith}
use Rattle.digit_tuple.specs.declared.transitions.Transition.{Transition}
use Rattle.digit_tuple.specs.TransitionsBy.{AreTransitionsBy}
use Rattle.digit_tuple.proofs.TransitionsByLemmas.{transitions_more}
use Rattle.base_k.proofs.automata.transitions_home.Goals as goal

pub loop-letter-preserved : goal.loop-letter-preserved
loop-letter-preserved c =
    let letter = c.loop-letter.letter in
    let transition : Transition = record { letter = letter; target = 0 } in
    subst (λ (transitions : List Transition). AreTransitionsBy (λ _. Some 0) (letter + 1) 1 transitions) (sym c.in_ok-push.ensures.items)
    (transitions_more (λ _. Some 0) letter 1 0 c.loop-letter.transitions.items transition c.loop-letter.invariant refl refl (omega arith) refl)
