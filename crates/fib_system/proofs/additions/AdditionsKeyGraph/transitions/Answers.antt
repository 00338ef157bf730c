use Rattle.std.proofs.Common.{◌+◌, List, sym, ◌∙◌, subst}
use Rattle.digit_tuple.specs.Keys.{KeyTransition, AreKeyTransitions}
use Rattle.fib_system.specs.Additions.{key_after}
use Rattle.fib_system.proofs.KeyTransitionsBy.{key_transitions_more, key_transitions_stay}
use Rattle.fib_system.proofs.additions.AdditionsKeyGraph.transitions.Goals as goal
use Rattle.fib_system.proofs.additions.AdditionsKeyGraph.transitions.Goals.{in-Some+in_ok-push, in_default}

pub loop-letter-preserved : goal.loop-letter-preserved
loop-letter-preserved c =
    let letter = c.loop-letter.letter in
    let after = key_after c.args.key.now in
    let are_more = λ (es : List KeyTransition). AreKeyTransitions (letter + 1) after es in
    elim c.match-next_key.branch [
      | in-Some+in_ok-push w ↦ subst are_more (sym (w.out-is ∙ w.in_ok-push.ensures.ok)) (key_transitions_more after letter w.in-Some.next c.loop-letter.out c.loop-letter.invariant (sym w.in-Some.ensures))
      | in_default w ↦ subst are_more (sym w.out-is) (key_transitions_stay after letter c.loop-letter.out c.loop-letter.invariant (sym w.in_default.ensures))
    ]
