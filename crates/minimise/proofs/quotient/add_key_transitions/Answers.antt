use Rattle.std.proofs.Common.{◌∙◌, arith}
use Rattle.digit_tuple.specs.declared.transitions.Transition.{Transition}
use Rattle.minimise.proofs.QuotientLemmas.{key_transitions-dead, key_transitions-live}
use Rattle.minimise.proofs.quotient.add_key_transitions.Goals as goal
use Rattle.minimise.proofs.quotient.add_key_transitions.Goals.{then-class-dead+in_ok-push, else-class-dead}

pub loop-transition-preserved : goal.loop-transition-preserved
loop-transition-preserved c =
    let classes = c.args.classes.now in
    let es = c.args.transitions.now in
    let z : Transition = record { letter = 0; target = 0 } in
    elim c.if-class-dead.branch [
      | then-class-dead+in_ok-push w ↦ w.out-is ∙ key_transitions-live classes c.args.dead es c.loop-transition.transition-index z (omega arith) c.args.out.now c.loop-transition.out c.loop-transition.invariant w.push.new.self w.in_ok-push.ensures.ok w.if-class-dead.true
      | else-class-dead w ↦ w.out-is ∙ key_transitions-dead classes c.args.dead es c.loop-transition.transition-index z (omega arith) c.args.out.now c.loop-transition.out c.loop-transition.invariant w.if-class-dead.false
    ]
