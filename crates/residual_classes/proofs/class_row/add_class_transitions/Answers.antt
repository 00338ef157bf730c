use Rattle.std.proofs.Common.{◌∷◌, ◌++◌, [], List, take, get_or, ap, ◌∙◌, append_assoc, arith}
use Rattle.digit_tuple.specs.declared.transitions.Transition.{Transition}
use Rattle.residual_classes.specs.ClassTransitions.{class_transitions}
use Rattle.residual_classes.proofs.ClassTransitionLemmas.{class_transition, class_transitions-dead, class_transitions-live}
use Rattle.residual_classes.proofs.class_row.add_class_transitions.Goals as goal
use Rattle.residual_classes.proofs.class_row.add_class_transitions.Goals.{then-class-dead+in_ok-push, else-class-dead}

pub loop-transition-preserved : goal.loop-transition-preserved
loop-transition-preserved c =
    let classes = c.args.classes.now in
    let dead = c.args.dead in
    let es = c.args.transitions.now in
    let k = c.loop-transition.transition-index in
    let old = c.args.row.now.items in
    let z : Transition = record { letter = 0; target = 0 } in
    let e : Transition = class_transition classes (get_or es k z) in
    elim c.if-class-dead.branch [
      | then-class-dead+in_ok-push w ↦ ap (λ (v : _). v.items) w.row-is ∙ w.in_ok-push.ensures.items ∙ ap (λ (xs : List Transition). xs ++ e ∷ []) c.loop-transition.invariant
          ∙ append_assoc old (class_transitions classes dead (take k es)) (e ∷ []) ∙ ap (λ (xs : List Transition). old ++ xs) (class_transitions-live classes dead es k z (omega arith) w.if-class-dead.true)
      | else-class-dead w ↦ ap (λ (v : _). v.items) w.row-is ∙ c.loop-transition.invariant ∙ ap (λ (xs : List Transition). old ++ xs) (class_transitions-dead classes dead es k z (omega arith) w.if-class-dead.false)
    ]
