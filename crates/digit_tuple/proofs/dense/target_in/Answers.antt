use Rattle.std.proofs.Common.{sym, ap, ◌∙◌, arith}
use Rattle.std.proofs.lemmas.List.{get_or_default}
use Rattle.digit_tuple.specs.declared.transitions.Transition.{Transition}
use Rattle.digit_tuple.proofs.DfaLemmas.{target_by-at, target_by-gap}
use Rattle.digit_tuple.proofs.dense.target_in.Goals as goal
use Rattle.digit_tuple.proofs.dense.target_in.Goals.{else-place-transitions-via-then-place-transitions+else-transitions-place, else-place-transitions-via-else-place-transitions}

pub returns-then-transitions-place : goal.returns-then-transitions-place
returns-then-transitions-place c = sym (target_by-at c.args.transitions.now c.args.letter c.place_in-place.result _ c.place_in-place.ensures.before c.if-place-transitions.true c.if-transitions-place.true)

pub returns-else-place-transitions : goal.returns-else-place-transitions
returns-else-place-transitions c = sym (target_by-gap c.args.transitions.now c.args.letter c.place_in-place.result c.requires c.place_in-place.ensures.before c.place_in-place.ensures.after
    (λ within d same. elim c.else-place-transitions.branch [
      | else-place-transitions-via-then-place-transitions+else-transitions-place w ↦ w.if-transitions-place.false (ap (λ (e : Transition). e.letter) (get_or_default c.args.transitions.now c.place_in-place.result _ d within) ∙ same)
      | else-place-transitions-via-else-place-transitions w ↦ absurd (omega arith)
    ]))
