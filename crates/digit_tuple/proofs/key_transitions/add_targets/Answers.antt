use Rattle.std.proofs.Common.{ℕ, List, [], ◌∷◌, ◌++◌, map, take, get_or, sym, ap, ◌∙◌, append_assoc, arith}
use Rattle.std.proofs.lemmas.List.{map_more, take_all}
use Rattle.digit_tuple.specs.declared.transitions.Transition.{Transition}
use Rattle.digit_tuple.proofs.key_transitions.add_targets.Goals as goal

pub offset_bounds-transitions-transition-index : goal.offset_bounds-transitions-transition-index
offset_bounds-transitions-transition-index c = omega (arith, c.loop-transition-test.true)

pub loop-transition-preserved : goal.loop-transition-preserved
loop-transition-preserved c =
    let target = λ (transition : Transition). transition.target in
    let before = c.args.numbers.now.items in
    let transitions = c.args.transitions.now in
    let index = c.loop-transition.transition-index in
    let z : Transition = record { letter = 0; target = 0 } in
    c.in_ok-push.ensures.items ∙ ap (λ (xs : List ℕ). xs ++ (get_or transitions index z).target ∷ []) c.loop-transition.invariant ∙ append_assoc before (map target (take index transitions)) ((get_or transitions index z).target ∷ [])
    ∙ ap (λ (xs : List ℕ). before ++ xs) (sym (map_more target transitions index z c.loop-transition-test.true))

pub returns-clause-ok : goal.returns-clause-ok
returns-clause-ok c =
    c.loop-transition.invariant ∙ ap (λ (transitions : List Transition). c.args.numbers.now.items ++ map (λ (transition : Transition). transition.target) transitions) (take_all c.loop-transition.transition-index c.args.transitions.now c.loop-transition-test.false)

pub returns-clause-kept : goal.returns-clause-kept
returns-clause-kept c = (map (λ (transition : Transition). transition.target) (take c.loop-transition.transition-index c.args.transitions.now), c.loop-transition.invariant)
