use Rattle.std.proofs.Common.{ℕ, ◌∷◌, ◌++◌, [], List, map, take, get_or, sym, ap, ◌∙◌, append_assoc, arith}
use Rattle.std.proofs.lemmas.List.{map_more, take_all}
use Rattle.digit_tuple.specs.declared.transitions.Transition.{Transition}
use Rattle.residual_classes.proofs.flat_transitions.add_targets.Goals as goal

pub loop-transition-preserved : goal.loop-transition-preserved
loop-transition-preserved c =
    let es = c.args.transitions.now in
    let k = c.loop-transition.transition-index in
    let old = c.args.targets.now.items in
    let none : Transition = record { letter = 0; target = 0 } in
    let last = (get_or es k none).target in
    c.in_ok-push.ensures.items ∙ ap (λ (xs : List ℕ). xs ++ last ∷ []) c.loop-transition.invariant
    ∙ append_assoc old (map (λ (e : Transition). e.target) (take k es)) (last ∷ [])
    ∙ ap (λ (xs : List ℕ). old ++ xs) (sym (map_more (λ (e : Transition). e.target) es k none (omega (arith, c.loop-transition-test.true))))

pub returns : goal.returns
returns c =
    let es = c.args.transitions.now in
    c.loop-transition.invariant ∙ ap (λ (xs : List Transition). c.args.targets.now.items ++ map (λ (e : Transition). e.target) xs) (take_all c.loop-transition.transition-index es (omega (arith, c.loop-transition-test.false)))
