use Rattle.std.proofs.Common.{◌≡◌, ℕ, ◌+◌, ◌-◌, ◌<◌, List, [], ◌∷◌, ◌++◌, length, get_or, take, sym, ap, ◌∙◌, arith}
use Rattle.std.proofs.lemmas.List.{get_or_default, take_all, take_more}
use Rattle.digit_tuple.specs.declared.transitions.Transition.{Transition}
use Rattle.digit_tuple.specs.Deterministic.{transitions_of}
use Rattle.residual_classes.specs.Classes.{class_of}
use Rattle.residual_classes.specs.TransitionLetters.{listed}
use Rattle.residual_classes.specs.FlatTransitions.{flat_transition}
use Rattle.residual_classes.proofs.flat_transitions.FlatTransitions.transitions_into.Goals as goal

pub loop-place-preserved : goal.loop-place-preserved
loop-place-preserved c d flat less =
    let letters = listed c.args.self.now.letters in
    let starts = c.args.self.now.starts.items in
    let targets = c.args.self.now.targets.items in
    let state = c.args.state in
    let start = c.index.result.now in
    let place = c.loop-place.place in
    let k = place - start in
    let es = transitions_of d state in
    let z : Transition = record { letter = 0; target = 0 } in
    let letter = c.letter.result in
    let target = c.index-in-loop-place.result.now in
    let first : start ≡ class_of starts state = c.index.ensures ∙ get_or_default starts state start 0 (omega (arith, less, flat.width)) in
    let end : c.index-2.result.now ≡ class_of starts (state + 1) = c.index-2.ensures ∙ get_or_default starts (state + 1) c.index-2.result.now 0 (omega (arith, less, flat.width)) in
    let back : start + k ≡ place = omega (arith, c.loop-place.auto.place) in
    let inside : k < length es = omega (arith, c.loop-place.auto.place, c.loop-place-test.true, first, end, flat.ends state less) in
    let within : place < length targets = omega (arith, c.loop-place-test.true, end, flat.within (state + 1) (omega (arith, less))) in
    let read : target ≡ class_of targets place = c.index-in-loop-place.ensures ∙ get_or_default targets place target 0 within in
    let is : get_or es k z ≡ record { letter = letter; target = target } =
    flat.transitions state k z less inside ∙ ap (λ (n : ℕ). flat_transition letters targets n (n + k)) (sym first) ∙ ap (flat_transition letters targets start) back
    ∙ ap (λ (x : ℕ). let e : Transition = record { letter = x; target = class_of targets place } in e) (sym c.letter.ensures)
    ∙ ap (λ (x : ℕ). let e : Transition = record { letter = letter; target = x } in e) (sym read) in
    c.in_ok-push.ensures.items ∙ ap (λ (xs : List Transition). xs ++ record { letter = letter; target = target } ∷ []) (c.loop-place.invariant d flat less)
    ∙ ap (λ (x : Transition). take k es ++ x ∷ []) (sym is) ∙ sym (take_more es k z inside) ∙ ap (λ (n : ℕ). take n es) (omega (arith, c.loop-place.auto.place))

pub returns : goal.returns
returns c d flat less =
    let starts = c.args.self.now.starts.items in
    let state = c.args.state in
    let start = c.index.result.now in
    let end = c.index-2.result.now in
    let es = transitions_of d state in
    let first : start ≡ class_of starts state = c.index.ensures ∙ get_or_default starts state start 0 (omega (arith, less, flat.width)) in
    let last : end ≡ class_of starts (state + 1) = c.index-2.ensures ∙ get_or_default starts (state + 1) end 0 (omega (arith, less, flat.width)) in
    c.loop-place.invariant d flat less
    ∙ take_all (c.loop-place.place - start) es (omega (arith, c.loop-place.auto.place, c.loop-place-test.false, first, last, flat.ends state less))
