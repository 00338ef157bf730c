use Rattle.std.proofs.Common.{◌≡◌, ◌∷◌, ◌++◌, ℕ, List, OnOk, [], get_or, sym, ap, ◌∙◌, subst, arith}
use Rattle.std.specs.List.{All}
use Rattle.std.proofs.lemmas.List.{take_all, map_more}
use Rattle.digit_tuple.specs.declared.transitions.Transition.{Transition}
use Rattle.digit_tuple.specs.Reversed.{transition_to}
use Rattle.residual_classes.specs.Classes.{class_of}
use Rattle.residual_classes.specs.Gathering.{HaveLetters, IsGathered, transitions_by_class}
use Rattle.residual_classes.proofs.gathering.states_by_class.Goals as goal

pub loop-state-preserved : goal.loop-state-preserved
loop-state-preserved c =
    let classes = c.args.classes.now in
    let state = get_or c.args.set.now c.loop-state.state-index 0 in
    c.in_ok-push.ensures.items ∙ ap (λ (es : List Transition). es ++ transition_to (class_of classes state) state ∷ []) c.loop-state.invariant ∙ sym (map_more (λ (q : ℕ). transition_to (class_of classes q) q) c.args.set.now c.loop-state.state-index 0 (omega arith))

pub returns-clause-gathered : goal.returns-clause-gathered
returns-clause-gathered c =
    let all : c.loop-state.transitions.items ≡ transitions_by_class c.args.classes.now c.args.set.now = c.loop-state.invariant ∙ ap (transitions_by_class c.args.classes.now) (take_all c.loop-state.state-index c.args.set.now (omega arith)) in
    subst (λ (es : List Transition). OnOk c.gather.result (All (λ part. IsGathered es part.letter part.key) c.gather.new.out)) all c.gather.ensures.gathered

pub returns-clause-letters : goal.returns-clause-letters
returns-clause-letters c =
    let all : c.loop-state.transitions.items ≡ transitions_by_class c.args.classes.now c.args.set.now = c.loop-state.invariant ∙ ap (transitions_by_class c.args.classes.now) (take_all c.loop-state.state-index c.args.set.now (omega arith)) in
    subst (λ (es : List Transition). OnOk c.gather.result (HaveLetters c.gather.new.out es)) all c.gather.ensures.letters
