use Rattle.std.proofs.Common.{◌≡◌, ◌++◌, List, ap, ◌∙◌, sym, subst, map}
use Rattle.std.proofs.lemmas.Result.{on_ok_weaker}
use Rattle.digit_tuple.specs.declared.transitions.Transition.{Transition}
use Rattle.digit_tuple.specs.Deterministic.{letters_of, transitions_of}
use Rattle.digit_tuple.specs.Keys.{KeyTransition, AreKeyTransitions}
use Rattle.residual_classes.specs.Classes.{class_of}
use Rattle.residual_classes.specs.ClassTransitions.{class_transitions}
use Rattle.minimise.specs.Quotient.{next_class, leader_of, key_transition}
use Rattle.minimise.proofs.QuotientLemmas.{AreKeyTransitions-class}
use Rattle.minimise.proofs.quotient.QuotientKeyGraph.transitions.Goals as goal

pub returns : goal.returns
returns c =
    let d = c.args.self.now.dfa.now in
    let classes = c.args.self.now.classes.now in
    let leaders = c.args.self.now.leaders.now in
    let key = c.args.key.now in
    let row : c.deref.result.now ≡ transitions_of d (leader_of leaders key) = c.deref.ensures.value ∙ c.in_ok-transitions_into.ensures.transitions in
    on_ok_weaker c.add_key_transitions.result
    (λ are. subst (λ (ks : List KeyTransition). AreKeyTransitions (letters_of d) (next_class d classes leaders key) ks)
    (sym (are ∙ ap (λ (ks : List KeyTransition). ks ++ map key_transition (class_transitions classes (class_of classes c.states.result) c.deref.result.now)) c.requires.empty
    ∙ ap (λ (es : List Transition). map key_transition (class_transitions classes (class_of classes c.states.result) es)) row
    ∙ ap (λ n. map key_transition (class_transitions classes (class_of classes n) (transitions_of d (leader_of leaders key)))) c.states.ensures.value))
    (AreKeyTransitions-class d classes leaders key c.requires.graph.table))
    c.add_key_transitions.ensures
