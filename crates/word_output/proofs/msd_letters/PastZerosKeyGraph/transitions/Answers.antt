use Rattle.std.proofs.Common.{◌≡◌, ◌++◌, ◌∷◌, [], ℕ, List, drop, filter, get_or, sym, ap, ◌∙◌, subst, arith}
use Rattle.std.proofs.lemmas.List.{nil_from_length}
use Rattle.std.proofs.lemmas.Result.{on_ok_weaker}
use Rattle.digit_tuple.specs.Deterministic.{transitions_of}
use Rattle.digit_tuple.specs.Keys.{AreKeyTransitions, KeyTransition}
use Rattle.digit_tuple.specs.declared.transitions.Transition.{Transition}
use Rattle.word_output.specs.PastZeros.{transition_by_zero, transitions_from, is_by_other, past_after, past_transitions}
use Rattle.word_output.proofs.MsdLetterLemmas.{AreKeyTransitions-past, cons_from_length}
use Rattle.word_output.proofs.msd_letters.PastZerosKeyGraph.transitions.Goals as goal

pub returns-in-empty : goal.returns-in-empty
returns-in-empty c =
    let d = c.args.self.now.dfa.now in
    let letters = c.args.self.now.letters in
    let none : c.args.key.now ≡ [] = nil_from_length c.args.key.now (omega (arith, c.in-empty.len_below)) in
    on_ok_weaker c.push_others.result
    (λ are. subst (λ (es : List KeyTransition). AreKeyTransitions letters (past_after d c.args.key.now) es)
    (sym (are ∙ ap (λ (es : List KeyTransition). es ++ transitions_from (filter is_by_other c.deref.result.now)) (c.in_ok-push_zero-in-empty.ensures ∙ ap (λ (es : List KeyTransition). es ++ transition_by_zero letters) c.requires.empty)
    ∙ ap (λ (es : List Transition). transition_by_zero letters ++ transitions_from (filter is_by_other es)) (c.deref.ensures.value ∙ c.in_ok-transitions_into-in-empty.ensures.transitions)))
    (subst (λ (k : List ℕ). AreKeyTransitions letters (past_after d k) (past_transitions d letters [])) (sym none) (AreKeyTransitions-past d c.requires.graph.0 letters [] c.requires.graph.1)))
    c.push_others.ensures

pub returns : goal.returns
returns c =
    let d = c.args.self.now.dfa.now in
    let letters = c.args.self.now.letters in
    let q = get_or c.args.key.now 0 0 in
    let some : c.args.key.now ≡ q ∷ drop 1 c.args.key.now = cons_from_length c.args.key.now (omega (arith, c.in-len1-up.len_at_least)) in
    on_ok_weaker c.push_all.result
    (λ are. subst (λ (es : List KeyTransition). AreKeyTransitions letters (past_after d c.args.key.now) es)
    (sym (are ∙ ap (λ (es : List KeyTransition). es ++ transitions_from c.deref-in-len1-up.result.now) c.requires.empty
    ∙ ap transitions_from (c.deref-in-len1-up.ensures.value ∙ c.in_ok-transitions_into-in-len1-up.ensures.transitions)))
    (subst (λ (k : List ℕ). AreKeyTransitions letters (past_after d k) (transitions_from (transitions_of d q))) (sym some) (AreKeyTransitions-past d c.requires.graph.0 letters (q ∷ drop 1 c.args.key.now) c.requires.graph.1)))
    c.push_all.ensures
