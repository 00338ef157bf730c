use Rattle.std.proofs.Common.{◌≡◌, ◌++◌, ℕ, List, ap, ◌∙◌, sym, subst, get_or}
use Rattle.std.proofs.lemmas.Result.{on_ok_weaker}
use Rattle.digit_tuple.specs.declared.transitions.Transition.{Transition}
use Rattle.digit_tuple.specs.Deterministic.{letters_of, transitions_of}
use Rattle.digit_tuple.specs.Keys.{KeyTransition, AreKeyTransitions}
use Rattle.word_walk.specs.ListedKeys.{key_after, key_transitions, state_in}
use Rattle.word_walk.proofs.ListedKeyLemmas.{AreKeyTransitions-key}
use Rattle.word_walk.proofs.listed_words.ListedWordsKeyGraph.transitions.Goals as goal

pub returns : goal.returns
returns c =
    let d = c.args.self.now.dfa.now in
    let skip = c.args.self.now.skip in
    let key = c.args.key.now in
    let mark : ℕ = get_or key 1 0 in
    let row : c.deref.result.now ≡ transitions_of d (state_in key) = c.deref.ensures.value ∙ c.in_ok-transitions_into.ensures.transitions in
    on_ok_weaker c.push_transitions.result
    (λ are. subst (λ (ks : List KeyTransition). AreKeyTransitions (letters_of d) (key_after d skip key) ks)
    (sym (are ∙ ap (λ (ks : List KeyTransition). ks ++ key_transitions skip mark c.deref.result.now) c.requires.empty
    ∙ ap (λ (es : List Transition). key_transitions skip mark es) row))
    (AreKeyTransitions-key skip d key c.requires.graph))
    c.push_transitions.ensures
