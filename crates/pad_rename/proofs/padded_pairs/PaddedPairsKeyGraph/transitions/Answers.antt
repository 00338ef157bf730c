use Rattle.std.proofs.Common.{◌++◌, List, sym, ap, ◌∙◌, subst}
use Rattle.std.proofs.lemmas.Result.{on_ok_weaker}
use Rattle.digit_tuple.specs.Keys.{KeyTransition, AreKeyTransitions}
use Rattle.pad_rename.specs.PaddedPairs.{transitions_by_others, transitions_by_zero, pair_after}
use Rattle.pad_rename.proofs.PairTransitions.{AreKeyTransitions-pair}
use Rattle.pad_rename.proofs.padded_pairs.PaddedPairsKeyGraph.transitions.Goals as goal

pub returns : goal.returns
returns c =
    let d = c.args.self.now.dfa.now in
    let letters = c.args.self.now.letters in
    let key = c.args.key.now in
    on_ok_weaker c.push_by_others.result
    (λ are. subst (λ (es : List KeyTransition). AreKeyTransitions letters (pair_after d key) es)
    (sym (are ∙ ap (λ (es : List KeyTransition). es ++ transitions_by_others c.deref.result.now) (c.in_ok-push_by_zero.ensures ∙ ap (λ (es : List KeyTransition). es ++ transitions_by_zero d letters key) c.requires.empty)
    ∙ ap (λ es. transitions_by_zero d letters key ++ transitions_by_others es) (c.deref.ensures.value ∙ c.in_ok-row.ensures)))
    (AreKeyTransitions-pair d c.requires.graph.0 key letters c.requires.graph.1))
    c.push_by_others.ensures
