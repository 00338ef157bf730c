use Rattle.std.proofs.Common.{◌++◌, List, [], filter, sym, ap, ◌∙◌, subst}
use Rattle.std.proofs.lemmas.Result.{on_ok_weaker}
use Rattle.digit_tuple.specs.Automaton as branching
use Rattle.digit_tuple.specs.Keys.{KeyTransition, AreKeyTransitions}
use Rattle.digit_tuple.specs.Letters.{product}
use Rattle.pad_rename.specs.PaddedSets.{transitions_by_zero, is_by_other, padded_after}
use Rattle.pad_rename.proofs.ZeroTransitions.{AreKeyTransitions-first}
use Rattle.pad_rename.proofs.padding_msd.first_transitions.Goals as goal

pub returns : goal.returns
returns c =
    let n = c.args.nfa.now in
    let first = c.args.first.now in
    let letters = branching.letters_of n in
    let others = c.set_transitions.new.out in
    let count = c.letters.ensures.value ∙ ap product c.alphabet.ensures.sizes in
    on_ok_weaker c.push_by_others.result
    (λ are. subst (λ (es : List KeyTransition). AreKeyTransitions letters (padded_after n first []) es)
    (sym (are ∙ ap (λ (es : List KeyTransition). es ++ filter is_by_other others)
    (c.in_ok-push_by_zero.ensures ∙ ap (λ (es : List KeyTransition). es ++ transitions_by_zero c.letters.result) c.requires.empty ∙ ap transitions_by_zero count)))
    (AreKeyTransitions-first n first letters others c.in_ok-set_transitions.ensures))
    c.push_by_others.ensures
