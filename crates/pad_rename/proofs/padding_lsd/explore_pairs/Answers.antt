use Rattle.std.proofs.Common.{◌≡◌, ◌≢◌, ◌+◌, Bool, List, sym, ap, ◌∙◌, subst}
use Rattle.std.proofs.lemmas.Result.{IfOk-weaker}
use Rattle.digit_tuple.specs.Deterministic.{letters_of, states_of}
use Rattle.digit_tuple.specs.Keys.{LeadAlike}
use Rattle.digit_tuple.specs.Letters.{product, IsWord}
use Rattle.digit_tuple.specs.Width.{HasApart, HasWidth}
use Rattle.digit_tuple.proofs.WidthLemmas.{HasApart-same, HasWidth-same}
use Rattle.residual_classes.specs.Classes.{first_of}
use Rattle.pad_rename.specs.Padding.{LsdPaddedAlike}
use Rattle.pad_rename.specs.PaddedPairs.{AreFinal, pair_after, twice}
use Rattle.pad_rename.proofs.NoWordLemmas.{dead_from_sink}
use Rattle.pad_rename.proofs.PaddedPairLemmas.{pairs_accept, alike_from_pairs, pairs_from_alike}
use Rattle.pad_rename.proofs.padding_lsd.explore_pairs.Goals as goal

pub returns-clause-language : goal.returns-clause-language
returns-clause-language c =
    let d = c.args.a.now in
    let live : first_of d ≢ states_of d = λ sink. c.requires.live (dead_from_sink d sink) in
    let letters : letters_of d ≡ product c.args.alphabet = ap product (sym c.requires.alphabet) in
    let final : AreFinal d c.deref.result.now = subst (λ (flags : List Bool). AreFinal d flags) (sym c.deref.ensures.value) c.in_ok-flags.ensures.final in
    IfOk-weaker c.explore_canonical.result _ _
    (λ stepped same w over. let is = same w (subst (λ n. IsWord n w) letters over) in
    let iff = pairs_accept d c.requires.canonical live c.deref.result.now final w in
    ((λ yes. iff.0 (sym is ∙ yes)), (λ padded. is ∙ iff.1 padded)))
    c.explore_canonical.ensures.language

pub returns-clause-width : goal.returns-clause-width
returns-clause-width c =
    let d = c.args.a.now in
    let live : first_of d ≢ states_of d = λ sink. c.requires.live (dead_from_sink d sink) in
    let letters : product c.args.alphabet ≡ letters_of d = ap product c.requires.alphabet in
    IfOk-weaker c.explore_canonical.result _ _
    (λ stepped width. HasWidth-same (LeadAlike (pair_after d) (twice (first_of d))) (LsdPaddedAlike d) (letters_of d) stepped.width
    (λ w v over there same. alike_from_pairs d c.requires.canonical live w v same) (pairs_from_alike d c.requires.canonical live)
    (subst (λ n. HasWidth (LeadAlike (pair_after d) (twice (first_of d))) n stepped.width) letters width))
    c.explore_canonical.ensures.width

pub returns-clause-states : goal.returns-clause-states
returns-clause-states c refused =
    let d = c.args.a.now in
    let live : first_of d ≢ states_of d = λ sink. c.requires.live (dead_from_sink d sink) in
    let letters : product c.args.alphabet ≡ letters_of d = ap product c.requires.alphabet in
    HasApart-same (LeadAlike (pair_after d) (twice (first_of d))) (LsdPaddedAlike d) (letters_of d) (c.args.limit.most + 1) (pairs_from_alike d c.requires.canonical live)
    (subst (λ n. HasApart (LeadAlike (pair_after d) (twice (first_of d))) n (c.args.limit.most + 1)) letters (c.explore_canonical.ensures.states refused))
