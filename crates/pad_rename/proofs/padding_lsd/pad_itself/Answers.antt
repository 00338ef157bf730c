use Rattle.std.proofs.Common.{◌≡◌, ◌≢◌, ◌+◌, Result, Err, sym, ap, ◌∙◌, subst, arith}
use Rattle.std.specs.Result.{IsErrOf}
use Rattle.std.proofs.lemmas.Result.{err_from_is_err_and}
use Rattle.digit_tuple.specs.declared.dfa.Dfa.{Dfa}
use Rattle.digit_tuple.specs.declared.faults.OpFault.{OpFault}
use Rattle.digit_tuple.specs.declared.faults.OpFault.TheVariants.{States}
use Rattle.digit_tuple.specs.declared.stepped.Stepped.{Stepped}
use Rattle.digit_tuple.specs.Deterministic.{Automaton, accepts_of, letters_of, states_of}
use Rattle.digit_tuple.specs.Keys.{LeadAlike}
use Rattle.digit_tuple.specs.Letters.{product}
use Rattle.digit_tuple.specs.Width.{HasApart, HasWidth}
use Rattle.digit_tuple.proofs.WidthLemmas.{HasApart-same, HasWidth-same}
use Rattle.residual_classes.specs.Classes.{first_of}
use Rattle.pad_rename.specs.Padding.{LsdPaddedAlike}
use Rattle.pad_rename.specs.PaddedPairs.{pair_after, twice}
use Rattle.pad_rename.proofs.NoWordLemmas.{dead_from_sink}
use Rattle.pad_rename.proofs.PaddedPairLemmas.{accepts-padded, alike_from_pairs, pairs_from_alike, states_within}
use Rattle.pad_rename.proofs.padding_lsd.pad_itself.Goals as goal

pub returns-clause-language : goal.returns-clause-language
returns-clause-language c w over =
    let d = c.args.a.now in
    let same : accepts_of c.in_ok-result.result w ≡ accepts_of d w = ap (λ (e : Automaton). accepts_of e w) c.in_ok-result.ensures in
    let iff = accepts-padded d c.requires.canonical c.requires.closed w over in
    ((λ is. iff.0 (sym same ∙ is)), (λ padded. same ∙ iff.1 padded))

pub returns-clause-width : goal.returns-clause-width
returns-clause-width c =
    let d = c.args.a.now in
    let live : first_of d ≢ states_of d = λ sink. c.requires.live (dead_from_sink d sink) in
    let letters : c.letters.result ≡ letters_of d = c.letters.ensures.value ∙ ap product c.requires.alphabet in
    let width = c.in_ok-explored.explored.width in
    HasWidth-same (LeadAlike (pair_after d) (twice (first_of d))) (LsdPaddedAlike d) (letters_of d) width
    (λ w v over there same. alike_from_pairs d c.requires.canonical live w v same) (pairs_from_alike d c.requires.canonical live)
    (subst (λ n. HasWidth (LeadAlike (pair_after d) (twice (first_of d))) n width) letters c.in_ok-explored.ensures.width)

pub returns-clause-size : goal.returns-clause-size
returns-clause-size c =
    let d = c.args.a.now in
    let live : first_of d ≢ states_of d = λ sink. c.requires.live (dead_from_sink d sink) in
    let letters : c.letters.result ≡ letters_of d = c.letters.ensures.value ∙ ap product c.requires.alphabet in
    let width = c.in_ok-explored.explored.width in
    let has = HasWidth-same (LeadAlike (pair_after d) (twice (first_of d))) (LsdPaddedAlike d) (letters_of d) width
    (λ w v over there same. alike_from_pairs d c.requires.canonical live w v same) (pairs_from_alike d c.requires.canonical live)
    (subst (λ n. HasWidth (LeadAlike (pair_after d) (twice (first_of d))) n width) letters c.in_ok-explored.ensures.width) in
    omega (arith, states_within d c.requires.canonical c.requires.closed width has, ap states_of c.in_ok-result.ensures)

pub returns-in_err-explored-clause-states : goal.returns-in_err-explored-clause-states
returns-in_err-explored-clause-states c refused =
    let d = c.args.a.now in
    let live : first_of d ≢ states_of d = λ sink. c.requires.live (dead_from_sink d sink) in
    let letters : c.letters.result ≡ letters_of d = c.letters.ensures.value ∙ ap product c.requires.alphabet in
    let out = err_from_is_err_and c.from_residual.result c.from_residual.ensures.1 in
    let same : c.from_residual.result ≡ Err c.in_err-explored.field-0.0 = out.1 ∙ ap Err out.2 in
    let fault : IsErrOf c.explore.result States = subst (λ (r : Result (Stepped Dfa) OpFault). IsErrOf r States) (sym c.in_err-explored.was) (subst (λ (r : Result (Stepped Dfa) OpFault). IsErrOf r States) same refused) in
    HasApart-same (LeadAlike (pair_after d) (twice (first_of d))) (LsdPaddedAlike d) (letters_of d) (c.args.limit.most + 1) (pairs_from_alike d c.requires.canonical live)
    (subst (λ n. HasApart (LeadAlike (pair_after d) (twice (first_of d))) n (c.args.limit.most + 1)) letters (c.explore.ensures.states fault))
