use Rattle.std.proofs.Common.{◌≡◌, ◌+◌, length, sym, ap, ◌∙◌, subst}
use Rattle.std.proofs.lemmas.Result.{IfOk-from_err, IfOk-weaker}
use Rattle.digit_tuple.specs.Deterministic.{letters_of}
use Rattle.digit_tuple.specs.Letters.{product}
use Rattle.digit_tuple.specs.Width.{HasApart, HasWidth}
use Rattle.digit_tuple.proofs.WidthLemmas.{HasApart-same, HasWidth-same}
use Rattle.residual_classes.specs.ClassFunctions.{SameClassFunction}
use Rattle.class_reversal.specs.ReversedClasses.{SameReversedClassAfter}
use Rattle.class_reversal.proofs.FaultLemmas.{no_letters, no_states}
use Rattle.class_reversal.proofs.SameFunctions.{gives_reversed, reversed_same, same_reversed}
use Rattle.class_reversal.proofs.reversal.reverse_classes.Goals as goal

pub returns-clause-width : goal.returns-clause-width
returns-clause-width c =
    let d = c.args.d.now in
    let classes = c.args.classes.now in
    let e = c.in_ok-reached.reached in
    let ones = c.deref.result.now in
    let sizes = c.in_ok-reached.ensures.sizes in
    let same = subst (SameClassFunction d classes e) (sym c.deref.ensures.value) c.in_ok-reached.ensures.function in
    let letters : letters_of e ≡ letters_of d = ap product sizes in
    IfOk-weaker c.reverse_reached.result _ _
    (λ stepped width. HasWidth-same (SameReversedClassAfter e ones) (SameReversedClassAfter d classes) (letters_of d) stepped.width
    (λ w v over there. same_reversed d e classes ones sizes same w v over there) (λ w v over there. reversed_same d e classes ones sizes same w v over there)
    (subst (λ l. HasWidth (SameReversedClassAfter e ones) l stepped.width) letters width))
    c.reverse_reached.ensures.width

pub returns-clause-states : goal.returns-clause-states
returns-clause-states c refused =
    let d = c.args.d.now in
    let classes = c.args.classes.now in
    let e = c.in_ok-reached.reached in
    let ones = c.deref.result.now in
    let sizes = c.in_ok-reached.ensures.sizes in
    let same = subst (SameClassFunction d classes e) (sym c.deref.ensures.value) c.in_ok-reached.ensures.function in
    let letters : letters_of e ≡ letters_of d = ap product sizes in
    HasApart-same (SameReversedClassAfter e ones) (SameReversedClassAfter d classes) (letters_of d) (c.args.limit.most + 1)
    (λ w v over there. reversed_same d e classes ones sizes same w v over there)
    (subst (λ l. HasApart (SameReversedClassAfter e ones) l (c.args.limit.most + 1)) letters (c.reverse_reached.ensures.states refused))

pub returns-in_err-reached-clause-sizes : goal.returns-in_err-reached-clause-sizes
returns-in_err-reached-clause-sizes c = IfOk-from_err c.from_residual.result _ c.from_residual.ensures.0

pub returns-in_err-reached-clause-canonical : goal.returns-in_err-reached-clause-canonical
returns-in_err-reached-clause-canonical c = IfOk-from_err c.from_residual.result _ c.from_residual.ensures.0

pub returns-in_err-reached-clause-function : goal.returns-in_err-reached-clause-function
returns-in_err-reached-clause-function c = IfOk-from_err c.from_residual.result _ c.from_residual.ensures.0

pub returns-in_err-reached-clause-width : goal.returns-in_err-reached-clause-width
returns-in_err-reached-clause-width c = IfOk-from_err c.from_residual.result _ c.from_residual.ensures.0

pub returns-in_err-reached-clause-size : goal.returns-in_err-reached-clause-size
returns-in_err-reached-clause-size c = IfOk-from_err c.from_residual.result _ c.from_residual.ensures.0

pub returns-in_err-reached-clause-within : goal.returns-in_err-reached-clause-within
returns-in_err-reached-clause-within c = IfOk-from_err c.from_residual.result _ c.from_residual.ensures.0

pub returns-in_err-reached-clause-states : goal.returns-in_err-reached-clause-states
returns-in_err-reached-clause-states c refused = absurd (no_states c.from_residual.result c.from_residual.ensures.1 refused)

pub returns-in_err-reached-clause-letters : goal.returns-in_err-reached-clause-letters
returns-in_err-reached-clause-letters c refused = no_letters c.from_residual.result c.from_residual.ensures.1 refused

pub canonical_classes-requires : goal.canonical_classes-requires
canonical_classes-requires c = c.requires

pub reverse_reached-requires-clause-count : goal.reverse_reached-requires-clause-count
reverse_reached-requires-clause-count c = ap length c.deref.ensures.value ∙ c.in_ok-reached.ensures.canonical.count

pub reverse_reached-requires-clause-reached : goal.reverse_reached-requires-clause-reached
reverse_reached-requires-clause-reached c = (c.in_ok-reached.ensures.canonical.firsts, c.in_ok-reached.ensures.canonical.numbered)

pub returns-clause-sizes : goal.returns-clause-sizes
returns-clause-sizes c = IfOk-weaker c.reverse_reached.result _ _ (λ stepped sizes. sizes ∙ c.in_ok-reached.ensures.sizes) c.reverse_reached.ensures.sizes

pub returns-clause-canonical : goal.returns-clause-canonical
returns-clause-canonical c = c.reverse_reached.ensures.canonical

pub returns-clause-function : goal.returns-clause-function
returns-clause-function c =
    let d = c.args.d.now in
    let classes = c.args.classes.now in
    let e = c.in_ok-reached.reached in
    let ones = c.deref.result.now in
    let same = subst (SameClassFunction d classes e) (sym c.deref.ensures.value) c.in_ok-reached.ensures.function in
    IfOk-weaker c.reverse_reached.result _ _ (λ stepped gives. gives_reversed d e stepped.result.0 classes ones stepped.result.1.items c.in_ok-reached.ensures.sizes same gives) c.reverse_reached.ensures.function

pub returns-clause-size : goal.returns-clause-size
returns-clause-size c = c.reverse_reached.ensures.size

pub returns-clause-within : goal.returns-clause-within
returns-clause-within c = c.reverse_reached.ensures.within

pub returns-clause-letters : goal.returns-clause-letters
returns-clause-letters c = c.reverse_reached.ensures.letters
