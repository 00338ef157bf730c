use Rattle.std.proofs.Common.{◌≡◌, sym, ap, ◌∙◌, subst}
use Rattle.digit_tuple.specs.Keys.{LeadAlike}
use Rattle.digit_tuple.specs.Letters.{product, IsWord}
use Rattle.digit_tuple.specs.Deterministic.{letters_of}
use Rattle.digit_tuple.specs.Width.{HasWidth}
use Rattle.determinise.specs.Subsets.{set_after, has_accepting}
use Rattle.minimise.proofs.KeySizes.{states_within_width}
use Rattle.lang_ops.proofs.canonical_sets.canonical_sets.Goals as goal

pub returns-clause-size : goal.returns-clause-size
returns-clause-size c =
    let n = c.args.table in
    let first = c.args.first.now in
    let d = c.in_ok-result.result in
    let e = c.in_ok-explored.explored.result in
    let same : letters_of d ≡ letters_of e = ap product c.in_ok-result.ensures.sizes in
    let letters : letters_of e ≡ product c.args.alphabet = ap product c.in_ok-explored.ensures.sizes in
    states_within_width (set_after n) (has_accepting n) first d c.in_ok-result.ensures.canonical
    (λ w over. let there = subst (λ l. IsWord l w) same over in sym (c.in_ok-result.ensures.language w there) ∙ c.in_ok-explored.ensures.language w (subst (λ l. IsWord l w) letters there))
    c.in_ok-explored.explored.width (subst (λ l. HasWidth (LeadAlike (set_after n) first) l c.in_ok-explored.explored.width) (sym (same ∙ letters)) c.in_ok-explored.ensures.width)
