use Rattle.std.proofs.Common.{◌∙◌, ◌<◌, length, ap, sym, subst}
use Rattle.std.specs.List.{All, range_with_len}
use Rattle.digit_tuple.specs.Parts.{picked}
use Rattle.digit_tuple.proofs.PartLemmas.{picked-all}
use Rattle.digit_tuple.proofs.RangeLemmas.{All-range}
use Rattle.product_op.proofs.argument_readers.whole_reader.Goals as goal

pub reader_on-requires-clause-places : goal.reader_on-requires-clause-places
reader_on-requires-clause-places c =
    let sizes = c.alphabet-alphabet.result.now in
    let all = c.deref.ensures.value ∙ c.in_ok-places.ensures ∙ ap (range_with_len 0) c.tracks.ensures.value in
    subst (All (λ p. p < length sizes)) (sym all) (All-range (length sizes))

pub reader_on-requires-clause-sizes : goal.reader_on-requires-clause-sizes
reader_on-requires-clause-sizes c =
    let sizes = c.alphabet-alphabet.result.now in
    let all = c.deref.ensures.value ∙ c.in_ok-places.ensures ∙ ap (range_with_len 0) c.tracks.ensures.value in
    ap (λ ps. picked ps sizes) all ∙ picked-all sizes ∙ c.alphabet-alphabet.ensures.sizes
