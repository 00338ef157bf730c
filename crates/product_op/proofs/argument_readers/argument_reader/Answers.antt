use Rattle.std.proofs.Common.{◌∙◌, ◌<◌, length, ap, sym, subst}
use Rattle.std.specs.List.{All}
use Rattle.digit_tuple.specs.Names.{places_of}
use Rattle.digit_tuple.proofs.NameLemmas.{places_of-within}
use Rattle.product_op.proofs.argument_readers.argument_reader.Goals as goal

pub reader_on-requires-clause-places : goal.reader_on-requires-clause-places
reader_on-requires-clause-places c =
    let names = c.args.names.now in
    let some = c.args.argument.now.names in
    let all = c.deref.ensures.value ∙ c.in_ok-places.ensures ∙ ap (places_of names) c.names.ensures.value in
    let within = subst (λ n. All (λ p. p < n) (places_of names some)) c.requires.count (places_of-within names some c.requires.there) in
    subst (All (λ p. p < length c.args.alphabet.now)) (sym all) within
