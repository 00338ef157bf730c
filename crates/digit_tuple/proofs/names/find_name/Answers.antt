use Rattle.std.proofs.Common.{sym, ◌∙◌, []}
use Rattle.std.proofs.lemmas.List.{get_or_read}
use Rattle.std.proofs.lemmas.Slice.Eq.{bytes_eq-Decides}
use Rattle.digit_tuple.proofs.NameLemmas.{place_of-first}
use Rattle.digit_tuple.proofs.names.find_name.Goals as goal

pub returns-then-eq-clause-place : goal.returns-then-eq-clause-place
returns-then-eq-clause-place c =
    let place = c.loop-place.place in
    let names = c.args.names.now in
    let read = get_or_read names place c.index-names-place.result c.loop-place-test.true c.index-names-place.is [] in
    let bytes = (bytes_eq-Decides c.as_bytes.result.now c.as_bytes-in-loop-place.result.now).0 (sym c.eq.ensures ∙ c.if-eq.true) in
    sym (place_of-first names c.args.name.now place c.loop-place-test.true (sym read ∙ sym c.as_bytes.ensures ∙ bytes ∙ c.as_bytes-in-loop-place.ensures) c.loop-place.invariant)
