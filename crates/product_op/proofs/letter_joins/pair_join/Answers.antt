use Rattle.std.proofs.Common.{◌≡◌, IfOk, IfSome, length, sym, ◌∙◌, subst, arith}
use Rattle.product_op.specs.LetterJoins.{IsJoin}
use Rattle.product_op.specs.Readings.{IsReading, Reading, no_reading, reading_at, reading_in, readings_in}
use Rattle.product_op.proofs.ReaderLemmas.{length-readings, reading_at-reader}
use Rattle.product_op.proofs.letter_joins.pair_join.Goals as goal

pub letter_join-requires-clause-first : goal.letter_join-requires-clause-first
letter_join-requires-clause-first c =
    let readers = c.args.readers.now in
    let two : length readers ≡ 2 = sym (length-readings readers) ∙ c.requires.pair.count in
    subst (IsReading c.args.letters) (reading_at-reader readers 0 c.index-readers-0.result (omega (arith, two)) c.index-readers-0.is) (c.requires.pair.readings_are 0 no_reading (omega (arith, c.requires.pair.count)))

pub letter_join-requires-clause-second : goal.letter_join-requires-clause-second
letter_join-requires-clause-second c =
    let readers = c.args.readers.now in
    let two : length readers ≡ 2 = sym (length-readings readers) ∙ c.requires.pair.count in
    subst (IsReading c.args.letters) (reading_at-reader readers 1 c.index-readers-1.result (omega (arith, two)) c.index-readers-1.is) (c.requires.pair.readings_are 1 no_reading (omega (arith, c.requires.pair.count)))

pub returns : goal.returns
returns c =
    let readers = c.args.readers.now in
    let two : length readers ≡ 2 = sym (length-readings readers) ∙ c.requires.pair.count in
    let first = reading_at-reader readers 0 c.index-readers-0.result (omega (arith, two)) c.index-readers-0.is in
    let second = reading_at-reader readers 1 c.index-readers-1.result (omega (arith, two)) c.index-readers-1.is in
    subst (λ (r : Reading). IfOk c.letter_join.result (λ found. IfSome found (IsJoin c.args.letters r (reading_at (readings_in readers) 1)))) (sym first)
    (subst (λ (s : Reading). IfOk c.letter_join.result (λ found. IfSome found (IsJoin c.args.letters (reading_in c.index-readers-0.result) s))) (sym second) c.letter_join.ensures)
