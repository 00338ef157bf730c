use Rattle.std.proofs.Common.{◌≡◌, ℕ, ◌<◌, List, length, get_or, ap, sym, ◌∙◌, subst, arith}
use Rattle.std.proofs.lemmas.List.{get_or-map, length-map}
use Rattle.digit_tuple.specs.Deterministic.{Automaton, letters_of}
use Rattle.residual_classes.specs.Classes.{next_of}
use Rattle.product_op.specs.declared.next_row.NextRow.{NextRow}
use Rattle.product_op.specs.declared.reader.Reader.{Reader}
use Rattle.product_op.specs.NextRows.{IsNextRow, AreNextRows}
use Rattle.product_op.specs.Readings.{Reading, IsReading, AreReadings, automata_in, reading_in, readings_in, part_read, state_at, no_reading}
use Rattle.product_op.proofs.ReaderLemmas.{LeadTo-all, LeadTo-more, length-readings, reading_at-reader}
use Rattle.product_op.proofs.next_row.next_by_rows.Goals as goal

module _ (readers : List Reader) (place : ℕ) (r : Reader) (within : place < length readers) (is : r ≡ get_or readers place r) where
  -- what is known of the reader at a place
  is_reading : (letters : ℕ) → AreReadings letters (readings_in readers) → IsReading letters (reading_in r)
  is_reading letters are = subst (IsReading letters) (reading_at-reader readers place r within is) (are place no_reading (omega (arith, length-readings readers, within)))

  -- the row at a place is that of the reader's automaton
  row_is : (key : List ℕ) (rows : List NextRow) (row : NextRow) → AreNextRows (automata_in (readings_in readers)) key rows → row ≡ get_or rows place row → IsNextRow r.dfa.now (state_at key place) row
  row_is key rows row are here =
      let inside : place < length (readings_in readers) = omega (arith, length-readings readers, within) in
      let at = get_or-map (λ (x : Reading). x.automaton) (readings_in readers) place no_reading r.dfa.now inside ∙ ap (λ (x : Reading). x.automaton) (reading_at-reader readers place r within is) in
      subst (λ (d : Automaton). IsNextRow d (state_at key place) row) at
      (subst (IsNextRow (get_or (automata_in (readings_in readers)) place r.dfa.now) (state_at key place)) (sym here)
      (are.each place (omega (arith, inside, length-map (readings_in readers) (λ (x : Reading). x.automaton))) r.dfa.now row))

pub part-requires : goal.part-requires
part-requires c =
    let reading = is_reading c.args.readers.now c.loop-place.place c.index-readers-place.result c.loop-place-test.true c.index-readers-place.is c.requires.readers.0 c.requires.readers.1 in
    omega (arith, reading.count, c.requires.readers.2)

pub next-requires : goal.next-requires
next-requires c =
    let readers = c.args.readers.now in
    let place = c.loop-place.place in
    let reader = c.index-readers-place.result in
    let key = c.requires.rows.0 in
    let reading = is_reading readers place reader c.loop-place-test.true c.index-readers-place.is c.requires.readers.0 c.requires.readers.1 in
    let part : c.part.result < letters_of reader.dfa.now = omega (arith, c.part.ensures, reading.within c.args.letter 0 (omega (arith, reading.count, c.requires.readers.2))) in (
      reader.dfa.now,
      get_or key place 0,
      row_is readers place reader c.loop-place-test.true c.index-readers-place.is key c.args.rows.now c.index-rows-place.result c.requires.rows.1 c.index-rows-place.is,
      part,
    )

pub loop-place-preserved : goal.loop-place-preserved
loop-place-preserved c key rows =
    let readers = c.args.readers.now in
    let place = c.loop-place.place in
    let reader = c.index-readers-place.result in
    let reading = is_reading readers place reader c.loop-place-test.true c.index-readers-place.is c.requires.readers.0 c.requires.readers.1 in
    let here = reading_at-reader readers place reader c.loop-place-test.true c.index-readers-place.is in
    let row = row_is readers place reader c.loop-place-test.true c.index-readers-place.is key c.args.rows.now c.index-rows-place.result rows c.index-rows-place.is in
    let part : c.part.result < letters_of reader.dfa.now = omega (arith, c.part.ensures, reading.within c.args.letter 0 (omega (arith, reading.count, c.requires.readers.2))) in
    LeadTo-more (readings_in readers) key c.args.letter c.loop-place.next place c.next.result (omega (arith, c.loop-place-test.true, c.loop-place.auto.next, c.requires.room))
    (c.next.ensures reader.dfa.now (get_or key place 0) row part ∙ ap (next_of reader.dfa.now (get_or key place 0)) c.part.ensures
    ∙ ap (λ (r : Reading). next_of r.automaton (state_at key place) (part_read r c.args.letter)) (sym here))
    (c.loop-place.invariant key rows)

pub returns : goal.returns
returns c key rows =
    let readers = c.args.readers.now in
    LeadTo-all (readings_in readers) key c.args.letter c.loop-place.next c.loop-place.place (omega (arith, c.loop-place.auto.next, c.requires.room, length-readings readers))
    (omega (arith, length-readings readers, c.loop-place-test.false)) (c.loop-place.invariant key rows)
