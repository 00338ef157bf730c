use Rattle.std.proofs.Common.{◌+◌, ◌-◌, ◌*◌, ◌<◌, ◌≤◌, ℕ, List, length, map, subst, sym, ap, ◌∙◌, arith}
use Rattle.std.specs.List.{All, AllPairs}
use Rattle.std.proofs.lemmas.List.Sums.{sum_by-take-le}
use Rattle.digit_tuple.specs.CellCounts.{cells_of}
use Rattle.digit_tuple.specs.Decisions.{rows_in}
use Rattle.digit_tuple.specs.Letters.{product}
use Rattle.digit_tuple.specs.Reversed.{transition_to}
use Rattle.digit_tuple.proofs.BlockCellLemmas.{AreRowLetters-at, cells-more, few-cells, few-letters}
use Rattle.digit_tuple.proofs.block_cells.whole_cells.Goals as goal

pub letter_cells-cells-requires-clause-in_range : goal.letter_cells-cells-requires-clause-in_range
letter_cells-cells-requires-clause-in_range c =
    let at = AreRowLetters-at c.args.tracks.now c.args.rows.now c.loop-place.place c.in-Some.letters.now c.requires.over c.in-Some.ensures.one.1 (omega (arith, c.loop-place-test.true, c.len-place-end.ensures)) in
    subst (λ n. All (λ letter. (0 ≤ letter) × (letter < 0 + n)) c.list.result.now) (sym c.letters.ensures.value) (subst (All (λ letter. (0 ≤ letter) × (letter < 0 + product c.args.tracks.now))) (sym c.list.ensures) at.in_range)

pub letter_cells-cells-requires-clause-ascending : goal.letter_cells-cells-requires-clause-ascending
letter_cells-cells-requires-clause-ascending c =
    let at = AreRowLetters-at c.args.tracks.now c.args.rows.now c.loop-place.place c.in-Some.letters.now c.requires.over c.in-Some.ensures.one.1 (omega (arith, c.loop-place-test.true, c.len-place-end.ensures)) in
    subst (AllPairs (λ l m. l < m)) (sym c.list.ensures) at.ascending

pub letter_cells-cells-requires-clause-fits : goal.letter_cells-cells-requires-clause-fits
letter_cells-cells-requires-clause-fits c =
    let at = AreRowLetters-at c.args.tracks.now c.args.rows.now c.loop-place.place c.in-Some.letters.now c.requires.over c.in-Some.ensures.one.1 (omega (arith, c.loop-place-test.true, c.len-place-end.ensures)) in
    let few = few-letters c.args.tracks.now (rows_in c.args.rows.now) c.loop-place.place c.list.result.now at.within (c.list.ensures ∙ at.same) in
    subst (λ (ss : List ℕ). length ss * length c.list.result.now < 18446744073709551616) (sym c.sizes.ensures.sizes) (omega (arith, few, c.requires.few))

pub overflow_add-cells : goal.overflow_add-cells
overflow_add-cells c =
    let at = AreRowLetters-at c.args.tracks.now c.args.rows.now c.loop-place.place c.in-Some.letters.now c.requires.over c.in-Some.ensures.one.1 (omega (arith, c.loop-place-test.true, c.len-place-end.ensures)) in
    let rows = rows_in c.args.rows.now in
    let count = c.letter_cells-cells.ensures ∙ ap (λ (ss : List ℕ). cells_of ss (map (λ letter. transition_to (letter - 0) 0) c.list.result.now)) c.sizes.ensures.sizes in
    let more = cells-more c.args.tracks.now rows c.loop-place.place c.loop-place.cells c.letter_cells-cells.result c.list.result.now at.within c.loop-place.invariant (c.list.ensures ∙ at.same) count in
    omega (arith, more, sum_by-take-le (cells_of c.args.tracks.now) rows (c.loop-place.place + 1), few-cells c.args.tracks.now rows, c.requires.few)

pub loop-place-preserved : goal.loop-place-preserved
loop-place-preserved c =
    let at = AreRowLetters-at c.args.tracks.now c.args.rows.now c.loop-place.place c.in-Some.letters.now c.requires.over c.in-Some.ensures.one.1 (omega (arith, c.loop-place-test.true, c.len-place-end.ensures)) in
    let count = c.letter_cells-cells.ensures ∙ ap (λ (ss : List ℕ). cells_of ss (map (λ letter. transition_to (letter - 0) 0) c.list.result.now)) c.sizes.ensures.sizes in
    cells-more c.args.tracks.now (rows_in c.args.rows.now) c.loop-place.place c.loop-place.cells c.letter_cells-cells.result c.list.result.now at.within c.loop-place.invariant (c.list.ensures ∙ at.same) count
