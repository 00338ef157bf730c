use Rattle.std.proofs.Common.{◌<◌, arith}
use Rattle.std.proofs.lemmas.List.Elements.{All-more}
use Rattle.digit_tuple.proofs.LetterCellLemmas.{from_place}
use Rattle.digit_tuple.proofs.letter_cells.letters_below.Goals as goal

pub returns-then-from-bound-clause-later : goal.returns-then-from-bound-clause-later
returns-then-from-bound-clause-later c = from_place c.args.letters.now c.loop-place.place c.args.bound c.requires (omega arith)

pub loop-place-preserved : goal.loop-place-preserved
loop-place-preserved c = All-more (λ letter. letter < c.args.bound) c.args.letters.now c.loop-place.place 0 c.loop-place-test.true c.loop-place.invariant (omega arith)
