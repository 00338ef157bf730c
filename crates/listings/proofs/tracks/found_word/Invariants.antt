-- The letters so far are written.
use Rattle.std.proofs.Common.{take}
use Rattle.digit_tuple.specs.Tuples.{Codes}
use Rattle.listings.proofs.tracks.found_word.Given as goal

abbrev pub invariant-loop-letter : goal.invariant-loop-letter
invariant-loop-letter l = Codes l.sets (take l.letter-index l.letters) l.word.items
