use Rattle.digit_tuple.specs.Slots.{home_of}
use Rattle.digit_tuple.proofs.SlotLemmas.{IsSought}
use Rattle.digit_tuple.proofs.numbering.find.Given as goal

abbrev pub invariant-loop-place : goal.invariant-loop-place
invariant-loop-place l = IsSought l.keys l.table.slots.items l.key l.hash (home_of l.table.mask l.hash) l.place
