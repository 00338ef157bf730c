-- The pairs of the crossings so far are listed.
use Rattle.std.proofs.Common.{take}
use Rattle.regex_build.specs.Fragments.{rows_in, Crosses, AreLinked}
use Rattle.regex_build.proofs.links.pay.Given as goal

abbrev pub invariant-loop-crossing : goal.invariant-loop-crossing
invariant-loop-crossing l = AreLinked (Crosses (take l.crossing-index l.owed)) (rows_in l.initial.next.items) (rows_in l.next.items)
