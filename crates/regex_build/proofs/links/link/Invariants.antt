-- The pairs of the last places so far are listed.
use Rattle.std.proofs.Common.{take}
use Rattle.std.specs.Prelude.{Contains}
use Rattle.regex_build.specs.Fragments.{rows_in, AreLinked}
use Rattle.regex_build.proofs.links.link.Given as goal

abbrev pub invariant-loop-last : goal.invariant-loop-last
invariant-loop-last l = AreLinked (λ p q. Contains (take l.last-index l.lasts) p × Contains l.firsts q) (rows_in l.initial.next.items) (rows_in l.next.items)
