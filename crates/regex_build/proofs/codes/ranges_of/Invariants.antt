-- The ranges so far.
use Rattle.std.proofs.Common.{take}
use Rattle.std.specs.List.{AllZip}
use Rattle.regex_build.specs.Codes.{IsRangeOf, occurrences_of}
use Rattle.regex_build.proofs.codes.ranges_of.Given as goal

abbrev pub invariant-loop-symbol : goal.invariant-loop-symbol
invariant-loop-symbol l = AllZip (IsRangeOf l.sets) (occurrences_of (take l.symbol-index l.symbols)) l.made.items
