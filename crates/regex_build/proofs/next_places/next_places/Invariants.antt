-- The expressions of the symbols so far wait.
use Rattle.std.proofs.Common.{◌<◌, ◌^◌, [], length, take}
use Rattle.regex_build.specs.Postfix.{stacked}
use Rattle.regex_build.specs.Fragments.{rows_in}
use Rattle.regex_build.specs.Waiting.{Waits}
use Rattle.regex_build.proofs.next_places.next_places.Given as goal

abbrev pub invariant-loop-symbol : goal.invariant-loop-symbol
invariant-loop-symbol l = record { small : length l.next.items < 2 ^ 32; waits : Waits (stacked [] (take l.symbol-index l.symbols)) l.waiting.items (rows_in l.next.items) }
