-- How many wait so far.
use Rattle.std.proofs.Common.{◌≡◌, ◌≤◌, [], length, take}
use Rattle.regex_build.specs.Postfix.{stacked}
use Rattle.regex_build.proofs.postfix.are_postfix.Given as goal

abbrev pub invariant-loop-symbol : goal.invariant-loop-symbol
invariant-loop-symbol l = record { count : l.waiting ≡ length (stacked [] (take l.symbol-index l.symbols)); small : l.waiting ≤ l.symbol-index }
