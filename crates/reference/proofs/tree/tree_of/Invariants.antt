-- The trees of the symbols so far wait.
use Rattle.std.proofs.Common.{◌≡◌, [], take}
use Rattle.regex_build.specs.Postfix.{stacked}
use Rattle.reference.specs.Trees.{waiting_in}
use Rattle.reference.proofs.tree.tree_of.Given as goal

abbrev pub invariant-loop-symbol : goal.invariant-loop-symbol
invariant-loop-symbol l = waiting_in l.waiting.items ≡ stacked [] (take l.symbol-index l.symbols)
