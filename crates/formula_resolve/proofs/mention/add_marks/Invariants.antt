use Rattle.std.proofs.Common.{◌≡◌, ◌++◌, take}
use Rattle.formula_parse.specs.Views.{names_view}
use Rattle.formula_resolve.specs.Mentions.{marks}
use Rattle.formula_resolve.proofs.mention.add_marks.Given as goal

abbrev pub invariant-loop-system : goal.invariant-loop-system
invariant-loop-system l = l.found.items ≡ l.initial.found.items ++ marks (names_view (take l.system-index l.systems))
