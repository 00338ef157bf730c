use Rattle.std.proofs.Common.{◌≡◌, map, take}
use Rattle.formula_resolve.specs.declared.mention.Mention.TheVariants.{Marked}
use Rattle.system_admission.proofs.user_systems.names_once.Given as goal

-- the names before it are marks
abbrev pub invariant-loop-name : goal.invariant-loop-name
invariant-loop-name l = l.marks.items ≡ map Marked (take l.name-index l.names)
