use Rattle.std.proofs.Common.{◌≡◌, take}
use Rattle.command_parts.specs.FormulaLoads.{variable_systems}
use Rattle.formula_commands.proofs.formula_text.system_names.Given as goal

-- the names so far were copied
abbrev pub invariant-loop-variable : goal.invariant-loop-variable
invariant-loop-variable l = l.names.items ≡ variable_systems (take l.variable-index l.variables)
