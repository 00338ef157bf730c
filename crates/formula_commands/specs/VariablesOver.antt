-- The variables of a formula that was resolved, each over a system that is under the name of its system.
use Rattle.std.specs.Prelude.{List, [], ◌∷◌}
use Rattle.formula_resolve.specs.declared.variable.Variable as resolved
use Rattle.num_system.specs.Sealed.{SystemValue, system_of}
use Rattle.definitions.specs.Trees.{Variable}

abbrev pub variable_over : resolved.Variable → SystemValue → Variable
variable_over v s = record { name = v.name; direction = s.direction; system = record { name = v.system; system = system_of s } }

abbrev pub variables_over : List resolved.Variable → List SystemValue → List Variable
variables_over [] systems = []
variables_over (v ∷ variables) [] = []
variables_over (v ∷ variables) (s ∷ systems) = variable_over v s ∷ variables_over variables systems
