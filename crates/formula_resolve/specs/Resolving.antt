-- What the resolution of a formula gives.
use Rattle.std.specs.Prelude.{◌≡◌, Option, Result, IfOk}
use Rattle.std.specs.Option.{option_or, option_map}
use Rattle.formula_parse.specs.Trees.{Formula}
use Rattle.formula_resolve.specs.Headers.{Headers}
use Rattle.formula_resolve.specs.Mentions.{mentions}
use Rattle.formula_resolve.specs.Arity.{first_misuse}
use Rattle.formula_resolve.specs.Occurrences.{all_occurrences}
use Rattle.formula_resolve.specs.Clashes.{first_clash}
use Rattle.formula_resolve.specs.Directions.{first_conflict}
use Rattle.formula_resolve.specs.Answers.{Reports}
use Rattle.formula_resolve.specs.FreeVariables.{free_variables}
use Rattle.formula_resolve.specs.declared.direction.Conflict.{Conflict}
use Rattle.formula_resolve.specs.declared.resolution.Resolved.{Resolved}
use Rattle.formula_resolve.specs.declared.fault.ResolveFault.{ResolveFault}
use Rattle.formula_resolve.specs.declared.fault.ResolveFault.TheVariants as faults

abbrev pub direction_fault : Conflict → ResolveFault
direction_fault t = faults.Direction t.first t.other

-- the fault of a formula: a name that is misused, else a clash, else two directions
abbrev pub fault_of : Headers → Formula → Option ResolveFault
fault_of h f = option_or (first_misuse h (mentions f)) (option_or (first_clash (all_occurrences h f)) (option_map direction_fault (first_conflict h f)))

-- what an answer reports of a formula; Ok has the free variables in byte order with their systems
pub record Resolves (h : Headers) (f : Formula) (result : Result Resolved ResolveFault) : Type 0 where
  pub reported : Reports (fault_of h f) result
  pub variables : IfOk result (λ r. r.variables.items ≡ free_variables (all_occurrences h f))
