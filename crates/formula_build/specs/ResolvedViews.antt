-- How a resolved formula is seen. Nobody has to believe this: it serves the contracts of functions.
use Rattle.std.specs.Prelude.{◌≡◌, ◌<◌, ◌^◌}
use Rattle.formula_parse.specs.Trees.{Formula}
use Rattle.formula_parse.specs.Views.{formula_view}
use Rattle.term_plans.specs.PlanLists.{IsPlanOf}
use Rattle.formula_resolve.specs.Headers.{Headers}
use Rattle.formula_resolve.specs.Occurrences.{all_occurrences}
use Rattle.formula_resolve.specs.FreeVariables.{free_variables}
use Rattle.plan_relations.specs.Libraries.{LibraryValue, ReadValue}
use Rattle.formula_build.specs.Solutions.{IsFormed, IsResolved, formula_plan, direction_named}
use Rattle.formula_build.specs.Resolved.{AreDirections}
use Rattle.formula_build.specs.declared.resolving.Resolved.{Resolved}

-- the formula, and the headers of its names
abbrev pub formula_of : Resolved → Formula
formula_of r = formula_view r.formula.now

abbrev pub headers_in : Resolved → Headers
headers_in r = r.names.now.headers

-- the formula has a resolution, and these are its free variables and its plan
pub record IsPlanned (r : Resolved) : Type 0 where
  pub formed : IsFormed (formula_of r)
  pub directions : AreDirections (headers_in r) direction_named
  pub resolved : IsResolved (headers_in r) (formula_of r)
  pub variables : r.variables.items ≡ free_variables (all_occurrences (headers_in r) (formula_of r))
  pub plan : IsPlanOf r.plan.plans r.plan.last (formula_plan (headers_in r) (formula_of r))
  pub few : (formula_plan (headers_in r) (formula_of r)).next < 2 ^ 64

-- the systems of its names, and what was read
abbrev pub library_of : Resolved → ReadValue → LibraryValue
library_of r read = record { relations = read.relations; words = read.words; systems = r.names.now.systems }
