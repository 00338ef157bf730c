-- The free variables of a formula with their systems, in byte order.
use Rattle.std.specs.Prelude.{◌≡◌, ℕ, List, map, Vec}
use Rattle.std.specs.declared.alloc.Global.{Global}
use Rattle.std.specs.FinMap.{from_entries, entries}
use Rattle.formula_parse.specs.Tokens.{Name}
use Rattle.formula_resolve.specs.Headers.{Named}
use Rattle.formula_resolve.specs.Occurrences.{free_of}
use Rattle.formula_resolve.specs.declared.occurrence.Occurrence.{Occurrence}
use Rattle.formula_resolve.specs.declared.variable.Variable.{Variable}

-- the system of the first occurrence of each variable
abbrev pub systems_of : List Occurrence → Named Name
systems_of os = from_entries (map (λ o. (o.name, o.system)) os)

abbrev pub variable_of : Name × Name → Variable
variable_of e = record { name = e.0; system = e.1 }

-- the variables of the occurrences that no quantifier binds
abbrev pub free_variables : List Occurrence → List Variable
free_variables os = map variable_of (entries (systems_of (free_of 1 os)))

-- what a map from bytes keeps
abbrev pub kept_entries : List (Vec ℕ Global × Variable) → List (Name × Variable)
kept_entries es = map (λ e. (e.0.items, e.1)) es

abbrev pub with_variable : Name × Name → Name × Variable
with_variable e = (e.0, variable_of e)

-- a map keeps the first systems of these occurrences, each with its variable
abbrev pub IsKept : List Occurrence → List (Vec ℕ Global × Variable) → Type 0
IsKept os es = kept_entries es ≡ map with_variable (entries (systems_of os))
