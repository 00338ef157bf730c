-- The systems of first occurrences, as a map keeps them.
use Rattle.std.specs.Prelude.{ℕ, List, ◌∷◌, map, Option, None, Some}
use Rattle.std.specs.FinMap.{from_entries, insert}
use Rattle.formula_parse.specs.Tokens.{Name}
use Rattle.formula_resolve.specs.Headers.{Named}
use Rattle.formula_resolve.specs.declared.occurrence.Occurrence.{Occurrence}

-- what determines a binding of a variable: the quantifier's number, and the name
abbrev pub binding : Occurrence → List ℕ
binding o = o.binder ∷ o.name

-- the system of the first occurrence under each binding
abbrev pub firsts_of : List Occurrence → Named Name
firsts_of os = from_entries (map (λ o. (binding o, o.system)) os)

-- with a system where there is none
abbrev pub with_absent : Option Name → Named Name → List ℕ → Name → Named Name
with_absent None m key s = insert m key s
with_absent (Some t) m key s = m
