-- The free occurrences of variables, by cases on the syntax.
use Rattle.std.specs.Prelude.{Bool, true, not, ◌&&◌, List, [], ◌∷◌, ◌++◌, map, Option, None, Some, if◌then◌else◌}
use Rattle.std.specs.List.{filter}
use Rattle.std.specs.Str.{bytes_eq}
use Rattle.formula_parse.specs.Tokens.{Name}
use Rattle.formula_parse.specs.Trees.{Formula, atom, negated, chain, quantified, marked, Operands, no_operands, operands}
use Rattle.formula_resolve.specs.Headers.{Headers}
use Rattle.formula_resolve.specs.Occurrences.{is_listed, unbound, fact_occurrences}
use Rattle.formula_resolve.specs.declared.occurrence.Occurrence.{Occurrence}

-- a variable, and the system at its place
abbrev pub named : Occurrence → Name × Name
named o = (o.name, o.system)

-- those of which the test is true
abbrev pub passing : (Occurrence → Bool) → List Occurrence → List (Name × Name)
passing test os = map named (filter test os)

abbrev mutual
  -- the occurrences, from left to right, of the variables of which the test is true, where no quantifier binds them
  pub free_in : Headers → (Name → Bool) → Formula → List (Name × Name)
  free_in h test (atom x) = passing (λ o. test o.name) (fact_occurrences h unbound x.system x.fact)
  free_in h test (negated f) = free_in h test f
  free_in h test (chain os f) = free_among h test os ++ free_in h test f
  free_in h test (quantified q ns f) = free_in h (λ n. not (is_listed n ns) && test n) f
  free_in h test (marked ms f) = free_in h test f

  pub free_among : Headers → (Name → Bool) → Operands → List (Name × Name)
  free_among h test no_operands = []
  free_among h test (operands os f j) = free_among h test os ++ free_in h test f

-- the system of the first of this name
abbrev pub system_among : List (Name × Name) → Name → Option Name
system_among [] n = None
system_among (p ∷ ps) n = if bytes_eq n p.0 then Some p.1 else system_among ps n

-- the system at the first free occurrence of a variable, where it occurs free
abbrev pub free_system : Headers → Formula → Name → Option Name
free_system h f n = system_among (free_in h (λ m. true) f) n
