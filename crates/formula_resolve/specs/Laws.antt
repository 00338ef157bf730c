-- What holds of all resolutions.
use Rattle.std.specs.Prelude.{◌≡◌, ◌≢◌, ℕ, nat_lt, map, Result, Ok, Err, List, None, IsTrue}
use Rattle.std.specs.List.{Contains}
use Rattle.formula_parse.specs.Trees.{Formula}
use Rattle.formula_resolve.specs.Headers.{Headers}
use Rattle.formula_resolve.specs.Occurrences.{Binders, occurrences, free_of}
use Rattle.formula_resolve.specs.Clashes.{is_same_binding, first_clash}
use Rattle.formula_resolve.specs.declared.occurrence.Occurrence.{Occurrence}
use Rattle.formula_resolve.specs.FreeOccurrences.{named, free_in}
use Rattle.formula_resolve.specs.Resolving.{Resolves}
use Rattle.formula_resolve.specs.declared.variable.Variable.{Variable}
use Rattle.formula_resolve.specs.declared.resolution.Resolved.{Resolved}
use Rattle.formula_resolve.specs.declared.fault.ResolveFault.{ResolveFault}
use Rattle.formula_resolve.specs.declared.fault.ResolveFault.TheVariants.{Memory}

-- what an answer says: the free variables, or the fault
abbrev pub said : Result Resolved ResolveFault → Result (List Variable) ResolveFault
said (Ok r) = Ok r.variables.items
said (Err e) = Err e

-- a formula has one answer with some headers, apart from out of memory
abbrev pub OneResolution : Type 0
OneResolution = (h : Headers) (f : Formula) (r s : Result Resolved ResolveFault) → Resolves h f r → Resolves h f s → r ≢ Err Memory → s ≢ Err Memory → said r ≡ said s

-- The occurrences in a part of a formula whose quantifier's number is below that of the part's first quantifier are the
-- free ones: those that no quantifier of the part binds, of the variables that are free there or are bound before it.
abbrev pub FreeIsUnbound : Type 0
FreeIsUnbound = (h : Headers) (b : Binders) (k : ℕ) (f : Formula) → map named (free_of k (occurrences h b k f).list) ≡ free_in h (λ n. nat_lt (b n) k) f

-- where no occurrence clashes, all those under one binding have one system
abbrev pub NoClashIsConsistent : Type 0
NoClashIsConsistent = (os : List Occurrence) → first_clash os ≡ None → (o p : Occurrence) → Contains os o → Contains os p → IsTrue (is_same_binding o p) → o.system ≡ p.system
