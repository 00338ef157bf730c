-- The quantifiers that bind variables, as a map keeps them.
use Rattle.std.specs.Prelude.{ℕ}
use Rattle.std.specs.Option.{unwrap_or}
use Rattle.std.specs.FinMap.{get}
use Rattle.formula_resolve.specs.Headers.{Named}
use Rattle.formula_resolve.specs.Occurrences.{Binders}

-- the number that is there for a variable; 0 where there is none
abbrev pub binders_of : Named ℕ → Binders
binders_of m = λ n. unwrap_or (get m n) 0
