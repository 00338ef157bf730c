-- What truth depends on.
use Rattle.std.specs.Prelude.{◌≡◌, ◌↔◌, ℕ, List, IsTrue}
use Rattle.formula_parse.specs.Tokens.{Name}
use Rattle.formula_parse.specs.Trees.{Formula}
use Rattle.formula_truth.specs.Assignments.{Assignment}
use Rattle.formula_truth.specs.Truth.{Holds}
use Rattle.formula_truth.specs.Tests.{Tests, tested}
use Rattle.formula_truth.specs.FreeVariables.{is_free}

-- the tests say the same of each name
pub record TestTheSame (t u : Tests) : Type 0 where
  pub passes : (n : Name) (ns : List ℕ) → t.passes n ns ≡ u.passes n ns
  pub letter : (n : Name) (ns : List ℕ) → t.letter n ns ≡ u.letter n ns

-- truth depends on what names mean, and not on how that is reported
abbrev pub MeaningsMatter : Type 0
MeaningsMatter = (t u : Tests) (f : Formula) (a : Assignment) → TestTheSame t u → Holds (tested t) f a ↔ Holds (tested u) f a

-- the assignments give the same numbers to the free variables
abbrev pub AgreeOnFree : Formula → Assignment → Assignment → Type 0
AgreeOnFree f a b = (n : Name) → IsTrue (is_free n f) → a n ≡ b n

-- truth depends on the numbers of the free variables alone
abbrev pub FreeVariablesMatter : Type 0
FreeVariablesMatter = (t : Tests) (f : Formula) (a b : Assignment) → AgreeOnFree f a b → Holds (tested t) f a ↔ Holds (tested t) f b
