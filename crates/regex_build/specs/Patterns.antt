-- Expressions over sets.
use Rattle.std.specs.Prelude.{ℤ, List, Contains, ⊤}
use Rattle.std.specs.List.{AllZip}
use Rattle.regex_build.specs.Expression.{Expression}
use Rattle.regex_build.specs.declared.postfix_symbol.PostfixSymbol.{PostfixSymbol}
use Rattle.regex_build.specs.declared.postfix_symbol.PostfixSymbol.TheVariants.{Letter}

-- the sets of the tracks, and the expression
pub record Pattern : Type 0 where
  pub sets : List (List ℤ)
  pub tree : Expression (List ℤ)

-- the tuple has a member of each set
abbrev pub AreMembers : List (List ℤ) → List ℤ → Type 0
AreMembers sets tuple = AllZip Contains sets tuple

-- a letter has a member of each set
abbrev pub IsOver : List (List ℤ) → PostfixSymbol → Type 0
IsOver sets (Letter x) = AreMembers sets x
IsOver sets _ = ⊤
