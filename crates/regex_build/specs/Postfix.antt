-- Expressions in postfix order: each sign after what it is about.
use Rattle.std.specs.Prelude.{◌≡◌, ℤ, List, [], ◌∷◌}
use Rattle.regex_build.specs.declared.postfix_symbol.PostfixSymbol.{PostfixSymbol}
use Rattle.regex_build.specs.declared.postfix_symbol.PostfixSymbol.TheVariants.{Empty, Letter, Any, Either, Follow, Star, Plus, Optional}
use Rattle.regex_build.specs.Expression.{Expression, empty, letter, any, either, follow, star, plus, optional}

-- the expressions that wait, the last first, after one more symbol
abbrev pub after_symbol : List (Expression (List ℤ)) → PostfixSymbol → List (Expression (List ℤ))
after_symbol stack Empty = empty ∷ stack
after_symbol stack (Letter x) = letter x ∷ stack
after_symbol stack Any = any ∷ stack
after_symbol (f ∷ e ∷ stack) Either = either e f ∷ stack
after_symbol (f ∷ e ∷ stack) Follow = follow e f ∷ stack
after_symbol (e ∷ stack) Star = star e ∷ stack
after_symbol (e ∷ stack) Plus = plus e ∷ stack
after_symbol (e ∷ stack) Optional = optional e ∷ stack
after_symbol stack _ = stack

-- the expressions that wait after the symbols
abbrev pub stacked : List (Expression (List ℤ)) → List PostfixSymbol → List (Expression (List ℤ))
stacked stack [] = stack
stacked stack (symbol ∷ symbols) = stacked (after_symbol stack symbol) symbols

-- the expression on top
abbrev pub top_of : List (Expression (List ℤ)) → Expression (List ℤ)
top_of [] = empty
top_of (e ∷ stack) = e

-- the expression of the symbols
abbrev pub tree_of : List PostfixSymbol → Expression (List ℤ)
tree_of symbols = top_of (stacked [] symbols)

-- the symbols are those of one expression
abbrev pub IsPostfix : List PostfixSymbol → Type 0
IsPostfix symbols = stacked [] symbols ≡ tree_of symbols ∷ []
