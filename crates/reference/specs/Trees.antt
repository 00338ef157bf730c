-- What trees of expressions mean.
use Rattle.std.specs.Prelude.{◌≡◌, ◌<◌, ◌++◌, ℤ, List, [], ◌∷◌, length, Option, None, Some}
use Rattle.std.specs.List.{fold}
use Rattle.regex_build.specs.Expression.{Expression, empty, letter, any, either, follow, star, plus, optional}
use Rattle.reference.specs.declared.tree.Tree.{Tree}
use Rattle.reference.specs.declared.tree.Tree.TheVariants.{Empty, Letter, Any, Either', Follow', Star', Plus', Optional'}

-- the expression of a tree
abbrev pub expression : Tree → Expression (List ℤ)
expression Empty = empty
expression (Letter x) = letter x
expression Any = any
expression (Either' p e q f) = either (expression e) (expression f)
expression (Follow' p e q f) = follow (expression e) (expression f)
expression (Star' p e) = star (expression e)
expression (Plus' p e) = plus (expression e)
expression (Optional' p e) = optional (expression e)

-- the expressions of trees, the last first
abbrev pub waiting_in : List Tree → List (Expression (List ℤ))
waiting_in trees = fold (λ es tree. expression tree ∷ es) [] trees

-- the last two are taken off, if there are two
abbrev pub SplitsTwo : List Tree → List Tree → Option (Tree × Tree) → Type 0
SplitsTwo old new None = (new ≡ old) × (length old < 2)
SplitsTwo old new (Some two) = old ≡ (new ++ two.0 ∷ []) ++ two.1 ∷ []
