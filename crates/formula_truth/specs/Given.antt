-- Numbers that are given to variables, one after another.
use Rattle.std.specs.Prelude.{ℕ, List, Option, None, Some}
use Rattle.std.specs.List.{fold}
use Rattle.formula_parse.specs.Views.{sign_view}
use Rattle.formula_truth.specs.Assignments.{Assignment, with_value}
use Rattle.formula_truth.specs.Values.{both, by_sign}
use Rattle.formula_truth.specs.declared.given.Given.{Given}
use Rattle.formula_truth.specs.declared.evaluation.Before.{Before}

-- the number that a variable was given last, and 0 where it was given none
abbrev pub assigned : List Given → Assignment
assigned given = fold (λ (a : Assignment) (g : Given). with_value g.name g.number a) (λ m. 0) given

-- a value after a sum so far with its sign, or after nothing
abbrev pub after_sum : Option Before → Option ℕ → Option ℕ
after_sum None x = x
after_sum (Some b) x = both (by_sign (sign_view b.sign)) b.sum x
