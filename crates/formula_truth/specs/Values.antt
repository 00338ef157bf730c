-- The values of terms. A difference below zero has no value, nor has a quotient by 0, and a term has none where a part of it has none.
use Rattle.std.specs.Prelude.{ℕ, ◌+◌, ◌-◌, ◌*◌, ◌/◌, ◌==◌, List, [], ◌∷◌, ◌++◌, Option, None, Some, nat_le, if◌then◌else◌}
use Rattle.std.specs.Option.{option_and_then}
use Rattle.formula_parse.specs.Tokens.{Sign, plus, minus}
use Rattle.formula_parse.specs.Trees.{Term, variable, numeral, product, sum, Factors, no_factors, factors, Factor, times, divided, Terms, no_terms, terms, Addends, no_addends, addends}
use Rattle.formula_truth.specs.Assignments.{Assignment}

-- what an operation gives for two values, where there are both
abbrev pub both : (ℕ → ℕ → Option ℕ) → Option ℕ → Option ℕ → Option ℕ
both f None y = None
both f (Some a) None = None
both f (Some a) (Some b) = f a b

-- a difference of natural numbers, where it is one
abbrev pub difference : ℕ → ℕ → Option ℕ
difference x y = if nat_le y x then Some (x - y) else None

abbrev pub by_sign : Sign → ℕ → ℕ → Option ℕ
by_sign plus x y = Some (x + y)
by_sign minus x y = difference x y

abbrev pub multiplied : ℕ → ℕ → Option ℕ
multiplied x y = Some (x * y)

-- the greatest number that, times this divisor, is at most x; there is none for the divisor 0
abbrev pub quotient : ℕ → ℕ → Option ℕ
quotient c x = if c == 0 then None else Some (x / c)

abbrev mutual
  pub value : Term → Assignment → Option ℕ
  value (variable n) a = Some (a n)
  value (numeral c) a = Some c
  value (product fs) a = product_value fs a
  value (sum ss t) a = sum_value ss a (value t a)

  pub product_value : Factors → Assignment → Option ℕ
  product_value no_factors a = Some 1
  product_value (factors fs f) a = with_factor f a (product_value fs a)

  -- a product so far, multiplied or divided by one more factor
  pub with_factor : Factor → Assignment → Option ℕ → Option ℕ
  with_factor (times t) a x = both multiplied x (value t a)
  with_factor (divided c) a x = option_and_then (quotient c) x

  -- the addends, read from the left, and then the last one, which has this value
  pub sum_value : Addends → Assignment → Option ℕ → Option ℕ
  sum_value no_addends a x = x
  sum_value (addends ss t s) a x = both (by_sign s) (sum_value ss a (value t a)) x

-- some values with one more, where there are all
abbrev pub and_value : Option (List ℕ) → Option ℕ → Option (List ℕ)
and_value None x = None
and_value (Some ns) None = None
and_value (Some ns) (Some n) = Some (ns ++ n ∷ [])

-- the values of several terms, where each has one
abbrev pub values : Terms → Assignment → Option (List ℕ)
values no_terms a = Some []
values (terms ts t) a = and_value (values ts a) (value t a)
