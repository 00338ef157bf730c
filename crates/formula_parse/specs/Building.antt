-- How trees are made of their parts: parentheses leave no mark, and a list of one is its item.
use Rattle.std.specs.Prelude.{ℕ, ℤ, pos, neg_ℤ, Bool, true, false, List, [], ◌∷◌}
use Rattle.formula_parse.specs.Tokens.{Name, Quantifier, Connective, Letter, Token, number, Placed, here, value_of, token_of, nesting_of}
use Rattle.formula_parse.specs.Tokens as tokens
use Rattle.formula_parse.specs.Trees.{Names, no_names, names, Term, product, sum, Factors, no_factors, factors, times, Addends, no_addends, addends, Fact, Joint, and, or, xor, Formula, atom, negated, chain, marked, Operands, no_operands, operands}
use Rattle.formula_parse.specs.Making.{Binding, some, every, infinite}

-- a factor that is alone is the product
abbrev pub multiplied : Factors → Term
multiplied (factors no_factors (times t)) = t
multiplied ps = product ps

abbrev pub summed : Addends → Term → Term
summed no_addends t = t
summed (addends ss s g) t = sum (addends ss s g) t

abbrev pub chained : Operands → Formula → Formula
chained no_operands f = f
chained (operands os g k) f = chain (operands os g k) f

abbrev pub under_marks : Names → Formula → Formula
under_marks no_names f = f
under_marks (names ms n) f = marked (names ms n) f

-- some `~`, the last first, each with the marks before it
abbrev pub under_tildes : List Names → Formula → Formula
under_tildes [] f = f
under_tildes (ms ∷ st) f = under_tildes st (under_marks ms (negated f))

abbrev pub signed : Bool → ℕ → ℤ
signed true n = neg_ℤ (pos n)
signed false n = pos n

abbrev pub letter_of : Letter → ℤ
letter_of l = signed l.negative l.value

abbrev pub joint : Connective → Joint
joint tokens.and = and
joint tokens.or = or
joint tokens.xor = xor

abbrev pub quantifier_of : Binding → Quantifier
quantifier_of (some ns) = tokens.some
quantifier_of (every ns) = tokens.every
quantifier_of infinite = tokens.infinite

-- the variables before the last
abbrev pub names_of : Binding → Names
names_of (some ns) = ns
names_of (every ns) = ns
names_of infinite = no_names

abbrev pub in_system : Name → Fact → Formula
in_system y f = atom (record { system = y; fact = f })
