-- Formulas whose quantifiers range over the numbers below a bound; `I` ranges over all numbers still.
use Rattle.std.specs.Prelude.{ℕ, List, [], ◌∷◌, ◌++◌, false, Option, None, Some, IsTrue}
use Rattle.formula_parse.specs.Tokens.{Name, Quantifier, some, every, infinite, less}
use Rattle.formula_parse.specs.Trees.{Names, no_names, names, variable, numeral, compare, and, implies, Formula, atom, negated, chain, quantified, marked, Operands, no_operands, operands}
use Rattle.formula_parse.specs.Views.{connective_view}
use Rattle.formula_truth.specs.Truth.{Meanings, Joins}
use Rattle.formula_truth.specs.Tests.{tested}
use Rattle.formula_truth.specs.declared.deciding.Prefix.{Prefix}

-- no automaton holds of anything, and no word has a letter
abbrev pub nothing : Meanings
nothing = tested (record { passes = λ n ns. false; letter = λ n ns. None })

-- the variable is below the bound
abbrev pub is_below : Name → ℕ → Formula
is_below n bound = atom (record { system = []; fact = compare (variable n) less (numeral bound) })

-- for some number below the bound, and for every one; for infinitely many numbers, below the bound or not
abbrev pub one_below : Quantifier → Name → ℕ → Formula → Formula
one_below some n bound f = quantified some (names no_names n) (chain (operands no_operands (is_below n bound) and) f)
one_below every n bound f = quantified every (names no_names n) (chain (operands no_operands (is_below n bound) implies) f)
one_below infinite n bound f = quantified infinite (names no_names n) f

-- for several variables, the first of them outermost
abbrev pub each_below : Quantifier → List Name → ℕ → Formula → Formula
each_below q [] bound f = f
each_below q (n ∷ ns) bound f = one_below q n bound (each_below q ns bound f)

abbrev pub list_of : Names → List Name
list_of no_names = []
list_of (names ns n) = list_of ns ++ n ∷ []

abbrev mutual
  -- the formula with each `E` and `A` ranging over the numbers below the bound
  pub bounded : ℕ → Formula → Formula
  bounded bound (atom x) = atom x
  bounded bound (negated f) = negated (bounded bound f)
  bounded bound (chain os f) = chain (bounded_among bound os) (bounded bound f)
  bounded bound (quantified q ns f) = each_below q (list_of ns) bound (bounded bound f)
  bounded bound (marked ms f) = marked ms (bounded bound f)

  pub bounded_among : ℕ → Operands → Operands
  bounded_among bound no_operands = no_operands
  bounded_among bound (operands os f j) = operands (bounded_among bound os) (bounded bound f) j

-- a statement after the truth of a chain so far with its connective, or after nothing
abbrev pub AfterChain : Option Prefix → Type 0 → Type 0
AfterChain None P = P
AfterChain (Some b) P = Joins (connective_view b.connective) (IsTrue b.holds) P
