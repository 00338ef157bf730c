-- Formulas whose products have at most one factor that is no numeral; a quotient is such a factor.
use Rattle.std.specs.Prelude.{ℕ, suc, ◌-◌, ◌≤◌, ⊤}
use Rattle.formula_parse.specs.Trees.{Term, variable, numeral, product, sum, Factors, no_factors, factors, times, divided, Terms, no_terms, terms, Addends, no_addends, addends, Fact, compare, words, word_letter, letter_word, call, Formula, atom, negated, chain, quantified, marked, Operands, no_operands, operands}

-- one more, if the term is no numeral
abbrev pub one_more_unless : Term → ℕ → ℕ
one_more_unless (numeral c) n = n
one_more_unless (variable x) n = suc n
one_more_unless (product fs) n = suc n
one_more_unless (sum ss t) n = suc n

-- How many factors are no numerals. A divisor makes all that is before it one quotient.
abbrev pub others : Factors → ℕ
others no_factors = 0
others (factors fs (times t)) = one_more_unless t (others fs)
others (factors fs (divided c)) = suc (others fs - 1)

abbrev mutual
  pub IsLinear : Term → Type 0
  IsLinear (variable n) = ⊤
  IsLinear (numeral c) = ⊤
  IsLinear (product fs) = (others fs ≤ 1) × AreLinearFactors fs
  IsLinear (sum ss t) = AreLinearAddends ss × IsLinear t

  pub AreLinearFactors : Factors → Type 0
  AreLinearFactors no_factors = ⊤
  AreLinearFactors (factors fs (times t)) = AreLinearFactors fs × IsLinear t
  AreLinearFactors (factors fs (divided c)) = AreLinearFactors fs

  pub AreLinearAddends : Addends → Type 0
  AreLinearAddends no_addends = ⊤
  AreLinearAddends (addends ss t s) = AreLinearAddends ss × IsLinear t

abbrev pub AreLinear : Terms → Type 0
AreLinear no_terms = ⊤
AreLinear (terms ts t) = AreLinear ts × IsLinear t

abbrev pub IsLinearFact : Fact → Type 0
IsLinearFact (compare t r u) = IsLinear t × IsLinear u
IsLinearFact (words x r y) = AreLinear x.places × AreLinear y.places
IsLinearFact (word_letter x r l) = AreLinear x.places
IsLinearFact (letter_word l r x) = AreLinear x.places
IsLinearFact (call n ts) = AreLinear ts

abbrev mutual
  pub IsLinearFormula : Formula → Type 0
  IsLinearFormula (atom x) = IsLinearFact x.fact
  IsLinearFormula (negated f) = IsLinearFormula f
  IsLinearFormula (chain os f) = AreLinearOperands os × IsLinearFormula f
  IsLinearFormula (quantified q ns f) = IsLinearFormula f
  IsLinearFormula (marked ms f) = IsLinearFormula f

  pub AreLinearOperands : Operands → Type 0
  AreLinearOperands no_operands = ⊤
  AreLinearOperands (operands os f j) = AreLinearOperands os × IsLinearFormula f
