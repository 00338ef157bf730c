-- Formulas in which the name of each variable begins with a letter.
use Rattle.std.specs.Prelude.{◌≡◌, true, ⊤}
use Rattle.formula_parse.specs.Trees.{Term, variable, numeral, product, sum, Factors, no_factors, factors, times, divided, Terms, no_terms, terms, Addends, no_addends, addends, Fact, compare, words, word_letter, letter_word, call, Formula, atom, negated, chain, quantified, marked, Operands, no_operands, operands}
use Rattle.plan_relations.specs.TrackNames.{begins_with_letter}

abbrev mutual
  pub IsNamedTerm : Term → Type 0
  IsNamedTerm (variable n) = begins_with_letter n ≡ true
  IsNamedTerm (numeral c) = ⊤
  IsNamedTerm (product fs) = AreNamedFactors fs
  IsNamedTerm (sum ss t) = AreNamedAddends ss × IsNamedTerm t

  pub AreNamedFactors : Factors → Type 0
  AreNamedFactors no_factors = ⊤
  AreNamedFactors (factors fs (times t)) = AreNamedFactors fs × IsNamedTerm t
  AreNamedFactors (factors fs (divided c)) = AreNamedFactors fs

  pub AreNamedAddends : Addends → Type 0
  AreNamedAddends no_addends = ⊤
  AreNamedAddends (addends ss t s) = AreNamedAddends ss × IsNamedTerm t

abbrev pub AreNamedTerms : Terms → Type 0
AreNamedTerms no_terms = ⊤
AreNamedTerms (terms ts t) = AreNamedTerms ts × IsNamedTerm t

abbrev pub IsNamedFact : Fact → Type 0
IsNamedFact (compare t r u) = IsNamedTerm t × IsNamedTerm u
IsNamedFact (words x r y) = AreNamedTerms x.places × AreNamedTerms y.places
IsNamedFact (word_letter x r l) = AreNamedTerms x.places
IsNamedFact (letter_word l r x) = AreNamedTerms x.places
IsNamedFact (call n ts) = AreNamedTerms ts

abbrev mutual
  pub AreNamedIn : Formula → Type 0
  AreNamedIn (atom x) = IsNamedFact x.fact
  AreNamedIn (negated f) = AreNamedIn f
  AreNamedIn (chain os f) = AreNamedAmong os × AreNamedIn f
  AreNamedIn (quantified q ns f) = AreNamedIn f
  AreNamedIn (marked ms f) = AreNamedIn f

  pub AreNamedAmong : Operands → Type 0
  AreNamedAmong no_operands = ⊤
  AreNamedAmong (operands os f j) = AreNamedAmong os × AreNamedIn f
