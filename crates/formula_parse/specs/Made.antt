-- Trees as what the machine makes.
use Rattle.std.specs.Prelude.{suc, ℤ}
use Rattle.formula_parse.specs.Trees.{names, Term, variable, numeral, Factors, no_factors, factors, times, divided, Terms, no_terms, terms, Addends, no_addends, addends, Index, compare, words, word_letter, letter_word, call, implies, iff, Formula, negated, quantified, Operands, no_operands, operands}
use Rattle.formula_parse.specs.Making.{Kinds, Making}
use Rattle.formula_parse.specs.Building.{multiplied, summed, chained, under_marks, under_tildes, letter_of, joint, quantifier_of, names_of, in_system}

abbrev pub made : Kinds
made = record {
  Factor = Term;
  Factors = Factors;
  Prod = Factors;
  Addends = Addends;
  Term = Term;
  Terms = Terms;
  Index = Index;
  Letter = ℤ;
  Core = Formula;
  Closed = Formula;
  Operands = Operands;
  Chains = Operands;
  Implications = Operands;
  Last = Formula;
  Formula = Formula;
}

abbrev pub trees : Making made
trees = record {
  variable = variable;
  numeral = numeral;
  in_parens = λ t. t;
  no_factors = no_factors;
  factors = λ m b. m;
  prod = λ ps f. factors ps (times f);
  divided = λ m c. factors m (divided (suc c));
  no_addends = no_addends;
  addends = λ ss m s. addends ss (multiplied m) s;
  term = λ ss m. summed ss (multiplied m);
  no_terms = no_terms;
  terms = terms;
  index = λ n ts t. record { word = n; places = terms ts t };
  letter = letter_of;
  compare = λ y t e u. in_system y (compare t e u);
  words = λ y x e z. in_system y (words x e z);
  word_letter = λ y x e l. in_system y (word_letter x e l);
  letter_word = λ y l e x. in_system y (letter_word l e x);
  call_none = λ y n. in_system y (call n no_terms);
  call = λ y n ts t. in_system y (call n (terms ts t));
  not_closed = negated;
  grouped = λ f. f;
  marked = under_marks;
  no_operands = no_operands;
  operands = λ os c k b. operands os c (joint k);
  no_chains = no_operands;
  chains = λ hs os c b. operands hs (chained os c) implies;
  no_implications = no_operands;
  implications = λ is hs os c. operands is (chained hs (chained os c)) iff;
  ends = λ c. c;
  quantified = λ st ms q n f. under_tildes st (under_marks ms (quantified (quantifier_of q) (names (names_of q) n) f));
  formula = λ is hs os l. chained is (chained hs (chained os l));
}
