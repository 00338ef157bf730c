-- The variables whose own tracks are among those of a plan. They are the free variables; of a product of several factors
-- that are no numerals only the last one counts.
use Rattle.std.specs.Prelude.{◌≡◌, Bool, false, ◌||◌, List, [], ◌∷◌, ◌++◌, not, filter}
use Rattle.std.specs.Str.{bytes_eq}
use Rattle.formula_parse.specs.Tokens.{Name}
use Rattle.formula_parse.specs.Trees.{Names, no_names, names, Term, variable, numeral, product, sum, Factors, no_factors, factors, times, divided, Terms, no_terms, terms, Addends, no_addends, addends, Fact, compare, words, word_letter, letter_word, call, Formula, atom, negated, chain, quantified, marked, Operands, no_operands, operands}

abbrev mutual
  pub own_names : Term → List Name
  own_names (variable n) = n ∷ []
  own_names (numeral c) = []
  own_names (product fs) = own_multiplied fs
  own_names (sum ss t) = own_before ss ++ own_names t

  pub own_multiplied : Factors → List Name
  own_multiplied no_factors = []
  own_multiplied (factors fs (times (numeral c))) = own_multiplied fs
  own_multiplied (factors fs (divided c)) = own_multiplied fs
  own_multiplied (factors fs (times t)) = own_names t

  pub own_before : Addends → List Name
  own_before no_addends = []
  own_before (addends ss t s) = own_before ss ++ own_names t

abbrev pub own_among : Terms → List Name
own_among no_terms = []
own_among (terms ts t) = own_among ts ++ own_names t

-- of what an atom says
abbrev pub own_there : Fact → List Name
own_there (compare t r u) = own_names t ++ own_names u
own_there (words x r y) = own_among x.places ++ own_among y.places
own_there (word_letter x r l) = own_among x.places
own_there (letter_word l r x) = own_among x.places
own_there (call n ts) = own_among ts

-- the names but one, and but those of a list
abbrev pub without_name : Name → List Name → List Name
without_name n ms = filter (λ m. not (bytes_eq n m)) ms

abbrev pub without_all : Names → List Name → List Name
without_all no_names ms = ms
without_all (names ns n) ms = without_all ns (without_name n ms)

abbrev pub has_name : List Name → Name → Bool
has_name [] n = false
has_name (m ∷ ms) n = bytes_eq m n || has_name ms n

abbrev mutual
  pub own_of : Formula → List Name
  own_of (atom x) = own_there x.fact
  own_of (negated f) = own_of f
  own_of (chain os f) = own_operands os ++ own_of f
  own_of (quantified q ns f) = without_all ns (own_of f)
  own_of (marked ms f) = own_of f

  pub own_operands : Operands → List Name
  own_operands no_operands = []
  own_operands (operands os f j) = own_operands os ++ own_of f

-- whether one of some names is there
abbrev pub has_any : Names → List Name → Bool
has_any no_names ms = false
has_any (names ns n) ms = has_any ns ms || has_name ms n

-- two lists have the same names
abbrev pub HaveSame : List Name → List Name → Type 0
HaveSame ms ns = (n : Name) → has_name ms n ≡ has_name ns n
