-- The free variables of formulas.
use Rattle.std.specs.Prelude.{Bool, false, ◌||◌, ◌&&◌, not}
use Rattle.std.specs.Str.{bytes_eq}
use Rattle.formula_parse.specs.Tokens.{Name}
use Rattle.formula_parse.specs.Trees.{Names, no_names, names, Term, variable, numeral, product, sum, Factors, no_factors, factors, times, divided, Terms, no_terms, terms, Addends, no_addends, addends, Fact, compare, words, word_letter, letter_word, call, Formula, atom, negated, chain, quantified, marked, Operands, no_operands, operands}

-- whether the name is in the list
abbrev pub is_listed : Name → Names → Bool
is_listed m no_names = false
is_listed m (names ns n) = is_listed m ns || bytes_eq n m

abbrev mutual
  -- whether the variable occurs in the term
  pub occurs_in : Name → Term → Bool
  occurs_in m (variable n) = bytes_eq n m
  occurs_in m (numeral c) = false
  occurs_in m (product fs) = occurs_multiplied m fs
  occurs_in m (sum ss t) = occurs_before m ss || occurs_in m t

  pub occurs_multiplied : Name → Factors → Bool
  occurs_multiplied m no_factors = false
  occurs_multiplied m (factors fs (times t)) = occurs_multiplied m fs || occurs_in m t
  occurs_multiplied m (factors fs (divided c)) = occurs_multiplied m fs

  pub occurs_before : Name → Addends → Bool
  occurs_before m no_addends = false
  occurs_before m (addends ss t s) = occurs_before m ss || occurs_in m t

-- in some terms
abbrev pub occurs_among : Name → Terms → Bool
occurs_among m no_terms = false
occurs_among m (terms ts t) = occurs_among m ts || occurs_in m t

-- in what an atom says
abbrev pub occurs_there : Name → Fact → Bool
occurs_there m (compare t r u) = occurs_in m t || occurs_in m u
occurs_there m (words x r y) = occurs_among m x.places || occurs_among m y.places
occurs_there m (word_letter x r l) = occurs_among m x.places
occurs_there m (letter_word l r x) = occurs_among m x.places
occurs_there m (call n ts) = occurs_among m ts

abbrev mutual
  -- whether the variable occurs where no quantifier binds it
  pub is_free : Name → Formula → Bool
  is_free m (atom x) = occurs_there m x.fact
  is_free m (negated f) = is_free m f
  is_free m (chain os f) = is_free_among m os || is_free m f
  is_free m (quantified q ns f) = not (is_listed m ns) && is_free m f
  is_free m (marked ms f) = is_free m f

  pub is_free_among : Name → Operands → Bool
  is_free_among m no_operands = false
  is_free_among m (operands os f j) = is_free_among m os || is_free m f
