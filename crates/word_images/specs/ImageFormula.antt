-- The formula of one letter of the image of a word: of the positions at which the letter is.
use Rattle.std.specs.Prelude.{ℕ, zero, suc, ◌-◌, ℤ, codes, decimal}
use Rattle.formula_parse.specs.Tokens.{Name, equal, plus, some}
use Rattle.formula_parse.specs.Trees.{no_names, names, Term, variable, numeral, product, sum, no_factors, factors, times, no_terms, terms, no_addends, addends, compare, word_letter, and, or, Formula, atom, chain, quantified, Operands, no_operands, operands}

-- the variables
abbrev pub place_variable : Name
place_variable = codes "n"

abbrev pub whole_variable : Name
whole_variable = codes "q"

-- the name under which the word is whose letters are those at this position of the images: the position in decimal
abbrev pub word_name : ℕ → Name
word_name r = decimal r

-- k*q + r
abbrev pub place_term : ℕ → ℕ → Term
place_term k r = sum (addends no_addends (product (factors (factors no_factors (times (numeral k))) (times (variable whole_variable)))) plus) (numeral r)

-- n = k*q + r, in this system
abbrev pub is_place : Name → ℕ → ℕ → Formula
is_place s k r = atom (record { system = s; fact = compare (variable place_variable) equal (place_term k r) })

-- the letter at q of the word of position r is this
abbrev pub has_letter : Name → ℕ → ℤ → Formula
has_letter s r b = atom (record { system = s; fact = word_letter (record { word = word_name r; places = terms no_terms (variable whole_variable) }) equal b })

-- for some q, n = k*q + r, and the letter there is this
abbrev pub at_place : Name → ℕ → ℤ → ℕ → Formula
at_place s k b r = quantified some (names no_names whole_variable) (chain (operands no_operands (is_place s k r) and) (has_letter s r b))

-- that for the first so many positions, each with an "or" after it
abbrev pub places_before : Name → ℕ → ℤ → ℕ → Operands
places_before s k b zero = no_operands
places_before s k b (suc r) = operands (places_before s k b r) (at_place s k b r) or

-- for one of the positions 0 to k - 1, of which there is one at least
abbrev pub image_formula : Name → ℕ → ℤ → Formula
image_formula s k b = chain (places_before s k b (k - 1)) (at_place s k b (k - 1))
