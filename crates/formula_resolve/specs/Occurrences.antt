-- The occurrences of variables in a formula, from left to right, each with its binding and the system at its place.
use Rattle.std.specs.Prelude.{ℕ, ◌+◌, nat_lt, Bool, false, ◌||◌, List, [], ◌∷◌, ◌++◌, length, slice_index_or, if◌then◌else◌}
use Rattle.std.specs.List.{filter}
use Rattle.std.specs.Str.{bytes_eq}
use Rattle.formula_parse.specs.Tokens.{Name}
use Rattle.formula_parse.specs.Trees.{Names, no_names, names, Term, variable, numeral, product, sum, Factors, Factor, no_factors, factors, times, divided, Terms, no_terms, terms, Addends, no_addends, addends, Fact, compare, words, word_letter, letter_word, call, Formula, atom, negated, chain, quantified, marked, Operands, no_operands, operands}
use Rattle.formula_resolve.specs.Headers.{Headers, automaton_tracks, word_tracks}
use Rattle.formula_resolve.specs.Mentions.{count}
use Rattle.formula_resolve.specs.declared.occurrence.Occurrence.{Occurrence}

-- The number of the quantifier that binds each variable, 0 where none does. Quantifiers are numbered from 1 in the order of the text.
abbrev pub Binders : Type 0
Binders = Name → ℕ

abbrev pub unbound : Binders
unbound = λ n. 0

abbrev pub is_listed : Name → Names → Bool
is_listed m no_names = false
is_listed m (names ns n) = is_listed m ns || bytes_eq m n

-- the quantifier of this number binds these variables
abbrev pub bound_by : ℕ → Names → Binders → Binders
bound_by k ns b = λ m. if is_listed m ns then k else b m

abbrev mutual
  -- in a term over a system
  pub term_occurrences : Name → Binders → Term → List Occurrence
  term_occurrences s b (variable n) = record { name = n; binder = b n; system = s } ∷ []
  term_occurrences s b (numeral c) = []
  term_occurrences s b (product fs) = factor_occurrences s b fs
  term_occurrences s b (sum ss t) = addend_occurrences s b ss ++ term_occurrences s b t

  pub factor_occurrences : Name → Binders → Factors → List Occurrence
  factor_occurrences s b no_factors = []
  factor_occurrences s b (factors fs f) = factor_occurrences s b fs ++ factor_of s b f

  pub factor_of : Name → Binders → Factor → List Occurrence
  factor_of s b (times t) = term_occurrences s b t
  factor_of s b (divided c) = []

  pub addend_occurrences : Name → Binders → Addends → List Occurrence
  addend_occurrences s b no_addends = []
  addend_occurrences s b (addends ss t j) = addend_occurrences s b ss ++ term_occurrences s b t

-- in a term on the track of this number, over its system; nothing is said where there is no such track
abbrev pub track_occurrences : List Name → Binders → ℕ → Term → List Occurrence
track_occurrences tracks b k t = if nat_lt k (length tracks) then term_occurrences (slice_index_or tracks k []) b t else []

-- in arguments or indices, each over the system of its track
abbrev pub place_occurrences : List Name → Binders → Terms → List Occurrence
place_occurrences tracks b no_terms = []
place_occurrences tracks b (terms ts t) = place_occurrences tracks b ts ++ track_occurrences tracks b (count ts) t

abbrev pub fact_occurrences : Headers → Binders → Name → Fact → List Occurrence
fact_occurrences h b s (compare t r u) = term_occurrences s b t ++ term_occurrences s b u
fact_occurrences h b s (words x r y) = place_occurrences (word_tracks h x.word) b x.places ++ place_occurrences (word_tracks h y.word) b y.places
fact_occurrences h b s (word_letter x r l) = place_occurrences (word_tracks h x.word) b x.places
fact_occurrences h b s (letter_word l r x) = place_occurrences (word_tracks h x.word) b x.places
fact_occurrences h b s (call n ts) = place_occurrences (automaton_tracks h n) b ts

-- the occurrences of a part, and the number of the next quantifier after it
pub record PartOccurrences : Type 0 where
  pub list : List Occurrence
  pub next : ℕ

abbrev mutual
  -- in a formula whose first quantifier has this number
  pub occurrences : Headers → Binders → ℕ → Formula → PartOccurrences
  occurrences h b k (atom x) = record { list = fact_occurrences h b x.system x.fact; next = k }
  occurrences h b k (negated f) = occurrences h b k f
  occurrences h b k (chain os f) =
      let prefix = occurrences_among h b k os in
      let last = occurrences h b prefix.next f in
      record { list = prefix.list ++ last.list; next = last.next }
  occurrences h b k (quantified q ns f) = occurrences h (bound_by k ns b) (k + 1) f
  occurrences h b k (marked ms f) = occurrences h b k f

  pub occurrences_among : Headers → Binders → ℕ → Operands → PartOccurrences
  occurrences_among h b k no_operands = record { list = []; next = k }
  occurrences_among h b k (operands os f j) =
      let prefix = occurrences_among h b k os in
      let last = occurrences h b prefix.next f in
      record { list = prefix.list ++ last.list; next = last.next }

-- those of a part that no quantifier of the part binds, where its first quantifier has this number
abbrev pub free_of : ℕ → List Occurrence → List Occurrence
free_of k os = filter (λ o. nat_lt o.binder k) os

-- the occurrences in a whole formula
abbrev pub all_occurrences : Headers → Formula → List Occurrence
all_occurrences h f = (occurrences h unbound 1 f).list
