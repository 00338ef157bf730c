-- Which occurrences are free, by the numbers of their quantifiers.
use Rattle.std.proofs.Common.{◌≡◌, refl, sym, ap, ◌∙◌, ℕ, ◌+◌, ◌≤◌, Bool, true, false, not, ◌&&◌, nat_lt, cond, if◌then◌else◌, List, [], ◌∷◌, ◌++◌, map, length, slice_index_or, arith}
use Rattle.std.proofs.lemmas.List.{map-append}
use Rattle.std.proofs.lemmas.List.Elements.{filter-append}
use Rattle.std.proofs.lemmas.Bool.{le-ltb}
use Rattle.std.specs.List.{filter}
use Rattle.formula_parse.specs.Tokens.{Name}
use Rattle.formula_parse.specs.Trees.{Term, variable, numeral, product, sum, Factors, Factor, no_factors, factors, times, divided, Terms, no_terms, terms, Addends, no_addends, addends, Fact, compare, words, word_letter, letter_word, call, Formula, atom, negated, chain, quantified, marked, Operands, no_operands, operands}
use Rattle.formula_resolve.specs.Headers.{Headers, automaton_tracks, word_tracks}
use Rattle.formula_resolve.specs.Mentions.{count}
use Rattle.formula_resolve.specs.Occurrences.{Binders, unbound, is_listed, bound_by, term_occurrences, factor_occurrences, factor_of, addend_occurrences, track_occurrences, place_occurrences, fact_occurrences, occurrences, occurrences_among}
use Rattle.formula_resolve.specs.FreeOccurrences.{named, passing, free_in, free_among}
use Rattle.formula_resolve.specs.Laws.{FreeIsUnbound}
use Rattle.formula_resolve.specs.declared.occurrence.Occurrence.{Occurrence}

pub passing-append : (p : Occurrence → Bool) (xs ys : List Occurrence) → passing p (xs ++ ys) ≡ passing p xs ++ passing p ys
passing-append p xs ys = ap (map named) (filter-append p xs ys) ∙ map-append named (filter p xs) (filter p ys)

both : (p q : Occurrence → Bool) (xs ys vs ws : List Occurrence) → passing p xs ≡ passing q vs → passing p ys ≡ passing q ws → passing p (xs ++ ys) ≡ passing q (vs ++ ws)
both p q xs ys vs ws first second = passing-append p xs ys ∙ (λ i. first i ++ second i) ∙ sym (passing-append q vs ws)

-- an occurrence is free where its quantifier's number is below this one
abbrev below : ℕ → Occurrence → Bool
below k o = nat_lt o.binder k

abbrev unbound_below : ℕ → Binders → Occurrence → Bool
unbound_below k b o = nat_lt (b o.name) k

one_free : (t : Bool) (o p : Occurrence) → named o ≡ named p → map named (cond t (o ∷ []) []) ≡ map named (cond t (p ∷ []) [])
one_free true o p same = ap (λ n. n ∷ []) same
one_free false o p same = refl

module _ (s : Name) (b : Binders) (k : ℕ) where
  mutual
    term_free : (t : Term) → passing (below k) (term_occurrences s b t) ≡ passing (unbound_below k b) (term_occurrences s unbound t)
    term_free (variable n) = one_free (nat_lt (b n) k) (record { name = n; binder = b n; system = s }) (record { name = n; binder = 0; system = s }) refl
    term_free (numeral c) = refl
    term_free (product fs) = factors_free fs
    term_free (sum ss t) = both (below k) (unbound_below k b) (addend_occurrences s b ss) (term_occurrences s b t) (addend_occurrences s unbound ss) (term_occurrences s unbound t) (addends_free ss) (term_free t)

    factors_free : (fs : Factors) → passing (below k) (factor_occurrences s b fs) ≡ passing (unbound_below k b) (factor_occurrences s unbound fs)
    factors_free no_factors = refl
    factors_free (factors fs f) = both (below k) (unbound_below k b) (factor_occurrences s b fs) (factor_of s b f) (factor_occurrences s unbound fs) (factor_of s unbound f) (factors_free fs) (factor_free f)

    factor_free : (f : Factor) → passing (below k) (factor_of s b f) ≡ passing (unbound_below k b) (factor_of s unbound f)
    factor_free (times t) = term_free t
    factor_free (divided c) = refl

    addends_free : (ss : Addends) → passing (below k) (addend_occurrences s b ss) ≡ passing (unbound_below k b) (addend_occurrences s unbound ss)
    addends_free no_addends = refl
    addends_free (addends ss t j) = both (below k) (unbound_below k b) (addend_occurrences s b ss) (term_occurrences s b t) (addend_occurrences s unbound ss) (term_occurrences s unbound t) (addends_free ss) (term_free t)

track_free : (there : Bool) (s : Name) (b : Binders) (k : ℕ) (t : Term) → passing (below k) (cond there (term_occurrences s b t) []) ≡ passing (unbound_below k b) (cond there (term_occurrences s unbound t) [])
track_free true s b k t = term_free s b k t
track_free false s b k t = refl

places_free : (tracks : List Name) (b : Binders) (k : ℕ) (ts : Terms) → passing (below k) (place_occurrences tracks b ts) ≡ passing (unbound_below k b) (place_occurrences tracks unbound ts)
places_free tracks b k no_terms = refl
places_free tracks b k (terms ts t) =
    both (below k) (unbound_below k b) (place_occurrences tracks b ts) (track_occurrences tracks b (count ts) t) (place_occurrences tracks unbound ts) (track_occurrences tracks unbound (count ts) t)
    (places_free tracks b k ts) (track_free (nat_lt (count ts) (length tracks)) (slice_index_or tracks (count ts) []) b k t)

fact_free : (h : Headers) (b : Binders) (k : ℕ) (s : Name) (x : Fact) → passing (below k) (fact_occurrences h b s x) ≡ passing (unbound_below k b) (fact_occurrences h unbound s x)
fact_free h b k s (compare t r u) = both (below k) (unbound_below k b) (term_occurrences s b t) (term_occurrences s b u) (term_occurrences s unbound t) (term_occurrences s unbound u) (term_free s b k t) (term_free s b k u)
fact_free h b k s (words x r y) =
    both (below k) (unbound_below k b) (place_occurrences (word_tracks h x.word) b x.places) (place_occurrences (word_tracks h y.word) b y.places)
    (place_occurrences (word_tracks h x.word) unbound x.places) (place_occurrences (word_tracks h y.word) unbound y.places)
    (places_free (word_tracks h x.word) b k x.places) (places_free (word_tracks h y.word) b k y.places)
fact_free h b k s (word_letter x r l) = places_free (word_tracks h x.word) b k x.places
fact_free h b k s (letter_word l r x) = places_free (word_tracks h x.word) b k x.places
fact_free h b k s (call n ts) = places_free (automaton_tracks h n) b k ts

-- the numbers of quantifiers grow
mutual
  next_grows : (h : Headers) (b : Binders) (j : ℕ) (f : Formula) → j ≤ (occurrences h b j f).next
  next_grows h b j (atom x) = omega arith
  next_grows h b j (negated f) = next_grows h b j f
  next_grows h b j (chain os f) = omega (arith, next_among h b j os, next_grows h b (occurrences_among h b j os).next f)
  next_grows h b j (quantified q ns f) = omega (arith, next_grows h (bound_by j ns b) (j + 1) f)
  next_grows h b j (marked ms f) = next_grows h b j f

  next_among : (h : Headers) (b : Binders) (j : ℕ) (os : Operands) → j ≤ (occurrences_among h b j os).next
  next_among h b j no_operands = omega arith
  next_among h b j (operands os f k) = omega (arith, next_among h b j os, next_grows h b (occurrences_among h b j os).next f)

bound_test : (listed : Bool) (j k n : ℕ) → k ≤ j → nat_lt (if listed then j else n) k ≡ (not listed && nat_lt n k)
bound_test true j k n past = le-ltb j k past
bound_test false j k n past = refl

split : (k : ℕ) (xs ys : List Occurrence) (vs ws : List (Name × Name)) → passing (below k) xs ≡ vs → passing (below k) ys ≡ ws → passing (below k) (xs ++ ys) ≡ vs ++ ws
split k xs ys vs ws first second = passing-append (below k) xs ys ∙ (λ i. first i ++ second i)

mutual
  pub formula_free : (h : Headers) (b : Binders) (k j : ℕ) (f : Formula) → k ≤ j → passing (below k) (occurrences h b j f).list ≡ free_in h (λ n. nat_lt (b n) k) f
  formula_free h b k j (atom x) past = fact_free h b k x.system x.fact
  formula_free h b k j (negated f) past = formula_free h b k j f past
  formula_free h b k j (chain os f) past =
      split k (occurrences_among h b j os).list (occurrences h b (occurrences_among h b j os).next f).list (free_among h (λ n. nat_lt (b n) k) os) (free_in h (λ n. nat_lt (b n) k) f)
      (among_free h b k j os past) (formula_free h b k (occurrences_among h b j os).next f (omega (arith, past, next_among h b j os)))
  formula_free h b k j (quantified q ns f) past =
      formula_free h (bound_by j ns b) k (j + 1) f (omega (arith, past))
      ∙ ap (λ test. free_in h test f) (λ i n. bound_test (is_listed n ns) j k (b n) past i)
  formula_free h b k j (marked ms f) past = formula_free h b k j f past

  among_free : (h : Headers) (b : Binders) (k j : ℕ) (os : Operands) → k ≤ j → passing (below k) (occurrences_among h b j os).list ≡ free_among h (λ n. nat_lt (b n) k) os
  among_free h b k j no_operands past = refl
  among_free h b k j (operands os f c) past =
      split k (occurrences_among h b j os).list (occurrences h b (occurrences_among h b j os).next f).list (free_among h (λ n. nat_lt (b n) k) os) (free_in h (λ n. nat_lt (b n) k) f)
      (among_free h b k j os past) (formula_free h b k (occurrences_among h b j os).next f (omega (arith, past, next_among h b j os)))

pub free_is_unbound : FreeIsUnbound
free_is_unbound h b k f = formula_free h b k k f (omega arith)
