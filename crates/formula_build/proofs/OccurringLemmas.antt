-- The variables that occur free in a formula are the own tracks of its plan.
use Rattle.std.specs.Prelude.{nat_lt}
use Rattle.std.specs.List.{AllByRecursion, filter}
use Rattle.std.specs.Str.{bytes_eq}
use Rattle.std.proofs.Common.{◌≡◌, ◌≤◌, Bool, true, false, ◌&&◌, not, if◌then◌else◌, List, [], ◌++◌, length, slice_index_or, refl, ap, ◌∙◌, arith}
use Rattle.std.proofs.lemmas.Bool.{false≢true}
use Rattle.std.proofs.lemmas.Cmp.{nat_list_eq_equiv}
use Rattle.std.proofs.lemmas.Slice.Eq.{bytes_eq-Decides}
use Rattle.formula_parse.specs.Tokens.{Name}
use Rattle.formula_parse.specs.Trees.{Names, no_names, names, Term, variable, numeral, product, sum, Factors, no_factors, factors, times, divided, Terms, no_terms, terms, Addends, no_addends, addends, Fact, compare, words, word_letter, letter_word, call, Formula, atom, negated, chain, quantified, marked, Operands, no_operands, operands}
use Rattle.term_plans.specs.Linear.{others, IsLinear, AreLinearFactors, AreLinearAddends, AreLinear, IsLinearFact, IsLinearFormula, AreLinearOperands}
use Rattle.formula_plan.specs.OwnNames.{own_names, own_multiplied, own_before, own_among, own_there, without_name, without_all, has_name, own_of, own_operands}
use Rattle.formula_plan.proofs.OwnTracks.{named_both, without_named, first_no, second_no}
use Rattle.term_plans.proofs.TrackLemmas.{or_left, or_right}
use Rattle.formula_resolve.specs.Headers.{Headers, automaton_tracks, word_tracks}
use Rattle.formula_resolve.specs.Mentions.{count}
use Rattle.formula_resolve.specs.Occurrences.{Binders, unbound, is_listed, term_occurrences, factor_occurrences, addend_occurrences, track_occurrences, place_occurrences, fact_occurrences}
use Rattle.formula_resolve.specs.FreeOccurrences.{named, free_in, free_among}
use Rattle.formula_resolve.specs.declared.occurrence.Occurrence.{Occurrence}
use Rattle.plan_relations.proofs.AllLemmas.{all_both, all_more, all_map, all_filter}

abbrev HasName : List Name → Name → Type 0
HasName ms n = has_name ms n ≡ true

has_first : (ms ns : List Name) (n : Name) → HasName ms n → HasName (ms ++ ns) n
has_first ms ns n is = named_both ms ns n ∙ or_left (has_name ms n) (has_name ns n) is

has_second : (ms ns : List Name) (n : Name) → HasName ns n → HasName (ms ++ ns) n
has_second ms ns n is = named_both ms ns n ∙ or_right (has_name ms n) (has_name ns n) is

-- the variables of all occurrences are among these
abbrev AreAmong : List Name → List Occurrence → Type 0
AreAmong ms os = AllByRecursion (λ (o : Occurrence). HasName ms o.name) os

both_among : (ms ns : List Name) (os ps : List Occurrence) → AreAmong ms os → AreAmong ns ps → AreAmong (ms ++ ns) (os ++ ps)
both_among ms ns os ps first second =
    all_both (λ (o : Occurrence). HasName (ms ++ ns) o.name) os ps
    (all_more (λ (o : Occurrence). HasName ms o.name) (λ (o : Occurrence). HasName (ms ++ ns) o.name) (λ o is. has_first ms ns o.name is) os first)
    (all_more (λ (o : Occurrence). HasName ns o.name) (λ (o : Occurrence). HasName (ms ++ ns) o.name) (λ o is. has_second ms ns o.name is) ps second)

-- no occurrence
abbrev AreNone : List Occurrence → Type 0
AreNone os = AllByRecursion (λ (o : Occurrence). ⊥) os

after_none : (ms : List Name) (os ps : List Occurrence) → AreNone os → AreAmong ms ps → AreAmong ms (os ++ ps)
after_none ms os ps none all =
    all_both (λ (o : Occurrence). HasName ms o.name) os ps (all_more (λ (o : Occurrence). ⊥) (λ (o : Occurrence). HasName ms o.name) (λ o never. absurd never) os none) all

module _ (s : Name) (b : Binders) where
  -- where no factor is another than a numeral
  no_others : (fs : Factors) → others fs ≡ 0 → AreNone (factor_occurrences s b fs)
  no_others no_factors none = tt
  no_others (factors fs (times (numeral c))) none = all_both (λ (o : Occurrence). ⊥) (factor_occurrences s b fs) [] (no_others fs none) tt
  no_others (factors fs (divided c)) none = absurd (omega (arith, none))
  no_others (factors fs (times (variable n))) none = absurd (omega (arith, none))
  no_others (factors fs (times (product gs))) none = absurd (omega (arith, none))
  no_others (factors fs (times (sum ss t))) none = absurd (omega (arith, none))

  mutual
    term_among : (t : Term) → IsLinear t → AreAmong (own_names t) (term_occurrences s b t)
    term_among (variable n) linear = (or_left (bytes_eq n n) false ((bytes_eq-Decides n n).1 refl), tt)
    term_among (numeral c) linear = tt
    term_among (product fs) linear = factors_among fs linear.0 linear.1
    term_among (sum ss t) linear = both_among (own_before ss) (own_names t) (addend_occurrences s b ss) (term_occurrences s b t) (addends_among ss linear.0) (term_among t linear.1)

    factors_among : (fs : Factors) → others fs ≤ 1 → AreLinearFactors fs → AreAmong (own_multiplied fs) (factor_occurrences s b fs)
    factors_among no_factors few linear = tt
    factors_among (factors fs (times (numeral c))) few linear =
        all_both (λ (o : Occurrence). HasName (own_multiplied fs) o.name) (factor_occurrences s b fs) [] (factors_among fs few linear.0) tt
    factors_among (factors fs (divided c)) few linear =
        all_both (λ (o : Occurrence). HasName (own_multiplied fs) o.name) (factor_occurrences s b fs) [] (factors_among fs (omega (arith, few)) linear) tt
    factors_among (factors fs (times (variable n))) few linear =
        after_none (own_names (variable n)) (factor_occurrences s b fs) (term_occurrences s b (variable n)) (no_others fs (omega (arith, few))) (term_among (variable n) linear.1)
    factors_among (factors fs (times (product gs))) few linear =
        after_none (own_names (product gs)) (factor_occurrences s b fs) (term_occurrences s b (product gs)) (no_others fs (omega (arith, few))) (term_among (product gs) linear.1)
    factors_among (factors fs (times (sum ss t))) few linear =
        after_none (own_names (sum ss t)) (factor_occurrences s b fs) (term_occurrences s b (sum ss t)) (no_others fs (omega (arith, few))) (term_among (sum ss t) linear.1)

    addends_among : (ss : Addends) → AreLinearAddends ss → AreAmong (own_before ss) (addend_occurrences s b ss)
    addends_among no_addends linear = tt
    addends_among (addends ss t sign) linear = both_among (own_before ss) (own_names t) (addend_occurrences s b ss) (term_occurrences s b t) (addends_among ss linear.0) (term_among t linear.1)

places_among : (tracks : List Name) (b : Binders) (ts : Terms) → AreLinear ts → AreAmong (own_among ts) (place_occurrences tracks b ts)
places_among tracks b no_terms linear = tt
places_among tracks b (terms ts t) linear =
    both_among (own_among ts) (own_names t) (place_occurrences tracks b ts) (track_occurrences tracks b (count ts) t) (places_among tracks b ts linear.0) (by (nat_lt (count ts) (length tracks)))
  where
    by : (c : Bool) → AreAmong (own_names t) (if c then term_occurrences (slice_index_or tracks (count ts) []) b t else [])
    by true = term_among (slice_index_or tracks (count ts) []) b t linear.1
    by false = tt

fact_among : (h : Headers) (b : Binders) (s : Name) (x : Fact) → IsLinearFact x → AreAmong (own_there x) (fact_occurrences h b s x)
fact_among h b s (compare t r u) linear = both_among (own_names t) (own_names u) (term_occurrences s b t) (term_occurrences s b u) (term_among s b t linear.0) (term_among s b u linear.1)
fact_among h b s (words x r y) linear =
    both_among (own_among x.places) (own_among y.places) (place_occurrences (word_tracks h x.word) b x.places) (place_occurrences (word_tracks h y.word) b y.places)
    (places_among (word_tracks h x.word) b x.places linear.0) (places_among (word_tracks h y.word) b y.places linear.1)
fact_among h b s (word_letter x r l) linear = places_among (word_tracks h x.word) b x.places linear
fact_among h b s (letter_word l r x) linear = places_among (word_tracks h x.word) b x.places linear
fact_among h b s (call n ts) linear = places_among (automaton_tracks h n) b ts linear

-- of variables and their systems, that the variables pass a test and are among these
abbrev ArePassing : (Name → Bool) → List Name → List (Name × Name) → Type 0
ArePassing test ms es = AllByRecursion (λ (e : Name × Name). (test e.0 ≡ true) × HasName ms e.0) es

both_passing : (test : Name → Bool) (ms ns : List Name) (es fs : List (Name × Name)) → ArePassing test ms es → ArePassing test ns fs → ArePassing test (ms ++ ns) (es ++ fs)
both_passing test ms ns es fs first second =
    all_both (λ (e : Name × Name). (test e.0 ≡ true) × HasName (ms ++ ns) e.0) es fs
    (all_more (λ (e : Name × Name). (test e.0 ≡ true) × HasName ms e.0) (λ (e : Name × Name). (test e.0 ≡ true) × HasName (ms ++ ns) e.0) (λ e is. (is.0, has_first ms ns e.0 is.1)) es first)
    (all_more (λ (e : Name × Name). (test e.0 ≡ true) × HasName ns e.0) (λ (e : Name × Name). (test e.0 ≡ true) × HasName (ms ++ ns) e.0) (λ e is. (is.0, has_second ms ns e.0 is.1)) fs second)

-- a name that is not listed stays
stays_without : (ns : Names) (ms : List Name) (n : Name) → is_listed n ns ≡ false → HasName ms n → HasName (without_all ns ms) n
stays_without no_names ms n none is = is
stays_without (names ns m) ms n none is =
    stays_without ns (without_name m ms) n (first_no (is_listed n ns) (bytes_eq n m) none)
    (without_named m ms n ∙ ap (λ (c : Bool). not c && has_name ms n) (nat_list_eq_equiv.symm m n ∙ second_no (is_listed n ns) (bytes_eq n m) none) ∙ is)

not_and : (p q : Bool) → (not p && q) ≡ true → (p ≡ false) × (q ≡ true)
not_and true q is = absurd (false≢true is)
not_and false q is = (refl, is)

mutual
  -- the free variables of a formula that is linear are among the own tracks of its plan
  pub free_own : (h : Headers) (test : Name → Bool) (f : Formula) → IsLinearFormula f → ArePassing test (own_of f) (free_in h test f)
  free_own h test (atom x) linear =
      all_map (λ (e : Name × Name). (test e.0 ≡ true) × HasName (own_there x.fact) e.0) named (filter (λ (o : Occurrence). test o.name) (fact_occurrences h unbound x.system x.fact))
      (all_more (λ (o : Occurrence). HasName (own_there x.fact) o.name × (test o.name ≡ true)) (λ (o : Occurrence). (test o.name ≡ true) × HasName (own_there x.fact) o.name) (λ o is. (is.1, is.0))
      (filter (λ (o : Occurrence). test o.name) (fact_occurrences h unbound x.system x.fact))
      (all_filter (λ (o : Occurrence). HasName (own_there x.fact) o.name) (λ (o : Occurrence). test o.name) (fact_occurrences h unbound x.system x.fact) (fact_among h unbound x.system x.fact linear)))
  free_own h test (negated f) linear = free_own h test f linear
  free_own h test (chain os f) linear = both_passing test (own_operands os) (own_of f) (free_among h test os) (free_in h test f) (operands_own h test os linear.0) (free_own h test f linear.1)
  free_own h test (quantified q ns f) linear =
      let inside : Name → Bool = λ n. not (is_listed n ns) && test n in
      all_more (λ (e : Name × Name). (inside e.0 ≡ true) × HasName (own_of f) e.0) (λ (e : Name × Name). (test e.0 ≡ true) × HasName (without_all ns (own_of f)) e.0)
      (λ e is. let parts = not_and (is_listed e.0 ns) (test e.0) is.0 in (parts.1, stays_without ns (own_of f) e.0 parts.0 is.1))
      (free_in h inside f) (free_own h inside f linear)
  free_own h test (marked ms f) linear = free_own h test f linear

  operands_own : (h : Headers) (test : Name → Bool) (os : Operands) → AreLinearOperands os → ArePassing test (own_operands os) (free_among h test os)
  operands_own h test no_operands linear = tt
  operands_own h test (operands os f j) linear = both_passing test (own_operands os) (own_of f) (free_among h test os) (free_in h test f) (operands_own h test os linear.0) (free_own h test f linear.1)
