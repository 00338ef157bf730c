-- A formula without free variables is true of all numbers or of none.
use Rattle.std.proofs.Common.{◌≡◌, ◌≢◌, ℕ, ◌+◌, ◌<◌, ◌≤◌, ◌==◌, Bool, true, false, not, ◌||◌, ◌&&◌, cond, IsTrue, if◌then◌else◌, List, [], ◌∷◌, ◌++◌, length, map, slice_index_or, Option, None, Some, refl, sym, ◌∙◌, ap, subst, arith, bytes_eq}
use Rattle.std.specs.Option.{option_or}
use Rattle.std.specs.FinMap.{find, get, entries, get-from_entries, get-entries}
use Rattle.std.specs.Cmp.Lexicographic.{slice_cmp, nat_list_cmp_total}
use Rattle.std.specs.Ordering.{nat_cmp, is_eq}
use Rattle.std.proofs.lemmas.Bool.{false≢true, lt-ltb, eqb-true}
use Rattle.std.proofs.lemmas.Map.Text.{is_eq-slice_cmp}
use Rattle.std.proofs.lemmas.Option.{none-some}
use Rattle.std.proofs.lemmas.Slice.Eq.{bytes_eq-Decides}
use Rattle.formula_parse.specs.Tokens.{Name}
use Rattle.formula_parse.specs.Trees.{Names, no_names, names, Term, variable, numeral, product, sum, Factors, no_factors, factors, times, divided, Terms, no_terms, terms, Addends, no_addends, addends, Index, Fact, compare, words, word_letter, letter_word, call, Formula, atom, negated, chain, quantified, marked, Operands, no_operands, operands}
use Rattle.formula_truth.specs.Assignments.{Assignment}
use Rattle.formula_truth.specs.Truth.{Meanings, Holds}
use Rattle.formula_truth.specs.FreeVariables as truth
use Rattle.formula_truth.proofs.AgreementLemmas.{truth_moves}
use Rattle.formula_resolve.specs.declared.fault.ResolveFault.{ResolveFault}
use Rattle.formula_resolve.specs.declared.fault.ResolveFault.TheVariants.{Arity, Plain}
use Rattle.formula_resolve.specs.declared.mention.Mention.{Mention}
use Rattle.formula_resolve.specs.declared.mention.Mention.TheVariants.{Called}
use Rattle.formula_resolve.specs.declared.occurrence.Occurrence.{Occurrence}
use Rattle.formula_resolve.specs.Headers.{Headers, automaton_tracks, word_tracks, is_plain}
use Rattle.formula_resolve.specs.Mentions.{index_mention, mentions, mentions_among, marks, count}
use Rattle.formula_resolve.specs.Arity.{kept_count, misuse, miscount, first_misuse}
use Rattle.formula_resolve.specs.FreeVariables.{free_variables, systems_of, variable_of}
use Rattle.formula_resolve.specs.Occurrences.{is_listed, unbound, term_occurrences, factor_occurrences, addend_occurrences, track_occurrences, place_occurrences, fact_occurrences, all_occurrences, free_of}
use Rattle.formula_resolve.specs.FreeOccurrences.{named, passing, free_in, free_among}
use Rattle.formula_resolve.proofs.FreeLemmas.{passing-append, free_is_unbound}

-- both parts of an empty list are empty
first_none : {X : Type 0} (xs ys : List X) → xs ++ ys ≡ [] → xs ≡ []
first_none [] ys none = refl
first_none (x ∷ xs) ys none = absurd cc

second_none : {X : Type 0} (xs ys : List X) → xs ++ ys ≡ [] → ys ≡ []
second_none [] ys none = none
second_none (x ∷ xs) ys none = absurd cc

-- what is true of one of two
either : (p q : Bool) → IsTrue (p || q) → (IsTrue p → ⊥) → (IsTrue q → ⊥) → ⊥
either true q is first second = first refl
either false q is first second = second is

both_true : (p q : Bool) → IsTrue (p && q) → IsTrue p × IsTrue q
both_true true q is = (refl, is)
both_true false q is = absurd (false≢true is)

never : IsTrue false → ⊥
never is = false≢true is

-- no mention of two lists is a misuse
first_of_none : (o p q : Option ResolveFault) → (p ≡ None → q ≡ None) → option_or o p ≡ None → option_or o q ≡ None
first_of_none None p q more is = more is
first_of_none (Some fault) p q more is = is

rest_of_none : (o p : Option ResolveFault) → option_or o p ≡ None → p ≡ None
rest_of_none None p is = is
rest_of_none (Some fault) p is = absurd (none-some fault (sym is))

pub head_of_none : (o p : Option ResolveFault) → option_or o p ≡ None → o ≡ None
head_of_none None p is = refl
head_of_none (Some fault) p is = is

first_used : (h : Headers) (xs ys : List Mention) → first_misuse h (xs ++ ys) ≡ None → first_misuse h xs ≡ None
first_used h [] ys none = refl
first_used h (x ∷ xs) ys none = first_of_none (misuse h x) (first_misuse h (xs ++ ys)) (first_misuse h xs) (first_used h xs ys) none

second_used : (h : Headers) (xs ys : List Mention) → first_misuse h (xs ++ ys) ≡ None → first_misuse h ys ≡ None
second_used h [] ys none = none
second_used h (x ∷ xs) ys none = second_used h xs ys (rest_of_none (misuse h x) (first_misuse h (xs ++ ys)) none)

head_used : (h : Headers) (m : Mention) (ms : List Mention) → first_misuse h (m ∷ ms) ≡ None → misuse h m ≡ None
head_used h m ms none = head_of_none (misuse h m) (first_misuse h ms) none

tail_used : (h : Headers) (m : Mention) (ms : List Mention) → first_misuse h (m ∷ ms) ≡ None → first_misuse h ms ≡ None
tail_used h m ms none = rest_of_none (misuse h m) (first_misuse h ms) none

-- a name that is used well has as many tracks as are given
none_chosen : (b : Bool) (fault : ResolveFault) → (if b then None else Some fault) ≡ None → b ≡ true
none_chosen true fault is = refl
none_chosen false fault is = absurd (none-some fault (sym is))

other_chosen : (b : Bool) (fault : ResolveFault) (o : Option ResolveFault) → (if b then Some fault else o) ≡ None → o ≡ None
other_chosen true fault o is = absurd (none-some fault (sym is))
other_chosen false fault o is = is

counted : (n : Name) (tracks given : ℕ) → miscount n tracks given ≡ None → tracks ≡ given
counted n tracks given none = eqb-true tracks given (none_chosen (tracks == given) (Arity n (kept_count tracks) (kept_count given)) none)

called : (h : Headers) (n : Name) (k : ℕ) → misuse h (Called n k) ≡ None → length (automaton_tracks h n) ≡ k
called h n k none = counted n (length (automaton_tracks h n)) k (other_chosen (is_plain h n) (Plain n) (miscount n (length (automaton_tracks h n)) k) none)

indexed : (h : Headers) (x : Index) → misuse h (index_mention x) ≡ None → length (word_tracks h x.word) ≡ count x.places
indexed h x none = counted x.word (length (word_tracks h x.word)) (count x.places) none

-- occurrences of which none passes a test have no variable that passes it
module _ (test : Name → Bool) (n : Name) (passes : IsTrue (test n)) where
  abbrev None_in : List Occurrence → Type 0
  None_in os = passing (λ o. test o.name) os ≡ []

  left : (xs ys : List Occurrence) → None_in (xs ++ ys) → None_in xs
  left xs ys none = first_none (passing (λ o. test o.name) xs) (passing (λ o. test o.name) ys) (sym (passing-append (λ o. test o.name) xs ys) ∙ none)

  right : (xs ys : List Occurrence) → None_in (xs ++ ys) → None_in ys
  right xs ys none = second_none (passing (λ o. test o.name) xs) (passing (λ o. test o.name) ys) (sym (passing-append (λ o. test o.name) xs ys) ∙ none)

  one_passes : (o : Occurrence) (b : Bool) → map named (cond b (o ∷ []) []) ≡ [] → IsTrue b → ⊥
  one_passes o true some is = cc
  one_passes o false some is = never is

  one_name : (v s : Name) → None_in (record { name = v; binder = 0; system = s } ∷ []) → IsTrue (bytes_eq v n) → ⊥
  one_name v s none is = one_passes (record { name = v; binder = 0; system = s }) (test v) none (subst (λ (m : Name). IsTrue (test m)) (sym ((bytes_eq-Decides v n).0 is)) passes)

  mutual
    term_apart : (s : Name) (t : Term) → None_in (term_occurrences s unbound t) → IsTrue (truth.occurs_in n t) → ⊥
    term_apart s (variable v) none is = one_name v s none is
    term_apart s (numeral c) none is = never is
    term_apart s (product fs) none is = factors_apart s fs none is
    term_apart s (sum ss t) none is =
        either (truth.occurs_before n ss) (truth.occurs_in n t) is
        (λ here. addends_apart s ss (left (addend_occurrences s unbound ss) (term_occurrences s unbound t) none) here)
        (λ here. term_apart s t (right (addend_occurrences s unbound ss) (term_occurrences s unbound t) none) here)

    factors_apart : (s : Name) (fs : Factors) → None_in (factor_occurrences s unbound fs) → IsTrue (truth.occurs_multiplied n fs) → ⊥
    factors_apart s no_factors none is = never is
    factors_apart s (factors fs (times t)) none is =
        either (truth.occurs_multiplied n fs) (truth.occurs_in n t) is
        (λ here. factors_apart s fs (left (factor_occurrences s unbound fs) (term_occurrences s unbound t) none) here)
        (λ here. term_apart s t (right (factor_occurrences s unbound fs) (term_occurrences s unbound t) none) here)
    factors_apart s (factors fs (divided c)) none is = factors_apart s fs (left (factor_occurrences s unbound fs) [] none) is

    addends_apart : (s : Name) (ss : Addends) → None_in (addend_occurrences s unbound ss) → IsTrue (truth.occurs_before n ss) → ⊥
    addends_apart s no_addends none is = never is
    addends_apart s (addends ss t j) none is =
        either (truth.occurs_before n ss) (truth.occurs_in n t) is
        (λ here. addends_apart s ss (left (addend_occurrences s unbound ss) (term_occurrences s unbound t) none) here)
        (λ here. term_apart s t (right (addend_occurrences s unbound ss) (term_occurrences s unbound t) none) here)

  track_apart : (tracks : List Name) (k : ℕ) (t : Term) → k < length tracks → None_in (track_occurrences tracks unbound k t) → IsTrue (truth.occurs_in n t) → ⊥
  track_apart tracks k t within none is = term_apart (slice_index_or tracks k []) t (subst (λ (b : Bool). None_in (cond b (term_occurrences (slice_index_or tracks k []) unbound t) [])) (lt-ltb k (length tracks) within) none) is

  places_apart : (tracks : List Name) (ts : Terms) → count ts ≤ length tracks → None_in (place_occurrences tracks unbound ts) → IsTrue (truth.occurs_among n ts) → ⊥
  places_apart tracks no_terms few none is = never is
  places_apart tracks (terms ts t) few none is =
      either (truth.occurs_among n ts) (truth.occurs_in n t) is
      (λ here. places_apart tracks ts (omega (arith, few)) (left (place_occurrences tracks unbound ts) (track_occurrences tracks unbound (count ts) t) none) here)
      (λ here. track_apart tracks (count ts) t (omega (arith, few)) (right (place_occurrences tracks unbound ts) (track_occurrences tracks unbound (count ts) t) none) here)

  places_used : (tracks : List Name) (ts : Terms) → length tracks ≡ count ts → None_in (place_occurrences tracks unbound ts) → IsTrue (truth.occurs_among n ts) → ⊥
  places_used tracks ts same none is = places_apart tracks ts (omega (arith, same)) none is

  fact_apart : (h : Headers) (s : Name) (x : Fact) → first_misuse h (mentions (atom (record { system = s; fact = x }))) ≡ None → None_in (fact_occurrences h unbound s x) → IsTrue (truth.occurs_there n x) → ⊥
  fact_apart h s (compare t r u) used none is =
      either (truth.occurs_in n t) (truth.occurs_in n u) is
      (λ here. term_apart s t (left (term_occurrences s unbound t) (term_occurrences s unbound u) none) here)
      (λ here. term_apart s u (right (term_occurrences s unbound t) (term_occurrences s unbound u) none) here)
  fact_apart h s (words x r y) used none is =
      either (truth.occurs_among n x.places) (truth.occurs_among n y.places) is
      (λ here. places_used (word_tracks h x.word) x.places (indexed h x (head_used h (index_mention x) (index_mention y ∷ []) used)) (left (place_occurrences (word_tracks h x.word) unbound x.places) (place_occurrences (word_tracks h y.word) unbound y.places) none) here)
      (λ here. places_used (word_tracks h y.word) y.places (indexed h y (head_used h (index_mention y) [] (tail_used h (index_mention x) (index_mention y ∷ []) used))) (right (place_occurrences (word_tracks h x.word) unbound x.places) (place_occurrences (word_tracks h y.word) unbound y.places) none) here)
  fact_apart h s (word_letter x r l) used none is = places_used (word_tracks h x.word) x.places (indexed h x (head_used h (index_mention x) [] used)) none is
  fact_apart h s (letter_word l r x) used none is = places_used (word_tracks h x.word) x.places (indexed h x (head_used h (index_mention x) [] used)) none is
  fact_apart h s (call f ts) used none is = places_used (automaton_tracks h f) ts (called h f (count ts) (head_used h (Called f (count ts)) [] used)) none is

-- a name is listed by both definitions
listed_there : (n : Name) (ns : Names) → IsTrue (not (truth.is_listed n ns)) → IsTrue (not (is_listed n ns))
listed_there n no_names is = is
listed_there n (names ns v) is = by (truth.is_listed n ns) (is_listed n ns) (bytes_eq v n) (bytes_eq n v) (listed_there n ns) same is
  where
    same : bytes_eq n v ≡ bytes_eq v n
    same = both (bytes_eq n v) (bytes_eq v n) refl refl
      where
        both : (p q : Bool) → bytes_eq n v ≡ p → bytes_eq v n ≡ q → p ≡ q
        both true true e g = refl
        both false false e g = refl
        both true false e g = absurd (false≢true (sym g ∙ (bytes_eq-Decides v n).1 (sym ((bytes_eq-Decides n v).0 e))))
        both false true e g = absurd (false≢true (sym e ∙ (bytes_eq-Decides n v).1 (sym ((bytes_eq-Decides v n).0 g))))

    by : (p q b c : Bool) → (IsTrue (not p) → IsTrue (not q)) → c ≡ b → IsTrue (not (p || b)) → IsTrue (not (q || c))
    by true q b c more e is = absurd (never is)
    by false true b c more e is = absurd (never (more refl))
    by false false true c more e is = absurd (never is)
    by false false false c more e is = subst (λ (x : Bool). IsTrue (not x)) (sym e) refl

-- where no occurrence is free, no variable is
mutual
  none_free : (h : Headers) (f : Formula) (test : Name → Bool) → first_misuse h (mentions f) ≡ None → free_in h test f ≡ [] → (n : Name) → IsTrue (test n) → IsTrue (truth.is_free n f) → ⊥
  none_free h (atom x) test used none n passes is = fact_apart test n passes h x.system x.fact used none is
  none_free h (negated f) test used none n passes is = none_free h f test used none n passes is
  none_free h (chain os f) test used none n passes is =
      either (truth.is_free_among n os) (truth.is_free n f) is
      (λ here. none_among h os test (first_used h (mentions_among os) (mentions f) used) (first_none (free_among h test os) (free_in h test f) none) n passes here)
      (λ here. none_free h f test (second_used h (mentions_among os) (mentions f) used) (second_none (free_among h test os) (free_in h test f) none) n passes here)
  none_free h (quantified q ns f) test used none n passes is =
      let parts : IsTrue (not (truth.is_listed n ns)) × IsTrue (truth.is_free n f) = both_true (not (truth.is_listed n ns)) (truth.is_free n f) is in
      none_free h f (λ m. not (is_listed m ns) && test m) used none n (and_true (not (is_listed n ns)) (test n) (listed_there n ns parts.0) passes) parts.1
    where
      and_true : (p q : Bool) → IsTrue p → IsTrue q → IsTrue (p && q)
      and_true true q one other = other
      and_true false q one other = absurd (never one)
  none_free h (marked ms f) test used none n passes is = none_free h f test (second_used h (marks ms) (mentions f) used) none n passes is

  none_among : (h : Headers) (os : Operands) (test : Name → Bool) → first_misuse h (mentions_among os) ≡ None → free_among h test os ≡ [] → (n : Name) → IsTrue (test n) → IsTrue (truth.is_free_among n os) → ⊥
  none_among h no_operands test used none n passes is = never is
  none_among h (operands os f j) test used none n passes is =
      either (truth.is_free_among n os) (truth.is_free n f) is
      (λ here. none_among h os test (first_used h (mentions_among os) (mentions f) used) (first_none (free_among h test os) (free_in h test f) none) n passes here)
      (λ here. none_free h f test (second_used h (mentions_among os) (mentions f) used) (second_none (free_among h test os) (free_in h test f) none) n passes here)

-- a list of occurrences with no system has no occurrence
no_occurrence : (os : List Occurrence) → entries (systems_of os) ≡ [] → os ≡ []
no_occurrence [] none = refl
no_occurrence (o ∷ os) none =
    let es : List (Name × Name) = map (λ (p : Occurrence). (p.name, p.system)) (o ∷ os) in
    let same : is_eq (slice_cmp nat_cmp o.name o.name) ≡ true = is_eq-slice_cmp o.name o.name ∙ (bytes_eq-Decides o.name o.name).1 refl in
    let some : find (slice_cmp nat_cmp) o.name es ≡ Some o.system = ap (λ (b : Bool). cond b (Some o.system) (find (slice_cmp nat_cmp) o.name (map (λ (p : Occurrence). (p.name, p.system)) os))) same in
    let there : find (slice_cmp nat_cmp) o.name (entries (systems_of (o ∷ os))) ≡ None = ap (find (slice_cmp nat_cmp) o.name) none in
    absurd (none-some o.system (sym there ∙ sym (get-entries (systems_of (o ∷ os)) o.name) ∙ get-from_entries nat_list_cmp_total es o.name ∙ some))

-- without free variables truth is the same of all numbers
pub closed_moves : (h : Headers) (f : Formula) → first_misuse h (mentions f) ≡ None → free_variables (all_occurrences h f) ≡ [] → (m : Meanings) (a b : Assignment) → Holds m f a → Holds m f b
closed_moves h f used none m a b holds =
    truth_moves f m a b (λ n free. absurd (none_free h f (λ m. true) used no_free n refl free)) holds
  where
    empty : {X Y : Type 0} (g : X → Y) (xs : List X) → map g xs ≡ [] → xs ≡ []
    empty g [] is = refl
    empty g (x ∷ xs) is = absurd cc

    no_free : free_in h (λ m. true) f ≡ []
    no_free = sym (free_is_unbound h unbound 1 f) ∙ ap (map named) (no_occurrence (free_of 1 (all_occurrences h f)) (empty variable_of (entries (systems_of (free_of 1 (all_occurrences h f)))) none))
