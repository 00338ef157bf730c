-- Over which system a variable is where it occurs first, free.
use Rattle.std.specs.Prelude.{nat_lt}
use Rattle.std.specs.List.{AllByRecursion, Contains}
use Rattle.std.specs.Str.{bytes_eq}
use Rattle.std.proofs.lemmas.Bool.{false≢true, lt-ltb}
use Rattle.std.proofs.lemmas.Option.{none-some, same_Some}
use Rattle.std.proofs.lemmas.Slice.Eq.{bytes_eq-Decides}
use Rattle.std.proofs.Common.{◌≡◌, ℕ, ◌+◌, ◌<◌, ◌≤◌, Bool, true, false, if◌then◌else◌, List, [], ◌∷◌, ◌++◌, map, length, slice_index_or, Option, None, Some, inl, inr, ◌⊎◌, refl, sym, ap, ◌∙◌, arith, tests}
use Rattle.digit_tuple.proofs.MemberLemmas.{Contains-cases, Contains-none}
use Rattle.formula_parse.specs.Tokens.{Name}
use Rattle.formula_parse.specs.Trees.{Names, Term, variable, numeral, product, sum, Factors, no_factors, factors, times, divided, Terms, no_terms, terms, Addends, no_addends, addends, Fact, compare, words, word_letter, letter_word, call, Formula, atom, negated, chain, quantified, marked, Operands, no_operands, operands}
use Rattle.formula_resolve.specs.Headers.{Headers, automaton_tracks, word_tracks}
use Rattle.formula_resolve.specs.Mentions.{count}
use Rattle.formula_resolve.specs.Occurrences.{Binders, is_listed, bound_by, term_occurrences, factor_occurrences, addend_occurrences, track_occurrences, place_occurrences, fact_occurrences, occurrences, occurrences_among, free_of}
use Rattle.formula_resolve.specs.FreeOccurrences.{named, system_among, free_in, free_system}
use Rattle.formula_resolve.specs.declared.occurrence.Occurrence.{Occurrence}
use Rattle.formula_resolve.proofs.FreeLemmas.{free_is_unbound}
use Rattle.plan_relations.proofs.AllLemmas.{all_both, all_more, all_of}

-- what is so of each variable over a system is so of all occurrences in a term
module _ (Q : Occurrence → Type 0) (b : Binders) (s : Name) (each : (n : Name) → Q (record { name = n; binder = b n; system = s })) where
  mutual
    pub term_all : (t : Term) → AllByRecursion Q (term_occurrences s b t)
    term_all (variable n) = (each n, tt)
    term_all (numeral c) = tt
    term_all (product fs) = factors_all fs
    term_all (sum ss t) = all_both Q (addend_occurrences s b ss) (term_occurrences s b t) (addends_all ss) (term_all t)

    factors_all : (fs : Factors) → AllByRecursion Q (factor_occurrences s b fs)
    factors_all no_factors = tt
    factors_all (factors fs (times t)) = all_both Q (factor_occurrences s b fs) (term_occurrences s b t) (factors_all fs) (term_all t)
    factors_all (factors fs (divided c)) = all_both Q (factor_occurrences s b fs) [] (factors_all fs) tt

    addends_all : (ss : Addends) → AllByRecursion Q (addend_occurrences s b ss)
    addends_all no_addends = tt
    addends_all (addends ss t j) = all_both Q (addend_occurrences s b ss) (term_occurrences s b t) (addends_all ss) (term_all t)

pub places_all : (Q : Occurrence → Type 0) (b : Binders) (ss : List Name) → ((i : ℕ) → i < length ss → (n : Name) → Q (record { name = n; binder = b n; system = slice_index_or ss i [] }))
    → (ts : Terms) → AllByRecursion Q (place_occurrences ss b ts)
places_all Q b ss each no_terms = tt
places_all Q b ss each (terms ts t) = all_both Q (place_occurrences ss b ts) (track_occurrences ss b (count ts) t) (places_all Q b ss each ts) (by (nat_lt (count ts) (length ss)) refl)
  where
    by : (c : Bool) → nat_lt (count ts) (length ss) ≡ c → AllByRecursion Q (if c then term_occurrences (slice_index_or ss (count ts) []) b t else [])
    by true low = term_all Q b (slice_index_or ss (count ts) []) (each (count ts) (omega (arith, tests, low))) t
    by false low = tt

-- the numbers of quantifiers grow
mutual
  pub occurrences_up : (h : Headers) (b : Binders) (i : ℕ) (f : Formula) → i ≤ (occurrences h b i f).next
  occurrences_up h b i (atom x) = omega arith
  occurrences_up h b i (negated f) = occurrences_up h b i f
  occurrences_up h b i (chain os f) =
      let first = among_up h b i os in
      let second = occurrences_up h b (occurrences_among h b i os).next f in
      omega (arith, first, second)
  occurrences_up h b i (quantified q ns f) = let up = occurrences_up h (bound_by i ns b) (i + 1) f in omega (arith, up)
  occurrences_up h b i (marked ms f) = occurrences_up h b i f

  pub among_up : (h : Headers) (b : Binders) (i : ℕ) (os : Operands) → i ≤ (occurrences_among h b i os).next
  among_up h b i no_operands = omega arith
  among_up h b i (operands os f j) =
      let first = among_up h b i os in
      let second = occurrences_up h b (occurrences_among h b i os).next f in
      omega (arith, first, second)

-- an occurrence that no quantifier of a part binds has the binding from outside
abbrev pub IsOutside : Binders → ℕ → Occurrence → Type 0
IsOutside b i o = nat_lt o.binder i ≡ true → o.binder ≡ b o.name

outside_fact : (h : Headers) (b : Binders) (i : ℕ) (s : Name) (x : Fact) → AllByRecursion (IsOutside b i) (fact_occurrences h b s x)
outside_fact h b i s (compare t r u) =
    all_both (IsOutside b i) (term_occurrences s b t) (term_occurrences s b u) (term_all (IsOutside b i) b s (λ n low. refl) t) (term_all (IsOutside b i) b s (λ n low. refl) u)
outside_fact h b i s (words x r y) =
    all_both (IsOutside b i) (place_occurrences (word_tracks h x.word) b x.places) (place_occurrences (word_tracks h y.word) b y.places)
    (places_all (IsOutside b i) b (word_tracks h x.word) (λ j low n is. refl) x.places) (places_all (IsOutside b i) b (word_tracks h y.word) (λ j low n is. refl) y.places)
outside_fact h b i s (word_letter x r l) = places_all (IsOutside b i) b (word_tracks h x.word) (λ j low n is. refl) x.places
outside_fact h b i s (letter_word l r x) = places_all (IsOutside b i) b (word_tracks h x.word) (λ j low n is. refl) x.places
outside_fact h b i s (call n ts) = places_all (IsOutside b i) b (automaton_tracks h n) (λ j low m is. refl) ts

-- numbers of quantifiers only grow, so a binder below them is from outside
not_listed : (k i : ℕ) (ns : Names) (b : Binders) (o : Occurrence) → i ≤ k → IsOutside (bound_by k ns b) i o → IsOutside b i o
not_listed k i ns b o up is low = by (is_listed o.name ns) refl (is low)
  where
    by : (c : Bool) → is_listed o.name ns ≡ c → o.binder ≡ (if c then k else b o.name) → o.binder ≡ b o.name
    by true listed same = let s : o.binder ≡ k = same in absurd (omega (arith, tests, low, up, s))
    by false none same = same

module _ (h : Headers) (i : ℕ) where
  mutual
    pub outside : (f : Formula) (b : Binders) (k : ℕ) → i ≤ k → AllByRecursion (IsOutside b i) (occurrences h b k f).list
    outside (atom x) b k up = outside_fact h b i x.system x.fact
    outside (negated f) b k up = outside f b k up
    outside (chain os f) b k up =
        let prefix = occurrences_among h b k os in
        let last = occurrences h b prefix.next f in
        let more = among_up h b k os in
        all_both (IsOutside b i) prefix.list last.list (outside_among os b k up) (outside f b prefix.next (omega (arith, up, more)))
    outside (quantified q ns f) b k up =
        all_more (IsOutside (bound_by k ns b) i) (IsOutside b i) (λ o is. not_listed k i ns b o up is) (occurrences h (bound_by k ns b) (k + 1) f).list (outside f (bound_by k ns b) (k + 1) (omega (arith, up)))
    outside (marked ms f) b k up = outside f b k up

    outside_among : (os : Operands) (b : Binders) (k : ℕ) → i ≤ k → AllByRecursion (IsOutside b i) (occurrences_among h b k os).list
    outside_among no_operands b k up = tt
    outside_among (operands os f j) b k up =
        let prefix = occurrences_among h b k os in
        let last = occurrences h b prefix.next f in
        let more = among_up h b k os in
        all_both (IsOutside b i) prefix.list last.list (outside_among os b k up) (outside f b prefix.next (omega (arith, up, more)))

-- each occurrence's variable is found
pub member_found : (os : List Occurrence) (o : Occurrence) → Contains os o → (s : Name) × (system_among (map named os) o.name ≡ Some s)
member_found [] o there = absurd (Contains-none o there)
member_found (p ∷ os) o there = by (bytes_eq o.name p.name) refl (Contains-cases p os o there) (member_found os o)
  where
    by : (b : Bool) → bytes_eq o.name p.name ≡ b → (p ≡ o) ⊎ Contains os o → (Contains os o → (s : Name) × (system_among (map named os) o.name ≡ Some s))
        → (s : Name) × ((if b then Some p.system else system_among (map named os) o.name) ≡ Some s)
    by true same cases rest = (p.system, refl)
    by false apart (inl same) rest = absurd (false≢true (sym apart ∙ (bytes_eq-Decides o.name p.name).1 (ap (λ (q : Occurrence). q.name) (sym same))))
    by false apart (inr later) rest = rest later

-- what is found is of an occurrence
pub found_member : (P : Occurrence → Type 0) (os : List Occurrence) (n s : Name) → AllByRecursion P os → system_among (map named os) n ≡ Some s → (o : Occurrence) × (o.system ≡ s) × (n ≡ o.name) × P o
found_member P [] n s all found = absurd (none-some s found)
found_member P (o ∷ os) n s all found = by (bytes_eq n o.name) refl found (found_member P os n s all.1)
  where
    by : (b : Bool) → bytes_eq n o.name ≡ b → (if b then Some o.system else system_among (map named os) n) ≡ Some s
        → (system_among (map named os) n ≡ Some s → (p : Occurrence) × (p.system ≡ s) × (n ≡ p.name) × P p) → (p : Occurrence) × (p.system ≡ s) × (n ≡ p.name) × P p
    by true same here rest = (o, same_Some o.system s here, (bytes_eq-Decides n o.name).0 same, all.0)
    by false apart here rest = rest here

-- the free occurrences of a part are those that no quantifier of it binds
pub free_system_is : (h : Headers) (b : Binders) (i : ℕ) (f : Formula) (n : Name) → ((m : Name) → b m < i) → free_system h f n ≡ system_among (map named (free_of i (occurrences h b i f).list)) n
free_system_is h b i f n below =
    ap (λ l. system_among l n) (sym (free_is_unbound h b i f ∙ (λ j. free_in h (λ m. lt-ltb (b m) i (below m) j) f)))
