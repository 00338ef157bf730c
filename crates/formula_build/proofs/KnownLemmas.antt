-- The names in the plan of a resolved formula mean something if those of the formula do.
use Rattle.std.specs.Prelude.{⊤}
use Rattle.std.specs.List.{AllByRecursion}
use Rattle.std.proofs.Common.{◌≡◌, ℕ, ℤ, zero, suc, ◌+◌, ◌-◌, ◌/◌, ◌%◌, ◌<◌, ◌==◌, Bool, true, false, if◌then◌else◌, List, [], ◌∷◌, ◌++◌, slice_index_or, Option, None, Some, refl, arith, subst, sym}
use Rattle.formula_parse.specs.Tokens.{Name, Sign, plus, minus, Relation, equal, Quantifier, some, every, infinite}
use Rattle.formula_parse.specs.Trees.{Names, no_names, names, Term, variable, numeral, product, sum, Factors, no_factors, factors, times, divided, Terms, no_terms, terms, Addends, no_addends, addends, Index, Fact, compare, words, word_letter, letter_word, call, Formula, atom, negated, chain, quantified, marked, Operands, no_operands, operands}
use Rattle.term_plans.specs.Tracks.{Track, own, fresh, has_track}
use Rattle.term_plans.specs.Plans.{Plan, compared, added, called, lettered, paired, complement, projected, tracks, Made}
use Rattle.term_plans.specs.TermPlans.{TermPlan, closed_by, closed, no_times, linked, multiple, parted, below, quotient_made, Scaling, by_numeral, by_divisor, scaling_made, scaled, scaled_all, sum_relation, with_addend, numeral_plan, begun, term_plan, factor_plans, sum_plan}
use Rattle.term_plans.specs.ArgumentPlans.{Places, no_places, places, tracks_of, closed_all, count, argument_plans}
use Rattle.formula_plan.specs.FactPlans.{letter_plan, words_plan, mirrored, Form, long, variable_left, variable_right, form_by, is_equal, as_variable, named_by, compare_by, fact_plan}
use Rattle.formula_plan.specs.FormulaPlans.{chained, kept, projected_all, for_every, for_infinitely, for_infinitely_many, quantified_made, plan_of, operand_plans}
use Rattle.formula_resolve.specs.Headers.{Headers, automaton_tracks, word_tracks}
use Rattle.formula_resolve.specs.Mentions.{marks, mentions, mentions_among, fact_mentions}
use Rattle.formula_resolve.specs.Mentions as mentioned
use Rattle.formula_resolve.specs.Arity.{misuse, first_misuse}
use Rattle.formula_resolve.specs.Occurrences.{Binders, unbound, bound_by, term_occurrences, place_occurrences, fact_occurrences, occurrences, occurrences_among}
use Rattle.formula_resolve.specs.declared.occurrence.Occurrence.{Occurrence}
use Rattle.formula_resolve.specs.declared.mention.Mention.TheVariants.{Called}
use Rattle.num_system.specs.Sealed.{SystemValue}
use Rattle.num_system.specs.Tracks.{absent_system}
use Rattle.digit_tuple.specs.declared.direction.Direction.{Direction}
use Rattle.plan_relations.specs.Libraries.{LibraryValue, IsSystemIn}
use Rattle.formula_build.specs.KnownNames.{HasWord, IsKnownFact, AreKnownIn, AreKnownAmong}
use Rattle.formula_build.specs.Resolved.{plan_headers}
use Rattle.formula_build.specs.TrackSystems.{IsKnown, Fits}
use Rattle.formula_build.proofs.FactOverLemmas.{neither, automaton_counted, word_counted}
use Rattle.plan_relations.proofs.AllLemmas.{all_both}
use Rattle.formula_build.proofs.VariableSystemLemmas.{term_all, places_all}
use Rattle.formula_build.proofs.FormulaOverLemmas.{right_both, infinitely_has, variable_found}
use Rattle.formula_build.proofs.PartLemmas.{all_closed}

module _ (l : LibraryValue) where
  abbrev IsSystem : Name → Type 0
  IsSystem s = (system : SystemValue) × IsSystemIn l s system

  abbrev IsValueKnown : Option Plan → Type 0
  IsValueKnown None = ⊤
  IsValueKnown (Some r) = IsKnown l r

  closed_known : (t : Track) (r : Option Plan) (base : Plan) → IsValueKnown r → IsKnown l base → IsKnown l (closed_by t r base)
  closed_known t None base value known = known
  closed_known t (Some r) base value known = (value, known)

  if_known : (b : Bool) (m n : Made) → IsKnown l m.last → IsKnown l n.last → IsKnown l (if b then m else n).last
  if_known true m n first second = first
  if_known false m n first second = second

  multiple_known : (most : ℕ) (s : Name) (c : ℕ) (x y : Track) (k : ℕ) → IsSystem s → IsKnown l (multiple most s c x y k).last
  multiple_known zero s c x y k is = (is, is)
  multiple_known (suc most) s c x y k is =
      if_known (c == 0) (no_times s x y k) (if c == 1 then one else (if c == 2 then two else (if c % 2 == 0 then even else odd))) (is, is)
      (if_known (c == 1) one (if c == 2 then two else (if c % 2 == 0 then even else odd)) is
      (if_known (c == 2) two (if c % 2 == 0 then even else odd) is
      (if_known (c % 2 == 0) even odd
      (multiple_known most s (c / 2) x (fresh k) (k + 1) is, is)
      (multiple_known most s (c - 1) x (fresh k) (k + 1) is, is))))
    where
      one : Made
      one = record { steps = []; last = compared s equal x y; next = k }

      two : Made
      two = record { steps = []; last = added s x x y; next = k }

      even : Made
      even = linked (multiple most s (c / 2) x (fresh k) (k + 1)) (fresh k) (added s (fresh k) (fresh k) y)

      odd : Made
      odd = linked (multiple most s (c - 1) x (fresh k) (k + 1)) (fresh k) (added s (fresh k) x y)

  abbrev IsTermKnown : TermPlan → Type 0
  IsTermKnown p = IsValueKnown p.placed.relation

  quotient_known : (s : Name) (c : ℕ) (x y : Track) (k : ℕ) → IsSystem s → IsKnown l (quotient_made s c x y k).last
  quotient_known s c x y k is =
      let whole = parted s c x y (fresh k) (fresh (k + 1)) (k + 3) in
      let small = below s c (fresh (k + 1)) (fresh (k + 2)) whole.next in
      if_known (c == 1) (record { steps = []; last = compared s equal x y; next = k })
      (linked (record { steps = whole.steps ++ small.steps; last = small.last; next = small.next }) (fresh (k + 1)) whole.last) is
      ((is, is), (multiple_known c s c y (fresh k) (k + 3) is, is))

  scaling_known : (s : Name) (f : Scaling) (x y : Track) (k : ℕ) → IsSystem s → IsKnown l (scaling_made s f x y k).last
  scaling_known s (by_numeral c) x y k is = multiple_known c s c x y k is
  scaling_known s (by_divisor c) x y k is = quotient_known s c x y k is

  scaled_known : (s : Name) (p : TermPlan) (f : Scaling) → IsSystem s → IsTermKnown p → IsTermKnown (scaled s p f)
  scaled_known s p f is known =
      closed_known p.placed.track p.placed.relation (scaling_made s f p.placed.track (fresh p.next) (p.next + 1)).last known
      (scaling_known s f p.placed.track (fresh p.next) (p.next + 1) is)

  all_scaled_known : (s : Name) (p : TermPlan) (fs : List Scaling) → IsSystem s → IsTermKnown p → IsTermKnown (scaled_all s p fs)
  all_scaled_known s p [] is known = known
  all_scaled_known s p (f ∷ fs) is known = all_scaled_known s (scaled s p f) fs is (scaled_known s p f is known)

  sum_known : (s : Name) (sign : Sign) (x y z : Track) → IsSystem s → IsKnown l (sum_relation s sign x y z)
  sum_known s plus x y z is = is
  sum_known s minus x y z is = is

  addend_known : (s : Name) (sign : Sign) (p q : TermPlan) → IsSystem s → IsTermKnown p → IsTermKnown q → IsTermKnown (with_addend s sign p q)
  addend_known s sign p q is first second =
      let base = sum_relation s sign p.placed.track q.placed.track (fresh q.next) in
      closed_known q.placed.track q.placed.relation (closed p.placed base) second
      (closed_known p.placed.track p.placed.relation base first (sum_known s sign p.placed.track q.placed.track (fresh q.next) is))

  abbrev IsOtherKnown : Option (ℕ → TermPlan) → Type 0
  IsOtherKnown None = ⊤
  IsOtherKnown (Some plan) = (k : ℕ) → IsTermKnown (plan k)

  begun_known : (s : Name) (other : Option (ℕ → TermPlan)) (fs : List Scaling) (k : ℕ) → IsSystem s → IsOtherKnown other → IsTermKnown (begun s other fs k)
  begun_known s (Some plan) fs k is known = all_scaled_known s (plan k) fs is (known k)
  begun_known s None [] k is known = is
  begun_known s None (by_numeral c ∷ fs) k is known = all_scaled_known s (numeral_plan s c k) fs is is
  begun_known s None (by_divisor c ∷ fs) k is known = all_scaled_known s (numeral_plan s 1 k) (by_divisor c ∷ fs) is is

  mutual
    term_known : (s : Name) → IsSystem s → (t : Term) (k : ℕ) → IsTermKnown (term_plan s t k)
    term_known s is (variable n) k = tt
    term_known s is (numeral c) k = is
    term_known s is (product fs) k = begun_known s (factor_plans s fs).other (factor_plans s fs).scalings k is (factors_known s is fs)
    term_known s is (sum ss t) k = sums_known s is ss (term_plan s t) (term_known s is t) k

    factors_known : (s : Name) → IsSystem s → (fs : Factors) → IsOtherKnown (factor_plans s fs).other
    factors_known s is no_factors = tt
    factors_known s is (factors fs (times (numeral c))) = factors_known s is fs
    factors_known s is (factors fs (divided c)) = factors_known s is fs
    factors_known s is (factors fs (times (variable n))) = term_known s is (variable n)
    factors_known s is (factors fs (times (product gs))) = term_known s is (product gs)
    factors_known s is (factors fs (times (sum ss t))) = term_known s is (sum ss t)

    sums_known : (s : Name) → IsSystem s → (ss : Addends) (last : ℕ → TermPlan) → ((k : ℕ) → IsTermKnown (last k)) → (k : ℕ) → IsTermKnown (sum_plan s ss last k)
    sums_known s is no_addends last known k = known k
    sums_known s is (addends ss t sign) last known k =
        let p = sum_plan s ss (term_plan s t) k in
        addend_known s sign p (last p.next) is (sums_known s is ss (term_plan s t) (term_known s is t) k) (known p.next)

  abbrev ArePlacesKnown : Places → Type 0
  ArePlacesKnown no_places = ⊤
  ArePlacesKnown (places ps p) = ArePlacesKnown ps × IsValueKnown p.relation

  all_closed_known : (ps : Places) (base : Plan) → ArePlacesKnown ps → IsKnown l base → IsKnown l (closed_all ps base)
  all_closed_known no_places base values known = known
  all_closed_known (places ps p) base values known = closed_known p.track p.relation (closed_all ps base) values.1 (all_closed_known ps base values.0 known)

  arguments_known : (ss : List Name) (ts : Terms) (k : ℕ) → ((i : ℕ) → i < count ts → IsSystem (slice_index_or ss i [])) → ArePlacesKnown (argument_plans ss ts k).placed
  arguments_known ss no_terms k are = tt
  arguments_known ss (terms ts t) k are =
      (arguments_known ss ts k (λ i low. are i (omega (arith, low))), term_known (slice_index_or ss (count ts) []) (are (count ts) (omega arith)) t (argument_plans ss ts k).next)

  left_known : (s n : Name) (t : Track) (r : Option Plan) → IsSystem s → IsValueKnown r → IsKnown l (named_by s n t r)
  left_known s n t None is value = is
  left_known s n t (Some r) is value = value

  compare_known : (form : Form) (s : Name) (t : Term) (r : Relation) (u : Term) (k : ℕ) → IsSystem s → IsKnown l (compare_by form s t r u k).last
  compare_known long s t r u k is =
      let p = term_plan s t k in
      let q = term_plan s u p.next in
      all_closed_known (places (places no_places p.placed) q.placed) (compared s r p.placed.track q.placed.track) ((tt, term_known s is t k), term_known s is u p.next) is
  compare_known (variable_left n) s t r u k is = let p = term_plan s u k in left_known s n p.placed.track p.placed.relation is (term_known s is u k)
  compare_known (variable_right n) s t r u k is = let p = term_plan s t k in left_known s n p.placed.track p.placed.relation is (term_known s is t k)

  kept_known : (ks : List Name) (p : Plan) → IsKnown l p → IsKnown l (projected_all ks p)
  kept_known [] p known = known
  kept_known (k ∷ ks) p known = kept_known ks (projected (own k) p) known

  every_known : (ks : List Name) (m : Made) → IsKnown l m.last → IsKnown l (for_every ks m).last
  every_known [] m known = known
  every_known (k ∷ ks) m known = kept_known (k ∷ ks) (complement m.last) known

  -- the systems of the variables that are tracks are known
  abbrev AreVariablesKnown : (Name → Name) → Plan → Type 0
  AreVariablesKnown on p = (n : Name) → has_track (tracks p) (own n) ≡ true → IsSystem (on n)

  many_known : (on : Name → Name) (ns : Names) (m : Made) → AreVariablesKnown on m.last → IsKnown l m.last → IsKnown l (for_infinitely_many on ns m).last
  many_known on no_names m variables known = known
  many_known on (names ns n) m variables known = by (has_track (tracks m.last) (own n)) refl (many_known on ns (for_infinitely (on n) n m)) (many_known on ns m variables known)
    where
      after : Made
      after = for_infinitely (on n) n m

      by : (b : Bool) → has_track (tracks m.last) (own n) ≡ b → (AreVariablesKnown on after.last → IsKnown l after.last → IsKnown l (for_infinitely_many on ns after).last)
          → IsKnown l (for_infinitely_many on ns m).last → IsKnown l (for_infinitely_many on ns (if b then after else m)).last
      by true there first second = first (λ v is. variables v (infinitely_has (on n) n m (own v) is).0) (known, variables n there)
      by false apart first second = second

  quantified_known : (q : Quantifier) (on : Name → Name) (ns : Names) (m : Made) → AreVariablesKnown on m.last → IsKnown l m.last → IsKnown l (quantified_made q on ns m).last
  quantified_known some on ns m variables known = kept_known (kept ns (tracks m.last)) m.last known
  quantified_known every on ns m variables known = every_known (kept ns (tracks m.last)) m known
  quantified_known infinite on ns m variables known = many_known on ns m variables known

module _ (l : LibraryValue) (h : Headers) (direction : Name → Direction) (fits : Fits l (plan_headers h) direction) where
  -- the values of a known word's indices
  indices_known : (x : Index) (k : ℕ) → misuse h (mentioned.index_mention x) ≡ None → HasWord l x.word → ArePlacesKnown l (argument_plans (word_tracks h x.word) x.places k).placed
  indices_known x k right known =
      let counted = word_counted h x right in
      let over = fits.words x.word known.0 known.1 in
      arguments_known l (word_tracks h x.word) x.places k (λ i low. (slice_index_or known.0.systems i absent_system, over.each i (omega (arith, low, counted))))

  letter_known : (x : Index) (r : Relation) (b : ℤ) (k : ℕ) → misuse h (mentioned.index_mention x) ≡ None → HasWord l x.word → IsKnown l (letter_plan (plan_headers h) x r b k).last
  letter_known x r b k right known =
      let ps = argument_plans (word_tracks h x.word) x.places k in
      all_closed_known l ps.placed (lettered x.word (tracks_of ps.placed) r b) (indices_known x k right known) known

  words_known : (x : Index) (r : Relation) (y : Index) (k : ℕ) → misuse h (mentioned.index_mention x) ≡ None → misuse h (mentioned.index_mention y) ≡ None → HasWord l x.word → HasWord l y.word
      → IsKnown l (words_plan (plan_headers h) x r y k).last
  words_known x r y k right also first second =
      let ps = argument_plans (word_tracks h x.word) x.places k in
      let qs = argument_plans (word_tracks h y.word) y.places ps.next in
      let base = paired x.word (tracks_of ps.placed) r y.word (tracks_of qs.placed) in
      subst (IsKnown l) (sym (all_closed ps.placed qs.placed base))
      (all_closed_known l qs.placed (closed_all ps.placed base) (indices_known y ps.next also second) (all_closed_known l ps.placed base (indices_known x k right first) (first, second)))

  fact_known : (s : Name) (x : Fact) (k : ℕ) → first_misuse h (fact_mentions x) ≡ None → IsKnownFact l s x → IsKnown l (fact_plan (plan_headers h) s x k).last
  fact_known s (compare t r u) k right known = compare_known l (form_by (is_equal r) (as_variable t) (as_variable u)) s t r u k known
  fact_known s (words x r y) k right known =
      let of_x = neither (misuse h (mentioned.index_mention x)) (first_misuse h (mentioned.index_mention y ∷ [])) right in
      words_known x r y k of_x.0 (neither (misuse h (mentioned.index_mention y)) None of_x.1).0 known.0 known.1
  fact_known s (word_letter x r b) k right known = letter_known x r b k (neither (misuse h (mentioned.index_mention x)) None right).0 known
  fact_known s (letter_word b r x) k right known = letter_known x (mirrored r) b k (neither (misuse h (mentioned.index_mention x)) None right).0 known
  fact_known s (call n ts) k right known =
      let ss = automaton_tracks h n in
      let ps = argument_plans ss ts k in
      let counted = automaton_counted h n ts (neither (misuse h (Called n (mentioned.count ts))) None right).0 in
      let over = fits.relations n known.0 known.1 in
      all_closed_known l ps.placed (called n (tracks_of ps.placed))
      (arguments_known l ss ts k (λ i low. (slice_index_or known.0.systems i absent_system, over.each i (omega (arith, low, counted))))) known

  -- the systems of variables, where they occur, are known
  index_occurrences_known : (x : Index) (b : Binders) → misuse h (mentioned.index_mention x) ≡ None → HasWord l x.word
      → AllByRecursion (λ (o : Occurrence). IsSystem l o.system) (place_occurrences (word_tracks h x.word) b x.places)
  index_occurrences_known x b right known =
      let over = fits.words x.word known.0 known.1 in
      places_all (λ (o : Occurrence). IsSystem l o.system) b (word_tracks h x.word) (λ i low n. (slice_index_or known.0.systems i absent_system, over.each i low)) x.places

  fact_occurrences_known : (s : Name) (x : Fact) (b : Binders) → first_misuse h (fact_mentions x) ≡ None → IsKnownFact l s x
      → AllByRecursion (λ (o : Occurrence). IsSystem l o.system) (fact_occurrences h b s x)
  fact_occurrences_known s (compare t r u) b right known =
      all_both (λ (o : Occurrence). IsSystem l o.system) (term_occurrences s b t) (term_occurrences s b u)
      (term_all (λ (o : Occurrence). IsSystem l o.system) b s (λ n. known) t) (term_all (λ (o : Occurrence). IsSystem l o.system) b s (λ n. known) u)
  fact_occurrences_known s (words x r y) b right known =
      let of_x = neither (misuse h (mentioned.index_mention x)) (first_misuse h (mentioned.index_mention y ∷ [])) right in
      all_both (λ (o : Occurrence). IsSystem l o.system) (place_occurrences (word_tracks h x.word) b x.places) (place_occurrences (word_tracks h y.word) b y.places)
      (index_occurrences_known x b of_x.0 known.0) (index_occurrences_known y b (neither (misuse h (mentioned.index_mention y)) None of_x.1).0 known.1)
  fact_occurrences_known s (word_letter x r c) b right known = index_occurrences_known x b (neither (misuse h (mentioned.index_mention x)) None right).0 known
  fact_occurrences_known s (letter_word c r x) b right known = index_occurrences_known x b (neither (misuse h (mentioned.index_mention x)) None right).0 known
  fact_occurrences_known s (call n ts) b right known =
      let over = fits.relations n known.0 known.1 in
      places_all (λ (o : Occurrence). IsSystem l o.system) b (automaton_tracks h n) (λ i low m. (slice_index_or known.0.systems i absent_system, over.each i low)) ts

  mutual
    occurrences_known : (f : Formula) (b : Binders) (i : ℕ) → first_misuse h (mentions f) ≡ None → AreKnownIn l f → AllByRecursion (λ (o : Occurrence). IsSystem l o.system) (occurrences h b i f).list
    occurrences_known (atom x) b i right known = fact_occurrences_known x.system x.fact b right known
    occurrences_known (negated f) b i right known = occurrences_known f b i right known
    occurrences_known (chain os f) b i right known =
        let prefix = occurrences_among h b i os in
        let last = occurrences h b prefix.next f in
        let rights = right_both h (mentions_among os) (mentions f) right in
        all_both (λ (o : Occurrence). IsSystem l o.system) prefix.list last.list (among_known os b i rights.0 known.0) (occurrences_known f b prefix.next rights.1 known.1)
    occurrences_known (quantified q ns f) b i right known = occurrences_known f (bound_by i ns b) (i + 1) right known
    occurrences_known (marked ms f) b i right known = occurrences_known f b i (right_both h (marks ms) (mentions f) right).1 known

    among_known : (os : Operands) (b : Binders) (i : ℕ) → first_misuse h (mentions_among os) ≡ None → AreKnownAmong l os
        → AllByRecursion (λ (o : Occurrence). IsSystem l o.system) (occurrences_among h b i os).list
    among_known no_operands b i right known = tt
    among_known (operands os f j) b i right known =
        let prefix = occurrences_among h b i os in
        let last = occurrences h b prefix.next f in
        let rights = right_both h (mentions_among os) (mentions f) right in
        all_both (λ (o : Occurrence). IsSystem l o.system) prefix.list last.list (among_known os b i rights.0 known.0) (occurrences_known f b prefix.next rights.1 known.1)

  variables_known : (f : Formula) (k : ℕ) → first_misuse h (mentions f) ≡ None → AreKnownIn l f → AreVariablesKnown l ((plan_headers h).of_variable f) (plan_of (plan_headers h) f k).last
  variables_known f k right known n there =
      let found = variable_found h (λ (o : Occurrence). IsSystem l o.system) f unbound 1 k (λ m. omega arith) right (occurrences_known f unbound 1 right known) n there in
      subst (IsSystem l) (sym found.1) found.4

  mutual
    pub known_plans : (f : Formula) (k : ℕ) → first_misuse h (mentions f) ≡ None → AreKnownIn l f → IsKnown l (plan_of (plan_headers h) f k).last
    known_plans (atom x) k right known = fact_known x.system x.fact k right known
    known_plans (negated f) k right known = known_plans f k right known
    known_plans (chain os f) k right known =
        let next = (operand_plans (plan_headers h) os k).next in
        let rights = right_both h (mentions_among os) (mentions f) right in
        operands_known os k rights.0 known.0 (plan_of (plan_headers h) f next).last (known_plans f next rights.1 known.1)
    known_plans (quantified q ns f) k right known =
        quantified_known l q ((plan_headers h).of_variable f) ns (plan_of (plan_headers h) f k) (variables_known f k right known) (known_plans f k right known)
    known_plans (marked ms f) k right known = known_plans f k (right_both h (marks ms) (mentions f) right).1 known

    operands_known : (os : Operands) (k : ℕ) → first_misuse h (mentions_among os) ≡ None → AreKnownAmong l os → (q : Plan) → IsKnown l q → IsKnown l (chained (operand_plans (plan_headers h) os k).operands q)
    operands_known no_operands k right known q last = last
    operands_known (operands os f j) k right known q last =
        let next = (operand_plans (plan_headers h) os k).next in
        let rights = right_both h (mentions_among os) (mentions f) right in
        (operands_known os k rights.0 known.0 (plan_of (plan_headers h) f next).last (known_plans f next rights.1 known.1), last)
