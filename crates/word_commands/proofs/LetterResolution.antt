-- The formula of a letter has a resolution: one free variable, over the word's system.
use Rattle.std.proofs.Common.{◌≡◌, ℕ, zero, suc, ◌+◌, ◌-◌, ◌<◌, ◌≤◌, Bool, true, false, not, if◌then◌else◌, List, [], ◌∷◌, ◌++◌, length, map, ℤ, Option, None, Some, refl, sym, ap, ◌∙◌, subst, arith}
use Rattle.std.specs.Prelude.{nat_lt, ⊤, MatchOption}
use Rattle.std.specs.Bool.{beq}
use Rattle.std.specs.List.{AllByRecursion, filter, fold}
use Rattle.std.specs.Option.{option_or, option_map}
use Rattle.std.specs.Ordering.{nat_cmp, is_lt}
use Rattle.std.specs.Cmp.Lexicographic.{slice_cmp, nat_list_cmp_total}
use Rattle.std.specs.FinMap.{empty, entries, entries-insert, from_entries, len-empty, len-entries, put}
use Rattle.std.proofs.lemmas.List.{length-append, nil_from_length}
use Rattle.std.proofs.lemmas.Slice.Eq.{bytes_eq-Decides}
use Rattle.std.proofs.lemmas.Option.{none-some}
use Rattle.digit_tuple.proofs.AllLemmas.{all_append}
use Rattle.formula_parse.specs.Tokens.{Name}
use Rattle.formula_parse.specs.Trees.{no_names, names, no_terms, terms, variable}
use Rattle.term_plans.specs.Linear.{AreLinearOperands, IsLinearFormula}
use Rattle.formula_resolve.specs.Arity.{first_misuse, miscount, misuse}
use Rattle.formula_resolve.specs.Clashes.{clash_after, clash_with, first_clash, first_system, is_same_binding}
use Rattle.formula_resolve.specs.Directions.{first_met, is_lsd, is_other_direction, least, lesser, other_met, part_of, parts_among, conflict_among_parts, conflict_between, conflict_in, conflict_in_operands, opposed}
use Rattle.formula_resolve.specs.FreeVariables.{free_variables, variable_of}
use Rattle.formula_resolve.specs.Headers.{Headers, word_tracks}
use Rattle.formula_resolve.specs.Mentions.{mentions, mentions_among}
use Rattle.formula_resolve.specs.Occurrences.{Binders, all_occurrences, bound_by, free_of, occurrences, occurrences_among, place_occurrences, unbound}
use Rattle.formula_resolve.specs.Resolving.{fault_of, direction_fault}
use Rattle.formula_resolve.specs.declared.fault.ResolveFault.{ResolveFault}
use Rattle.formula_resolve.specs.declared.fault.ResolveFault.TheVariants.{Clash}
use Rattle.formula_resolve.specs.declared.mention.Mention.{Mention}
use Rattle.formula_resolve.specs.declared.occurrence.Occurrence.{Occurrence}
use Rattle.formula_build.specs.Solutions.{IsFormed}
use Rattle.formula_build.specs.VariableNames.{AreNamedAmong, AreNamedIn}
use Rattle.word_images.specs.ImageFormula.{at_place, has_letter, image_formula, is_place, place_variable, places_before, whole_variable, word_name}
use Rattle.word_commands.specs.RecodedWords.{image_headers}
use Rattle.word_commands.proofs.NamedWords.{tracks_found}

module _ (s : Name) where
  -- the occurrence is over the system
  abbrev pub IsHere : Occurrence → Type 0
  IsHere o = o.system ≡ s

  all_filtered : (test : Occurrence → Bool) (os : List Occurrence) → AllByRecursion IsHere os → AllByRecursion IsHere (filter test os)
  all_filtered test [] all = tt
  all_filtered test (o ∷ os) all = by (test o) (all_filtered test os all.1)
    where
      by : (b : Bool) → AllByRecursion IsHere (filter test os) → AllByRecursion IsHere (if b then o ∷ filter test os else filter test os)
      by true rest = (all.0, rest)
      by false rest = rest

  -- where all are over one system, none clashes
  first_here : (os : List Occurrence) (p : Occurrence) → AllByRecursion IsHere os → MatchOption (first_system os p) ⊤ (λ t. t ≡ s)
  first_here [] p all = tt
  first_here (o ∷ os) p all = by (is_same_binding o p) (first_here os p all.1)
    where
      by : (b : Bool) → MatchOption (first_system os p) ⊤ (λ t. t ≡ s) → MatchOption (if b then Some o.system else first_system os p) ⊤ (λ t. t ≡ s)
      by true rest = all.0
      by false rest = rest

  no_clash_with : (o : Option Name) (p : Occurrence) → MatchOption o ⊤ (λ t. t ≡ s) → IsHere p → clash_with o p ≡ None
  no_clash_with None p first here = refl
  no_clash_with (Some t) p first here = ap (λ b. if b then None else Some (Clash p.name t p.system)) ((bytes_eq-Decides t p.system).1 (first ∙ sym here))

  no_clash : (prefix os : List Occurrence) → AllByRecursion IsHere prefix → AllByRecursion IsHere os → clash_after prefix os ≡ None
  no_clash prefix [] before all = refl
  no_clash prefix (o ∷ os) before all =
      ap (λ x. option_or x (clash_after (prefix ++ o ∷ []) os)) (no_clash_with (first_system prefix o) o (first_here prefix o before) all.0) ∙ no_clash (prefix ++ o ∷ []) os (all_append IsHere prefix (o ∷ []) before (all.0, tt)) all.1

  -- and none turns
  same_direction : (x : Bool) → not (beq x x) ≡ false
  same_direction true = refl
  same_direction false = refl

  none_opposed : (os : List Occurrence) → AllByRecursion IsHere os → opposed s os ≡ []
  none_opposed [] all = refl
  none_opposed (o ∷ os) all = ap (λ b. if b then o ∷ opposed s os else opposed s os) (ap (is_other_direction s) all.0 ∙ same_direction (is_lsd s)) ∙ none_opposed os all.1

  none_met : (parts : List (List Occurrence)) → AllByRecursion (AllByRecursion IsHere) parts → first_met (map (opposed s) parts) ≡ None
  none_met [] all = refl
  none_met (os ∷ parts) all = ap (λ (xs : List Occurrence). option_or (option_map (λ o. o.system) (least xs)) (first_met (map (opposed s) parts))) (none_opposed os all.0) ∙ none_met parts all.1

  lesser_here : (o : Option Occurrence) (p : Occurrence) → MatchOption o ⊤ IsHere → IsHere p → MatchOption (lesser o p) ⊤ IsHere
  lesser_here None p first here = here
  lesser_here (Some o) p first here = by (is_lt (slice_cmp nat_cmp p.name o.name))
    where
      by : (b : Bool) → MatchOption (if b then Some p else Some o) ⊤ IsHere
      by true = here
      by false = first

  least_here : (os : List Occurrence) (o : Option Occurrence) → MatchOption o ⊤ IsHere → AllByRecursion IsHere os → MatchOption (fold lesser o os) ⊤ IsHere
  least_here [] o first all = first
  least_here (p ∷ os) o first all = least_here os (lesser o p) (lesser_here o p first all.0) all.1

  met_here : (parts : List (List Occurrence)) → AllByRecursion (AllByRecursion IsHere) parts → MatchOption (first_met parts) ⊤ (λ t. t ≡ s)
  met_here [] all = tt
  met_here (os ∷ parts) all = by (least os) (least_here os None tt all.0) (met_here parts all.1)
    where
      by : (o : Option Occurrence) → MatchOption o ⊤ IsHere → MatchOption (first_met parts) ⊤ (λ t. t ≡ s) → MatchOption (option_or (option_map (λ p. p.system) o) (first_met parts)) ⊤ (λ t. t ≡ s)
      by None first rest = rest
      by (Some o) first rest = first

  no_conflict : (parts : List (List Occurrence)) → AllByRecursion (AllByRecursion IsHere) parts → conflict_among_parts parts ≡ None
  no_conflict parts all = by (first_met parts) (met_here parts all)
    where
      by : (o : Option Name) → MatchOption o ⊤ (λ t. t ≡ s) → conflict_between o (other_met o parts) ≡ None
      by None met = refl
      by (Some t) met = ap (λ x. conflict_between (Some t) (first_met (map (opposed x) parts))) met ∙ ap (conflict_between (Some t)) (none_met parts all)

module _ (s : Name) (k : ℕ) (letter : ℤ) (few : k ≤ 40) where
  abbrev h : Headers
  h = image_headers s k

  abbrev Here : Occurrence → Type 0
  Here = IsHere s

  -- the body of a place, under the quantifier of this number
  abbrev inside : ℕ → Binders
  inside m = bound_by m (names no_names whole_variable) unbound

  index_here : (b : Binders) (tracks : List Name) → tracks ≡ s ∷ [] → AllByRecursion Here (place_occurrences tracks b (terms no_terms (variable whole_variable)))
  index_here b tracks are = subst (λ (ts : List Name). AllByRecursion Here (place_occurrences ts b (terms no_terms (variable whole_variable)))) (sym are) (refl, tt)

  fact_here : (m r : ℕ) → AllByRecursion Here (occurrences h (inside m) (m + 1) (is_place s k r)).list
  fact_here m r = (refl, (refl, tt))

  letter_here : (m r : ℕ) → r < k → AllByRecursion Here (occurrences h (inside m) (m + 1) (has_letter s r letter)).list
  letter_here m r less = index_here (inside m) (word_tracks h (word_name r)) (tracks_found s k r few less)

  -- all occurrences are over the system
  place_here : (m r : ℕ) → r < k → AllByRecursion Here (occurrences h unbound m (at_place s k letter r)).list
  place_here m r less = all_append Here (occurrences h (inside m) (m + 1) (is_place s k r)).list (occurrences h (inside m) (m + 1) (has_letter s r letter)).list (fact_here m r) (letter_here m r less)

  places_here : (n : ℕ) → n ≤ k → AllByRecursion Here (occurrences_among h unbound 1 (places_before s k letter n)).list
  places_here zero within = tt
  places_here (suc n) within =
      all_append Here (occurrences_among h unbound 1 (places_before s k letter n)).list (occurrences h unbound (occurrences_among h unbound 1 (places_before s k letter n)).next (at_place s k letter n)).list
      (places_here n (omega (arith, within))) (place_here (occurrences_among h unbound 1 (places_before s k letter n)).next n (omega (arith, within)))

  all_here : 0 < k → AllByRecursion Here (all_occurrences h (image_formula s k letter))
  all_here some =
      all_append Here (occurrences_among h unbound 1 (places_before s k letter (k - 1))).list (occurrences h unbound (occurrences_among h unbound 1 (places_before s k letter (k - 1))).next (at_place s k letter (k - 1))).list
      (places_here (k - 1) (omega arith)) (place_here (occurrences_among h unbound 1 (places_before s k letter (k - 1))).next (k - 1) (omega (arith, some)))

  -- names have as many tracks as they are given
  right_place : (r : ℕ) → r < k → first_misuse h (mentions (at_place s k letter r)) ≡ None
  right_place r less = ap (λ (ts : List Name). option_or (miscount (word_name r) (length ts) 1) None) (tracks_found s k r few less)

  right_both : (ms ns : List Mention) → first_misuse h ms ≡ None → first_misuse h ns ≡ None → first_misuse h (ms ++ ns) ≡ None
  right_both [] ns first second = second
  right_both (m ∷ ms) ns first second = by (misuse h m) first (λ rest. right_both ms ns rest second)
    where
      by : (o : Option ResolveFault) → option_or o (first_misuse h ms) ≡ None → (first_misuse h ms ≡ None → first_misuse h (ms ++ ns) ≡ None) → option_or o (first_misuse h (ms ++ ns)) ≡ None
      by None first rest = rest first
      by (Some fault) first rest = absurd (none-some fault (sym first))

  right_places : (n : ℕ) → n ≤ k → first_misuse h (mentions_among (places_before s k letter n)) ≡ None
  right_places zero within = refl
  right_places (suc n) within = right_both (mentions_among (places_before s k letter n)) (mentions (at_place s k letter n)) (right_places n (omega (arith, within))) (right_place n (omega (arith, within)))

  right_all : 0 < k → first_misuse h (mentions (image_formula s k letter)) ≡ None
  right_all some = right_both (mentions_among (places_before s k letter (k - 1))) (mentions (at_place s k letter (k - 1))) (right_places (k - 1) (omega arith)) (right_place (k - 1) (omega (arith, some)))

  -- no two directions meet
  straight_place : (m r : ℕ) → r < k → conflict_in h unbound m (at_place s k letter r) ≡ None
  straight_place m r less = no_conflict s (part_of h (inside m) (m + 1) (is_place s k r) ∷ part_of h (inside m) (m + 1) (has_letter s r letter) ∷ [])
      (all_filtered s (λ o. nat_lt o.binder (m + 1)) (occurrences h (inside m) (m + 1) (is_place s k r)).list (fact_here m r), (all_filtered s (λ o. nat_lt o.binder (m + 1)) (occurrences h (inside m) (m + 1) (has_letter s r letter)).list (letter_here m r less), tt))

  straight_places : (n : ℕ) → n ≤ k → conflict_in_operands h unbound 1 (places_before s k letter n) ≡ None
  straight_places zero within = refl
  straight_places (suc n) within =
      ap (λ o. option_or o (conflict_in h unbound (occurrences_among h unbound 1 (places_before s k letter n)).next (at_place s k letter n))) (straight_places n (omega (arith, within)))
      ∙ straight_place (occurrences_among h unbound 1 (places_before s k letter n)).next n (omega (arith, within))

  parts_here : (n : ℕ) → n ≤ k → AllByRecursion (AllByRecursion Here) (parts_among h unbound 1 (places_before s k letter n))
  parts_here zero within = tt
  parts_here (suc n) within =
      let m = (occurrences_among h unbound 1 (places_before s k letter n)).next in
      all_append (AllByRecursion Here) (parts_among h unbound 1 (places_before s k letter n)) (part_of h unbound m (at_place s k letter n) ∷ []) (parts_here n (omega (arith, within)))
      (all_filtered s (λ o. nat_lt o.binder m) (occurrences h unbound m (at_place s k letter n)).list (place_here m n (omega (arith, within))), tt)

  straight_all : 0 < k → conflict_in h unbound 1 (image_formula s k letter) ≡ None
  straight_all some =
      let n : ℕ = k - 1 in
      let m = (occurrences_among h unbound 1 (places_before s k letter n)).next in
      let parts = parts_among h unbound 1 (places_before s k letter n) ++ part_of h unbound m (at_place s k letter n) ∷ [] in
      ap (λ o. option_or (option_or o (conflict_in h unbound m (at_place s k letter n))) (conflict_among_parts parts)) (straight_places n (omega arith))
      ∙ ap (λ o. option_or o (conflict_among_parts parts)) (straight_place m n (omega (arith, some)))
      ∙ no_conflict s parts (all_append (AllByRecursion Here) (parts_among h unbound 1 (places_before s k letter n)) (part_of h unbound m (at_place s k letter n) ∷ []) (parts_here n (omega arith))
      (all_filtered s (λ o. nat_lt o.binder m) (occurrences h unbound m (at_place s k letter n)).list (place_here m n (omega (arith, some))), tt))

  -- so it has no fault
  pub no_fault : 0 < k → fault_of h (image_formula s k letter) ≡ None
  no_fault some =
      ap (λ o. option_or o (option_or (first_clash (all_occurrences h (image_formula s k letter))) (option_map direction_fault (conflict_in h unbound 1 (image_formula s k letter))))) (right_all some)
      ∙ ap (λ o. option_or o (option_map direction_fault (conflict_in h unbound 1 (image_formula s k letter)))) (no_clash s [] (all_occurrences h (image_formula s k letter)) tt (all_here some))
      ∙ ap (option_map direction_fault) (straight_all some)

  -- products have one unknown, and variables begin with letters
  linear_places : (n : ℕ) → AreLinearOperands (places_before s k letter n)
  linear_places zero = tt
  linear_places (suc n) = (linear_places n, linear_place n)
    where
      linear_place : (r : ℕ) → IsLinearFormula (at_place s k letter r)
      linear_place r = ((tt, (tt, ((tt, (omega arith, ((tt, tt), tt))), tt))), (tt, tt))

  linear_last : (r : ℕ) → IsLinearFormula (at_place s k letter r)
  linear_last r = (linear_places (suc r)).1

  named_places : (n : ℕ) → AreNamedAmong (places_before s k letter n)
  named_places zero = tt
  named_places (suc n) = (named_places n, named_place n)
    where
      named_place : (r : ℕ) → AreNamedIn (at_place s k letter r)
      named_place r = ((tt, (refl, ((tt, ((tt, tt), refl)), tt))), (tt, refl))

  pub formed : IsFormed (image_formula s k letter)
  formed = ((linear_places (k - 1), linear_last (k - 1)), (named_places (k - 1), (named_places (suc (k - 1))).1))

  -- the free occurrences are those of the place
  abbrev IsFree : Name × Name → Type 0
  IsFree e = e ≡ (place_variable, s)

  abbrev pairs_of : List Occurrence → List (Name × Name)
  pairs_of os = map (λ (o : Occurrence). (o.name, o.system)) (free_of 1 os)

  pairs_append : (xs ys : List Occurrence) → pairs_of (xs ++ ys) ≡ pairs_of xs ++ pairs_of ys
  pairs_append [] ys = refl
  pairs_append (x ∷ xs) ys = by (nat_lt x.binder 1) (pairs_append xs ys)
    where
      by : (b : Bool) → pairs_of (xs ++ ys) ≡ pairs_of xs ++ pairs_of ys
          → map (λ (o : Occurrence). (o.name, o.system)) (if b then x ∷ free_of 1 (xs ++ ys) else free_of 1 (xs ++ ys)) ≡ map (λ (o : Occurrence). (o.name, o.system)) (if b then x ∷ free_of 1 xs else free_of 1 xs) ++ pairs_of ys
      by true rest = ap (λ (zs : List (Name × Name)). (x.name, x.system) ∷ zs) rest
      by false rest = rest

  bound : (m : ℕ) → 1 ≤ m → nat_lt m 1 ≡ false
  bound m least = grind (arith, least)

  free_fact : (m r : ℕ) → 1 ≤ m → pairs_of (occurrences h (inside m) (m + 1) (is_place s k r)).list ≡ (place_variable, s) ∷ []
  free_fact m r least = ap (λ (b : Bool). (place_variable, s) ∷ map (λ (o : Occurrence). (o.name, o.system)) (if b then record { name = whole_variable; binder = m; system = s } ∷ [] else [])) (bound m least)

  free_letter : (m r : ℕ) → 1 ≤ m → r < k → pairs_of (occurrences h (inside m) (m + 1) (has_letter s r letter)).list ≡ []
  free_letter m r least less =
      ap (λ (ts : List Name). pairs_of (place_occurrences ts (inside m) (terms no_terms (variable whole_variable)))) (tracks_found s k r few less)
      ∙ ap (λ (b : Bool). map (λ (o : Occurrence). (o.name, o.system)) (if b then record { name = whole_variable; binder = m; system = s } ∷ [] else [])) (bound m least)

  free_place : (m r : ℕ) → 1 ≤ m → r < k → pairs_of (occurrences h unbound m (at_place s k letter r)).list ≡ (place_variable, s) ∷ []
  free_place m r least less =
      pairs_append (occurrences h (inside m) (m + 1) (is_place s k r)).list (occurrences h (inside m) (m + 1) (has_letter s r letter)).list
      ∙ ap (λ (xs : List (Name × Name)). xs ++ pairs_of (occurrences h (inside m) (m + 1) (has_letter s r letter)).list) (free_fact m r least)
      ∙ ap (λ (xs : List (Name × Name)). (place_variable, s) ∷ xs) (free_letter m r least less)

  some_next : (n : ℕ) → 1 ≤ (occurrences_among h unbound 1 (places_before s k letter n)).next
  some_next zero = omega arith
  some_next (suc n) = omega (arith, some_next n)

  free_places : (n : ℕ) → n ≤ k → AllByRecursion IsFree (pairs_of (occurrences_among h unbound 1 (places_before s k letter n)).list)
  free_places zero within = tt
  free_places (suc n) within =
      let m = (occurrences_among h unbound 1 (places_before s k letter n)).next in
      subst (AllByRecursion IsFree) (sym (pairs_append (occurrences_among h unbound 1 (places_before s k letter n)).list (occurrences h unbound m (at_place s k letter n)).list))
      (all_append IsFree (pairs_of (occurrences_among h unbound 1 (places_before s k letter n)).list) (pairs_of (occurrences h unbound m (at_place s k letter n)).list) (free_places n (omega (arith, within)))
      (subst (AllByRecursion IsFree) (sym (free_place m n (some_next n) (omega (arith, within)))) (refl, tt)))

  -- a map of one entry, again and again
  none_kept : entries (empty {X = Name} {R = slice_cmp nat_cmp}) ≡ []
  none_kept = nil_from_length (entries empty) (sym (len-entries empty) ∙ len-empty (slice_cmp nat_cmp) Name)

  one_kept : (es : List (Name × Name)) → 0 < length es → AllByRecursion IsFree es → entries (from_entries {R = slice_cmp nat_cmp} es) ≡ (place_variable, s) ∷ []
  one_kept [] some all = absurd (omega (arith, some))
  one_kept (e ∷ []) some all =
      entries-insert nat_list_cmp_total (empty {X = Name} {R = slice_cmp nat_cmp}) e.0 e.1 ∙ ap (put (slice_cmp nat_cmp) e.0 e.1) none_kept ∙ ap (λ (x : Name × Name). x ∷ []) all.0
  one_kept (e ∷ f ∷ es) some all =
      entries-insert nat_list_cmp_total (from_entries {R = slice_cmp nat_cmp} (f ∷ es)) e.0 e.1 ∙ ap (put (slice_cmp nat_cmp) e.0 e.1) (one_kept (f ∷ es) (omega arith) all.1)
      ∙ ap (λ (x : Name × Name). put (slice_cmp nat_cmp) x.0 x.1 ((place_variable, s) ∷ [])) all.0

  -- the one free variable
  pub one_variable : 0 < k → free_variables (all_occurrences h (image_formula s k letter)) ≡ record { name = place_variable; system = s } ∷ []
  one_variable some =
      ap (λ (es : List (Name × Name)). map variable_of es) (one_kept (pairs_of (all_occurrences h (image_formula s k letter))) long (subst (AllByRecursion IsFree) (sym whole) (all_append IsFree prefix ((place_variable, s) ∷ []) (free_places n (omega arith)) (refl, tt))))
    where
      n : ℕ
      n = k - 1

      prefix : List (Name × Name)
      prefix = pairs_of (occurrences_among h unbound 1 (places_before s k letter n)).list

      whole : pairs_of (all_occurrences h (image_formula s k letter)) ≡ prefix ++ (place_variable, s) ∷ []
      whole =
          let m = (occurrences_among h unbound 1 (places_before s k letter n)).next in
          pairs_append (occurrences_among h unbound 1 (places_before s k letter n)).list (occurrences h unbound m (at_place s k letter n)).list ∙ ap (λ (xs : List (Name × Name)). prefix ++ xs) (free_place m n (some_next n) (omega (arith, some)))

      long : 0 < length (pairs_of (all_occurrences h (image_formula s k letter)))
      long = omega (arith, ap (λ (es : List (Name × Name)). length es) whole, length-append prefix ((place_variable, s) ∷ []))
