-- The plan of a term is over the system of its place.
use Rattle.std.specs.Prelude.{⊤}
use Rattle.std.proofs.Common.{◌≡◌, ℕ, zero, suc, ◌+◌, ◌-◌, ◌/◌, ◌%◌, ◌<◌, ◌≤◌, ◌==◌, Bool, true, false, if◌then◌else◌, List, [], ◌∷◌, ◌++◌, Option, None, Some, inl, inr, refl, sym, ap, ◌∙◌, arith}
use Rattle.std.specs.List.{AllByRecursion}
use Rattle.digit_tuple.specs.declared.direction.Direction.{Direction}
use Rattle.formula_parse.specs.Tokens.{Name, Sign, plus, minus, equal}
use Rattle.formula_parse.specs.Tokens as tokens
use Rattle.formula_parse.specs.Trees.{Term, variable, numeral, product, sum, Factors, no_factors, factors, times, divided, Addends, no_addends, addends, and}
use Rattle.term_plans.specs.Tracks.{Track, own, fresh, same_track, has_track}
use Rattle.term_plans.specs.Plans.{Plan, compared, added, number, constant, joined, tracks, Made}
use Rattle.term_plans.specs.TermPlans.{TermPlan, closed, no_times, linked, multiple, parted, below, quotient_made, Scaling, by_numeral, by_divisor, scaling_made, scaled, scaled_all, sum_relation, with_addend, numeral_plan, begun, term_plan, factor_plans, sum_plan}
use Rattle.formula_plan.specs.FactPlans.{Headers}
use Rattle.term_plans.proofs.MultipleLemmas.{IsBelow, below_more}
use Rattle.term_plans.proofs.TrackLemmas.{fresh_apart, first_is, later_is}
use Rattle.term_plans.proofs.AgreementLemmas.{has_first, has_second}
use Rattle.formula_resolve.specs.Occurrences.{Binders, term_occurrences, factor_occurrences, addend_occurrences}
use Rattle.formula_resolve.specs.declared.occurrence.Occurrence.{Occurrence}
use Rattle.formula_build.specs.TrackSystems.{TrackSystems, IsOver}
use Rattle.plan_relations.proofs.AllLemmas.{all_first, all_second}
use Rattle.formula_build.proofs.HasLemmas.{other_track_stays}
use Rattle.formula_build.proofs.GrowthLemmas.{scaled_up}
use Rattle.formula_build.proofs.OverLemmas.{each_among, over_projected, Only, OrIs, only_more, only_linked, OnlyOf, only_closed, has_closed, Faces, one_direction, OverOf, over_joined, over_closed, faces_closed}

-- the track of such a variable
abbrev pub IsOwn : (Name → Type 0) → Track → Type 0
IsOwn O (own n) = O n
IsOwn O (fresh i) = ⊥

-- all fresh tracks, and those of some variables, are over one system
pub record AreOn (on : TrackSystems) (s : Name) (O : Name → Type 0) : Type 0 where
  pub of_fresh : (i : ℕ) → on (fresh i) ≡ s
  pub of_own : (n : Name) → O n → on (own n) ≡ s

-- the relation of a fresh track is over systems; its other tracks are those of such variables
pub record IsRelated (h : Headers) (direction : Name → Direction) (on : TrackSystems) (O : Name → Type 0) (j : ℕ) (r : Plan) (k next : ℕ) : Type 0 where
  pub low : k ≤ j
  pub high : j < next
  pub over : IsOver h direction on r
  pub there : has_track (tracks r) (fresh j) ≡ true
  pub only : Only (OrIs (IsOwn O) (fresh j)) r

abbrev pub IsPlacedOver : Headers → (Name → Direction) → TrackSystems → (Name → Type 0) → Track → Option Plan → ℕ → ℕ → Type 0
IsPlacedOver h direction on O (own n) None k next = O n × (k ≤ next)
IsPlacedOver h direction on O (fresh j) (Some r) k next = IsRelated h direction on O j r k next
IsPlacedOver h direction on O (own n) (Some r) k next = ⊥
IsPlacedOver h direction on O (fresh j) None k next = ⊥

-- the multiple's tracks
multiple_only : (E : Track → Type 0) (most : ℕ) (s : Name) (c : ℕ) (x y : Track) (k : ℕ) → E x → E y → Only E (multiple most s c x y k).last
multiple_only E zero s c x y k first second = each_among E (y ∷ x ∷ []) (second, (first, tt))
multiple_only E (suc most) s c x y k first second =
    by_zero (c == 0) (multiple_only (OrIs E (fresh k)) most s (c / 2) x (fresh k) (k + 1) (inl first) (inr refl))
    (multiple_only (OrIs E (fresh k)) most s (c - 1) x (fresh k) (k + 1) (inl first) (inr refl)) (c == 1) (c == 2) (c % 2 == 0)
  where
    half : Made
    half = multiple most s (c / 2) x (fresh k) (k + 1)

    less : Made
    less = multiple most s (c - 1) x (fresh k) (k + 1)

    even : Plan
    even = added s (fresh k) (fresh k) y

    odd : Plan
    odd = added s (fresh k) x y

    by_zero : (z : Bool) → Only (OrIs E (fresh k)) half.last → Only (OrIs E (fresh k)) less.last → (o t e : Bool)
        → Only E (if z then no_times s x y k else (if o then record { steps = []; last = compared s equal x y; next = k } else (if t then record { steps = []; last = added s x x y; next = k } else (if e then linked half (fresh k) even else linked less (fresh k) odd)))).last
    by_zero true a b o t e = each_among E (y ∷ x ∷ []) (second, (first, tt))
    by_zero false a b true t e = each_among E (x ∷ y ∷ []) (first, (second, tt))
    by_zero false a b false true e = each_among E (x ∷ x ∷ y ∷ []) (first, (first, (second, tt)))
    by_zero false a b false false true = only_linked E half (fresh k) even a (each_among (OrIs E (fresh k)) (fresh k ∷ fresh k ∷ y ∷ []) (inr refl, (inr refl, (inl second, tt))))
    by_zero false a b false false false = only_linked E less (fresh k) odd b (each_among (OrIs E (fresh k)) (fresh k ∷ x ∷ y ∷ []) (inr refl, (inl first, (inl second, tt))))

third_is : (s t u : Track) → has_track (s ∷ t ∷ u ∷ []) u ≡ true
third_is s t u = later_is s (t ∷ u ∷ []) u (later_is t (u ∷ []) u (first_is u []))

apart_above : (t : Track) (k : ℕ) → IsBelow t k → same_track (fresh k) t ≡ false
apart_above (own n) k below = refl
apart_above (fresh j) k below = fresh_apart k j (λ same. let s : k ≡ j = same in omega (arith, below, s))

linked_has : (m : Made) (k : ℕ) (base : Plan) (y : Track) → IsBelow y k → has_track (tracks base) y ≡ true → has_track (tracks (linked m (fresh k) base).last) y ≡ true
linked_has m k base y below there = other_track_stays (fresh k) (tracks m.last ++ tracks base) y (has_second (tracks m.last) (tracks base) y there) (apart_above y k below)

multiple_has : (most : ℕ) (s : Name) (c : ℕ) (x y : Track) (k : ℕ) → IsBelow y k → has_track (tracks (multiple most s c x y k).last) y ≡ true
multiple_has zero s c x y k below = first_is y (x ∷ [])
multiple_has (suc most) s c x y k below = by_zero (c == 0) (c == 1) (c == 2) (c % 2 == 0)
  where
    half : Made
    half = multiple most s (c / 2) x (fresh k) (k + 1)

    less : Made
    less = multiple most s (c - 1) x (fresh k) (k + 1)

    even : Plan
    even = added s (fresh k) (fresh k) y

    odd : Plan
    odd = added s (fresh k) x y

    by_zero : (z o t e : Bool)
        → has_track (tracks (if z then no_times s x y k else (if o then record { steps = []; last = compared s equal x y; next = k } else (if t then record { steps = []; last = added s x x y; next = k } else (if e then linked half (fresh k) even else linked less (fresh k) odd)))).last) y ≡ true
    by_zero true o t e = first_is y (x ∷ [])
    by_zero false true t e = later_is x (y ∷ []) y (first_is y [])
    by_zero false false true e = third_is x x y
    by_zero false false false true = linked_has half k even y below (third_is (fresh k) (fresh k) y)
    by_zero false false false false = linked_has less k odd y below (third_is (fresh k) x y)

-- the value's own track is among a multiple's
linked_has_first : (m : Made) (k : ℕ) (base : Plan) (y : Track) → IsBelow y k → has_track (tracks m.last) y ≡ true → has_track (tracks (linked m (fresh k) base).last) y ≡ true
linked_has_first m k base y below there = other_track_stays (fresh k) (tracks m.last ++ tracks base) y (has_first (tracks m.last) (tracks base) y there) (apart_above y k below)

multiple_has_value : (most : ℕ) (s : Name) (c : ℕ) (x y : Track) (k : ℕ) → IsBelow x k → has_track (tracks (multiple most s c x y k).last) x ≡ true
multiple_has_value zero s c x y k below = later_is y (x ∷ []) x (first_is x [])
multiple_has_value (suc most) s c x y k below =
    by_zero (c == 0) (multiple_has_value most s (c / 2) x (fresh k) (k + 1) (below_more x k (k + 1) below (omega arith)))
    (multiple_has_value most s (c - 1) x (fresh k) (k + 1) (below_more x k (k + 1) below (omega arith))) (c == 1) (c == 2) (c % 2 == 0)
  where
    half : Made
    half = multiple most s (c / 2) x (fresh k) (k + 1)

    less_one : Made
    less_one = multiple most s (c - 1) x (fresh k) (k + 1)

    even : Plan
    even = added s (fresh k) (fresh k) y

    odd : Plan
    odd = added s (fresh k) x y

    by_zero : (z : Bool) → has_track (tracks half.last) x ≡ true → has_track (tracks less_one.last) x ≡ true → (o t e : Bool)
        → has_track (tracks (if z then no_times s x y k else (if o then record { steps = []; last = compared s equal x y; next = k } else (if t then record { steps = []; last = added s x x y; next = k } else (if e then linked half (fresh k) even else linked less_one (fresh k) odd)))).last) x ≡ true
    by_zero true a b o t e = later_is y (x ∷ []) x (first_is x [])
    by_zero false a b true t e = first_is x (y ∷ [])
    by_zero false a b false true e = first_is x (x ∷ y ∷ [])
    by_zero false a b false false true = linked_has_first half k even x below a
    by_zero false a b false false false = linked_has_first less_one k odd x below b

-- the quotient's tracks
parted_only : (E : Track → Type 0) (s : Name) (c : ℕ) (x y : Track) (k r next : ℕ) → E x → E y → E (fresh r) → Only E (parted s c x y (fresh k) (fresh r) next).last
parted_only E s c x y k r next first second rest =
    only_linked E (multiple c s c y (fresh k) next) (fresh k) (added s (fresh k) (fresh r) x) (multiple_only (OrIs E (fresh k)) c s c y (fresh k) next (inl second) (inr refl))
    (each_among (OrIs E (fresh k)) (fresh k ∷ fresh r ∷ x ∷ []) (inr refl, (inl rest, (inl first, tt))))

below_only : (E : Track → Type 0) (s : Name) (c r b next : ℕ) → E (fresh r) → Only E (below s c (fresh r) (fresh b) next).last
below_only E s c r b next rest =
    only_linked E (record { steps = constant s c (fresh b) ∷ []; last = constant s c (fresh b); next = next }) (fresh b) (compared s tokens.less (fresh r) (fresh b))
    (each_among (OrIs E (fresh b)) (fresh b ∷ []) (inr refl, tt)) (each_among (OrIs E (fresh b)) (fresh r ∷ fresh b ∷ []) (inl rest, (inr refl, tt)))

-- the parts of a quotient
abbrev whole_of : Name → ℕ → Track → Track → ℕ → Made
whole_of s c x y k = parted s c x y (fresh k) (fresh (k + 1)) (k + 3)

abbrev small_of : Name → ℕ → Track → Track → ℕ → Made
small_of s c x y k = below s c (fresh (k + 1)) (fresh (k + 2)) (whole_of s c x y k).next

abbrev both_of : Name → ℕ → Track → Track → ℕ → Made
both_of s c x y k = record { steps = (whole_of s c x y k).steps ++ (small_of s c x y k).steps; last = (small_of s c x y k).last; next = (small_of s c x y k).next }

quotient_only : (E : Track → Type 0) (s : Name) (c : ℕ) (x y : Track) (k : ℕ) → E x → E y → Only E (quotient_made s c x y k).last
quotient_only E s c x y k first second = by (c == 1)
  where
    F : Track → Type 0
    F = OrIs E (fresh (k + 1))

    by : (b : Bool) → Only E (if b then record { steps = []; last = compared s equal x y; next = k } else linked (both_of s c x y k) (fresh (k + 1)) (whole_of s c x y k).last).last
    by true = each_among E (x ∷ y ∷ []) (first, (second, tt))
    by false =
        only_linked E (both_of s c x y k) (fresh (k + 1)) (whole_of s c x y k).last (below_only F s c (k + 1) (k + 2) (whole_of s c x y k).next (inr refl))
        (parted_only F s c x y k (k + 1) (k + 3) (inl first) (inl second) (inr refl))

quotient_has : (s : Name) (c : ℕ) (x y : Track) (k : ℕ) → IsBelow y k → has_track (tracks (quotient_made s c x y k).last) y ≡ true
quotient_has s c x y k low = by (c == 1)
  where
    by : (b : Bool) → has_track (tracks (if b then record { steps = []; last = compared s equal x y; next = k } else linked (both_of s c x y k) (fresh (k + 1)) (whole_of s c x y k).last).last) y ≡ true
    by true = later_is x (y ∷ []) y (first_is y [])
    by false =
        linked_has (both_of s c x y k) (k + 1) (whole_of s c x y k).last y (below_more y k (k + 1) low (omega arith))
        (linked_has_first (multiple c s c y (fresh k) (k + 3)) k (added s (fresh k) (fresh (k + 1)) x) y low (multiple_has_value c s c y (fresh k) (k + 3) (below_more y k (k + 3) low (omega arith))))

scaling_only : (E : Track → Type 0) (s : Name) (f : Scaling) (x y : Track) (k : ℕ) → E x → E y → Only E (scaling_made s f x y k).last
scaling_only E s (by_numeral c) x y k first second = multiple_only E c s c x y k first second
scaling_only E s (by_divisor c) x y k first second = quotient_only E s c x y k first second

scaling_has : (s : Name) (f : Scaling) (x y : Track) (k : ℕ) → IsBelow y k → has_track (tracks (scaling_made s f x y k).last) y ≡ true
scaling_has s (by_numeral c) x y k low = multiple_has c s c x y k low
scaling_has s (by_divisor c) x y k low = quotient_has s c x y k low

module _ (h : Headers) (direction : Name → Direction) (on : TrackSystems) (s : Name) (O : Name → Type 0) (are_on : AreOn on s O) where
  abbrev IsTermPlaced : TermPlan → ℕ → Type 0
  IsTermPlaced p k = IsPlacedOver h direction on O p.placed.track p.placed.relation k p.next

  own_on : (t : Track) → IsOwn O t → on t ≡ s
  own_on (own n) is = are_on.of_own n is
  own_on (fresh i) is = absurd is

  value_on : (j : ℕ) (t : Track) → OrIs (IsOwn O) (fresh j) t → on t ≡ s
  value_on j t (inl is) = own_on t is
  value_on j t (inr same) = ap on (sym same) ∙ are_on.of_fresh j

  pub track_on : (t : Track) (r : Option Plan) (k next : ℕ) → IsPlacedOver h direction on O t r k next → on t ≡ s
  track_on (own n) None k next placed_over = are_on.of_own n placed_over.0
  track_on (fresh j) (Some r) k next placed_over = are_on.of_fresh j
  track_on (own n) (Some r) k next placed_over = absurd placed_over
  track_on (fresh j) None k next placed_over = absurd placed_over

  placed_over_up : (t : Track) (r : Option Plan) (k next : ℕ) → IsPlacedOver h direction on O t r k next → k ≤ next
  placed_over_up (own n) None k next placed_over = placed_over.1
  placed_over_up (fresh j) (Some r) k next placed_over = omega (arith, placed_over.low, placed_over.high)
  placed_over_up (own n) (Some r) k next placed_over = absurd placed_over
  placed_over_up (fresh j) None k next placed_over = absurd placed_over

  track_apart : (t : Track) (r : Option Plan) (k next i : ℕ) → IsPlacedOver h direction on O t r k next → next ≤ i → same_track t (fresh i) ≡ false
  track_apart (own n) None k next i placed_over past = refl
  track_apart (fresh j) (Some r) k next i placed_over past = fresh_apart j i (λ same. let e : j ≡ i = same in omega (arith, placed_over.high, past, e))
  track_apart (own n) (Some r) k next i placed_over past = absurd placed_over
  track_apart (fresh j) None k next i placed_over past = absurd placed_over

  -- where such variables are E, all tracks of a value are, but a fresh one
  pub value_only : (E : Track → Type 0) (t : Track) (r : Option Plan) (k next : ℕ) → ((u : Track) → IsOwn O u → E u) → IsPlacedOver h direction on O t r k next → OnlyOf E t r
  value_only E (own n) None k next more placed_over = more (own n) placed_over.0
  value_only E (fresh j) (Some r) k next more placed_over = only_more (OrIs (IsOwn O) (fresh j)) (OrIs E (fresh j)) r each placed_over.only
    where
      each : (u : Track) → OrIs (IsOwn O) (fresh j) u → OrIs E (fresh j) u
      each u (inl is) = inl (more u is)
      each u (inr same) = inr same
  value_only E (own n) (Some r) k next more placed_over = absurd placed_over
  value_only E (fresh j) None k next more placed_over = absurd placed_over

  pub value_over : (t : Track) (r : Option Plan) (k next : ℕ) → IsPlacedOver h direction on O t r k next → OverOf h direction on (direction s) t r
  value_over (own n) None k next placed_over = tt
  value_over (fresh j) (Some r) k next placed_over = (placed_over.over, placed_over.there, λ u is. ap direction (value_on j u (placed_over.only u is)))
  value_over (own n) (Some r) k next placed_over = absurd placed_over
  value_over (fresh j) None k next placed_over = absurd placed_over

  linked_over : (m : Made) (k : ℕ) (base : Plan) → IsOver h direction on m.last → Only (Faces direction on (direction s)) m.last → IsOver h direction on base → Only (Faces direction on (direction s)) base
      → has_track (tracks base) (fresh k) ≡ true → IsOver h direction on (linked m (fresh k) base).last
  linked_over m k base first one second two there =
      over_projected h direction on (fresh k) (joined and m.last base) (has_second (tracks m.last) (tracks base) (fresh k) there) (over_joined h direction on (direction s) and m.last base first one second two)

  multiple_over : (most : ℕ) (c : ℕ) (x y : Track) (k : ℕ) → on x ≡ s → on y ≡ s → IsOver h direction on (multiple most s c x y k).last
  multiple_over zero c x y k first second = (second, first, one_direction direction on (direction s) (constant s 0 y) (number s x) (each_among (Faces direction on (direction s)) (y ∷ []) (ap direction second, tt)) (each_among (Faces direction on (direction s)) (x ∷ []) (ap direction first, tt)))
  multiple_over (suc most) c x y k first second =
      by_zero (c == 0) (multiple_over most (c / 2) x (fresh k) (k + 1) first (are_on.of_fresh k)) (multiple_over most (c - 1) x (fresh k) (k + 1) first (are_on.of_fresh k)) (c == 1) (c == 2) (c % 2 == 0)
    where
      F : Track → Type 0
      F = Faces direction on (direction s)

      here : on (fresh k) ≡ s
      here = are_on.of_fresh k

      half : Made
      half = multiple most s (c / 2) x (fresh k) (k + 1)

      less : Made
      less = multiple most s (c - 1) x (fresh k) (k + 1)

      even : Plan
      even = added s (fresh k) (fresh k) y

      odd : Plan
      odd = added s (fresh k) x y

      by_zero : (z : Bool) → IsOver h direction on half.last → IsOver h direction on less.last → (o t e : Bool)
          → IsOver h direction on (if z then no_times s x y k else (if o then record { steps = []; last = compared s equal x y; next = k } else (if t then record { steps = []; last = added s x x y; next = k } else (if e then linked half (fresh k) even else linked less (fresh k) odd)))).last
      by_zero true a b o t e = (second, first, one_direction direction on (direction s) (constant s 0 y) (number s x) (each_among F (y ∷ []) (ap direction second, tt)) (each_among F (x ∷ []) (ap direction first, tt)))
      by_zero false a b true t e = (first, second)
      by_zero false a b false true e = (first, first, second)
      by_zero false a b false false true = linked_over half k even a (multiple_only F most s (c / 2) x (fresh k) (k + 1) (ap direction first) (ap direction here)) (here, here, second)
          (each_among F (fresh k ∷ fresh k ∷ y ∷ []) (ap direction here, (ap direction here, (ap direction second, tt)))) (first_is (fresh k) (fresh k ∷ y ∷ []))
      by_zero false a b false false false = linked_over less k odd b (multiple_only F most s (c - 1) x (fresh k) (k + 1) (ap direction first) (ap direction here)) (here, first, second)
          (each_among F (fresh k ∷ x ∷ y ∷ []) (ap direction here, (ap direction first, (ap direction second, tt)))) (first_is (fresh k) (x ∷ y ∷ []))

  quotient_over : (c : ℕ) (x y : Track) (k : ℕ) → on x ≡ s → on y ≡ s → IsOver h direction on (quotient_made s c x y k).last
  quotient_over c x y k first second = by (c == 1)
    where
      F : Track → Type 0
      F = Faces direction on (direction s)

      fresh_faces : (i : ℕ) → F (fresh i)
      fresh_faces i = ap direction (are_on.of_fresh i)

      whole : Made
      whole = whole_of s c x y k

      bound : Made
      bound = record { steps = constant s c (fresh (k + 2)) ∷ []; last = constant s c (fresh (k + 2)); next = whole.next }

      whole_over : IsOver h direction on whole.last
      whole_over =
          linked_over (multiple c s c y (fresh k) (k + 3)) k (added s (fresh k) (fresh (k + 1)) x) (multiple_over c c y (fresh k) (k + 3) second (are_on.of_fresh k))
          (multiple_only F c s c y (fresh k) (k + 3) (ap direction second) (fresh_faces k)) (are_on.of_fresh k, are_on.of_fresh (k + 1), first)
          (each_among F (fresh k ∷ fresh (k + 1) ∷ x ∷ []) (fresh_faces k, (fresh_faces (k + 1), (ap direction first, tt)))) (first_is (fresh k) (fresh (k + 1) ∷ x ∷ []))

      small_over : IsOver h direction on (small_of s c x y k).last
      small_over =
          linked_over bound (k + 2) (compared s tokens.less (fresh (k + 1)) (fresh (k + 2))) (are_on.of_fresh (k + 2)) (each_among F (fresh (k + 2) ∷ []) (fresh_faces (k + 2), tt))
          (are_on.of_fresh (k + 1), are_on.of_fresh (k + 2)) (each_among F (fresh (k + 1) ∷ fresh (k + 2) ∷ []) (fresh_faces (k + 1), (fresh_faces (k + 2), tt)))
          (later_is (fresh (k + 1)) (fresh (k + 2) ∷ []) (fresh (k + 2)) (first_is (fresh (k + 2)) []))

      rest_there : has_track (tracks whole.last) (fresh (k + 1)) ≡ true
      rest_there =
          other_track_stays (fresh k) (tracks (multiple c s c y (fresh k) (k + 3)).last ++ (fresh k ∷ fresh (k + 1) ∷ x ∷ [])) (fresh (k + 1))
          (has_second (tracks (multiple c s c y (fresh k) (k + 3)).last) (fresh k ∷ fresh (k + 1) ∷ x ∷ []) (fresh (k + 1)) (later_is (fresh k) (fresh (k + 1) ∷ x ∷ []) (fresh (k + 1)) (first_is (fresh (k + 1)) (x ∷ []))))
          (fresh_apart k (k + 1) (λ same. let e : k ≡ k + 1 = same in omega (arith, e)))

      by : (b : Bool) → IsOver h direction on (if b then record { steps = []; last = compared s equal x y; next = k } else linked (both_of s c x y k) (fresh (k + 1)) whole.last).last
      by true = (first, second)
      by false =
          linked_over (both_of s c x y k) (k + 1) whole.last small_over (below_only F s c (k + 1) (k + 2) whole.next (fresh_faces (k + 1)))
          whole_over (parted_only F s c x y k (k + 1) (k + 3) (ap direction first) (ap direction second) (fresh_faces (k + 1))) rest_there

  scaling_over : (f : Scaling) (x y : Track) (k : ℕ) → on x ≡ s → on y ≡ s → IsOver h direction on (scaling_made s f x y k).last
  scaling_over (by_numeral c) x y k first second = multiple_over c c x y k first second
  scaling_over (by_divisor c) x y k first second = quotient_over c x y k first second

  scaled_is_placed : (p : TermPlan) (f : Scaling) (k : ℕ) → IsTermPlaced p k → IsTermPlaced (scaled s p f) k
  scaled_is_placed p f k placed_over =
      let up = scaled_up s p f in
      let below = placed_over_up p.placed.track p.placed.relation k p.next placed_over in
      let x = p.placed.track in
      let y = fresh p.next in
      let at_x = track_on x p.placed.relation k p.next placed_over in
      let at_y = are_on.of_fresh p.next in
      let base = (scaling_made s f x y (p.next + 1)).last in
      let E = OrIs (IsOwn O) y in
      record {
        low = below;
        high = omega (arith, up);
        over = over_closed h direction on (direction s) x p.placed.relation base (value_over x p.placed.relation k p.next placed_over)
            (scaling_over f x y (p.next + 1) at_x at_y)
            (scaling_only (Faces direction on (direction s)) s f x y (p.next + 1) (ap direction at_x) (ap direction at_y));
        there = has_closed x p.placed.relation base y (track_apart x p.placed.relation k p.next p.next placed_over (omega arith)) (scaling_has s f x y (p.next + 1) (omega arith));
        only = only_closed E x p.placed.relation base (value_only E x p.placed.relation k p.next (λ u is. inl is) placed_over)
            (scaling_only (OrIs E x) s f x y (p.next + 1) (inr refl) (inl (inr refl)));
      }

  all_are_placed : (p : TermPlan) (fs : List Scaling) (k : ℕ) → IsTermPlaced p k → IsTermPlaced (scaled_all s p fs) k
  all_are_placed p [] k placed_over = placed_over
  all_are_placed p (f ∷ fs) k placed_over = all_are_placed (scaled s p f) fs k (scaled_is_placed p f k placed_over)

  numeral_is_placed : (c k : ℕ) → IsTermPlaced (numeral_plan s c k) k
  numeral_is_placed c k = record {
    low = omega arith;
    high = omega arith;
    over = are_on.of_fresh k;
    there = first_is (fresh k) [];
    only = each_among (OrIs (IsOwn O) (fresh k)) (fresh k ∷ []) (inr refl, tt);
  }

  sum_over : (sign : Sign) (x y z : Track) → on x ≡ s → on y ≡ s → on z ≡ s → IsOver h direction on (sum_relation s sign x y z)
  sum_over plus x y z first second third = (first, second, third)
  sum_over minus x y z first second third = (second, third, first)

  sum_only : (E : Track → Type 0) (sign : Sign) (x y z : Track) → E x → E y → E z → Only E (sum_relation s sign x y z)
  sum_only E plus x y z first second third = each_among E (x ∷ y ∷ z ∷ []) (first, (second, (third, tt)))
  sum_only E minus x y z first second third = each_among E (y ∷ z ∷ x ∷ []) (second, (third, (first, tt)))

  sum_has : (sign : Sign) (x y z : Track) → has_track (tracks (sum_relation s sign x y z)) z ≡ true
  sum_has plus x y z = third_is x y z
  sum_has minus x y z = later_is y (z ∷ x ∷ []) z (first_is z (x ∷ []))

  addend_is_placed : (sign : Sign) (p q : TermPlan) (k : ℕ) → IsTermPlaced p k → IsTermPlaced q p.next → IsTermPlaced (with_addend s sign p q) k
  addend_is_placed sign p q k first second =
      let low = placed_over_up p.placed.track p.placed.relation k p.next first in
      let high = placed_over_up q.placed.track q.placed.relation p.next q.next second in
      let x = p.placed.track in
      let y = q.placed.track in
      let z = fresh q.next in
      let at_x = track_on x p.placed.relation k p.next first in
      let at_y = track_on y q.placed.relation p.next q.next second in
      let at_z = are_on.of_fresh q.next in
      let base = sum_relation s sign x y z in
      let inside = closed p.placed base in
      let F = Faces direction on (direction s) in
      let E = OrIs (IsOwn O) z in
      let base_faces = sum_only F sign x y z (ap direction at_x) (ap direction at_y) (ap direction at_z) in
      let of_p = value_over x p.placed.relation k p.next first in
      record {
        low = omega (arith, low, high);
        high = omega arith;
        over = over_closed h direction on (direction s) y q.placed.relation inside (value_over y q.placed.relation p.next q.next second)
            (over_closed h direction on (direction s) x p.placed.relation base of_p (sum_over sign x y z at_x at_y at_z) base_faces)
            (faces_closed h direction on (direction s) x p.placed.relation base of_p base_faces);
        there = has_closed y q.placed.relation inside z (track_apart y q.placed.relation p.next q.next q.next second (omega arith))
            (has_closed x p.placed.relation base z (track_apart x p.placed.relation k p.next q.next first high) (sum_has sign x y z));
        only = only_closed E y q.placed.relation inside (value_only E y q.placed.relation p.next q.next (λ u is. inl is) second)
            (only_closed (OrIs E y) x p.placed.relation base (value_only (OrIs E y) x p.placed.relation k p.next (λ u is. inl (inl is)) first)
            (sum_only (OrIs (OrIs E y) x) sign x y z (inr refl) (inl (inr refl)) (inl (inl (inr refl)))));
      }

  abbrev OtherIsPlaced : Option (ℕ → TermPlan) → Type 0
  OtherIsPlaced None = ⊤
  OtherIsPlaced (Some plan) = (k : ℕ) → IsTermPlaced (plan k) k

  begun_is_placed : (other : Option (ℕ → TermPlan)) (fs : List Scaling) (k : ℕ) → OtherIsPlaced other → IsTermPlaced (begun s other fs k) k
  begun_is_placed (Some plan) fs k placed_over = all_are_placed (plan k) fs k (placed_over k)
  begun_is_placed None [] k placed_over = numeral_is_placed 1 k
  begun_is_placed None (by_numeral c ∷ fs) k placed_over = all_are_placed (numeral_plan s c k) fs k (numeral_is_placed c k)
  begun_is_placed None (by_divisor c ∷ fs) k placed_over = all_are_placed (numeral_plan s 1 k) (by_divisor c ∷ fs) k (numeral_is_placed 1 k)

-- the variables of a term over a system whose occurrences are Q
abbrev pub Occurs : (Occurrence → Type 0) → Name → Binders → Name → Type 0
Occurs Q s b n = Q (record { name = n; binder = b n; system = s })

module _ (h : Headers) (direction : Name → Direction) (on : TrackSystems) (s : Name) (b : Binders) (Q : Occurrence → Type 0) (are_on : AreOn on s (Occurs Q s b)) where
  abbrev O : Name → Type 0
  O = Occurs Q s b

  mutual
    pub term_is_placed : (t : Term) → AllByRecursion Q (term_occurrences s b t) → (k : ℕ)
        → IsPlacedOver h direction on O (term_plan s t k).placed.track (term_plan s t k).placed.relation k (term_plan s t k).next
    term_is_placed (variable n) all k = (all.0, omega arith)
    term_is_placed (numeral c) all k = numeral_is_placed h direction on s O are_on c k
    term_is_placed (product fs) all k = begun_is_placed h direction on s O are_on (factor_plans s fs).other (factor_plans s fs).scalings k (factors_are_placed fs all)
    term_is_placed (sum ss t) all k =
        let first = all_first Q (addend_occurrences s b ss) (term_occurrences s b t) all in
        let second = all_second Q (addend_occurrences s b ss) (term_occurrences s b t) all in
        sum_is_placed ss first (term_plan s t) (term_is_placed t second) k

    factors_are_placed : (fs : Factors) → AllByRecursion Q (factor_occurrences s b fs) → OtherIsPlaced h direction on s O are_on (factor_plans s fs).other
    factors_are_placed no_factors all = tt
    factors_are_placed (factors fs (times (numeral c))) all = factors_are_placed fs (all_first Q (factor_occurrences s b fs) [] all)
    factors_are_placed (factors fs (divided c)) all = factors_are_placed fs (all_first Q (factor_occurrences s b fs) [] all)
    factors_are_placed (factors fs (times (variable n))) all = term_is_placed (variable n) (all_second Q (factor_occurrences s b fs) (term_occurrences s b (variable n)) all)
    factors_are_placed (factors fs (times (product gs))) all = term_is_placed (product gs) (all_second Q (factor_occurrences s b fs) (term_occurrences s b (product gs)) all)
    factors_are_placed (factors fs (times (sum ss t))) all = term_is_placed (sum ss t) (all_second Q (factor_occurrences s b fs) (term_occurrences s b (sum ss t)) all)

    sum_is_placed : (ss : Addends) → AllByRecursion Q (addend_occurrences s b ss) → (last : ℕ → TermPlan)
        → ((k : ℕ) → IsPlacedOver h direction on O (last k).placed.track (last k).placed.relation k (last k).next) → (k : ℕ)
        → IsPlacedOver h direction on O (sum_plan s ss last k).placed.track (sum_plan s ss last k).placed.relation k (sum_plan s ss last k).next
    sum_is_placed no_addends all last placed_over k = placed_over k
    sum_is_placed (addends ss t sign) all last placed_over k =
        let p = sum_plan s ss (term_plan s t) k in
        let first = all_first Q (addend_occurrences s b ss) (term_occurrences s b t) all in
        let second = all_second Q (addend_occurrences s b ss) (term_occurrences s b t) all in
        addend_is_placed h direction on s O are_on sign p (last p.next) k (sum_is_placed ss first (term_plan s t) (term_is_placed t second) k) (placed_over p.next)
