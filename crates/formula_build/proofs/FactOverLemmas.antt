-- The plan of an atom is over systems.
use Rattle.std.specs.Prelude.{⊤}
use Rattle.std.specs.Bool.{beq}
use Rattle.std.specs.Option.{option_or}
use Rattle.std.specs.List.{AllByRecursion}
use Rattle.std.proofs.lemmas.Bool.{eqb-true, false≢true}
use Rattle.std.proofs.lemmas.Option.{none-some}
use Rattle.std.proofs.lemmas.List.{take_all}
use Rattle.std.proofs.Common.{◌≡◌, ℕ, ℤ, ◌==◌, Bool, true, false, not, if◌then◌else◌, List, [], ◌∷◌, ◌++◌, map, length, take, slice_index_or, Option, None, Some, inl, inr, refl, sym, ap, ◌∙◌, subst, arith}
use Rattle.digit_tuple.specs.declared.direction.Direction.{Direction}
use Rattle.formula_parse.specs.Tokens.{Name, Relation}
use Rattle.formula_parse.specs.Trees.{Term, variable, numeral, product, sum, Terms, Index, Fact, compare, words, word_letter, letter_word, call}
use Rattle.term_plans.specs.Tracks.{Track, own, fresh, has_track}
use Rattle.term_plans.specs.Plans.{Plan, compared, called, lettered, paired, projected, tracks}
use Rattle.term_plans.specs.TermPlans.{term_plan}
use Rattle.term_plans.specs.ArgumentPlans.{Places, no_places, places, tracks_of, closed_all, count, argument_plans}
use Rattle.formula_plan.specs.FactPlans.{Form, long, variable_left, variable_right, form_by, is_equal, as_variable, named_by, compare_by, mirrored, letter_plan, words_plan, fact_plan}
use Rattle.formula_plan.specs.FactPlans as plans
use Rattle.formula_resolve.specs.Headers.{Headers, automaton_tracks, word_tracks, is_plain}
use Rattle.formula_resolve.specs.Mentions.{fact_mentions}
use Rattle.formula_resolve.specs.Mentions as mentions
use Rattle.formula_resolve.specs.Arity.{miscount, misuse, first_misuse, kept_count}
use Rattle.formula_resolve.specs.Occurrences.{Binders, term_occurrences, place_occurrences, fact_occurrences}
use Rattle.formula_resolve.specs.Directions.{is_lsd, is_other_direction, first_track, conflict_of_two, fact_conflict}
use Rattle.formula_resolve.specs.declared.mention.Mention.TheVariants.{Called}
use Rattle.formula_resolve.specs.declared.fault.ResolveFault.{ResolveFault}
use Rattle.formula_resolve.specs.declared.fault.ResolveFault.TheVariants as faults
use Rattle.formula_resolve.specs.declared.direction.Conflict.{Conflict}
use Rattle.formula_resolve.specs.declared.occurrence.Occurrence.{Occurrence}
use Rattle.formula_build.specs.TrackSystems.{TrackSystems, TracksHaveOneDirection, with_system, IsOver}
use Rattle.formula_build.specs.Resolved.{plan_headers, ShareDirection, AreDirections}
use Rattle.plan_relations.proofs.AllLemmas.{all_first, all_second}
use Rattle.formula_build.proofs.HasLemmas.{has_cases, has_either}
use Rattle.formula_build.proofs.PartLemmas.{all_closed}
use Rattle.formula_build.proofs.OverLemmas.{each_among, with_own, over_depends, Only, only_projected, OnlyOf, Faces}
use Rattle.formula_build.proofs.TermOverLemmas.{IsOwn, IsPlacedOver, track_on, value_over, Occurs, term_is_placed}
use Rattle.formula_build.proofs.PlaceOverLemmas.{on_by, OccursAnywhere, count_same, are_only_more, OrPlaced, only_all_closed, over_all_closed, term_only, arguments_only, same_systems, parted, parted_below, parted_above, systems_exist, FaceSharedDirection, constant_on, AreArguments, arguments_over}

-- where no option is there, neither of both is
pub neither : {X : Type 0} (x y : Option X) → option_or x y ≡ None → (x ≡ None) × (y ≡ None)
neither None y none = (refl, none)
neither (Some x) y none = absurd (none-some x (sym none))

counted : (n : Name) (tracks given : ℕ) → miscount n tracks given ≡ None → tracks ≡ given
counted n tracks given = by (tracks == given) refl
  where
    by : (b : Bool) → (tracks == given) ≡ b → (if b then None else Some (faults.Arity n (kept_count tracks) (kept_count given))) ≡ None → tracks ≡ given
    by true is none = eqb-true tracks given is
    by false is none = absurd (none-some (faults.Arity n (kept_count tracks) (kept_count given)) (sym none))

unless_plain : (b : Bool) (f : ResolveFault) (x : Option ResolveFault) → (if b then Some f else x) ≡ None → x ≡ None
unless_plain true f x none = absurd (none-some f (sym none))
unless_plain false f x none = none

-- an automaton has a track for each argument, and a word one for each index
pub automaton_counted : (h : Headers) (n : Name) (ts : Terms) → misuse h (Called n (mentions.count ts)) ≡ None → length (automaton_tracks h n) ≡ count ts
automaton_counted h n ts none =
    counted n (length (automaton_tracks h n)) (mentions.count ts)
    (unless_plain (is_plain h n) (faults.Plain n) (miscount n (length (automaton_tracks h n)) (mentions.count ts)) none)
    ∙ count_same ts

pub word_counted : (h : Headers) (x : Index) → misuse h (mentions.index_mention x) ≡ None → length (word_tracks h x.word) ≡ count x.places
word_counted h x none = counted x.word (length (word_tracks h x.word)) (mentions.count x.places) none ∙ count_same x.places

-- a variable that a term is occurs in it
abbrev IsIn : (Name → Type 0) → Option Name → Type 0
IsIn O None = ⊤
IsIn O (Some n) = O n

abbrev IsFormIn : (Name → Type 0) → Form → Type 0
IsFormIn O long = ⊤
IsFormIn O (variable_left n) = O n
IsFormIn O (variable_right n) = O n

variable_in : (Q : Occurrence → Type 0) (s : Name) (b : Binders) (t : Term) → AllByRecursion Q (term_occurrences s b t) → IsIn (Occurs Q s b) (as_variable t)
variable_in Q s b (variable n) all = all.0
variable_in Q s b (numeral c) all = tt
variable_in Q s b (product fs) all = tt
variable_in Q s b (sum ss t) all = tt

form_in : (O : Name → Type 0) (e : Bool) (x y : Option Name) → IsIn O x → IsIn O y → IsFormIn O (form_by e x y)
form_in O true (Some n) None first second = first
form_in O true None (Some n) first second = second
form_in O true None None first second = tt
form_in O true (Some m) (Some n) first second = tt
form_in O false x y first second = tt

compare_in : (Q : Occurrence → Type 0) (s : Name) (b : Binders) (t : Term) (r : Relation) (u : Term) → AllByRecursion Q (term_occurrences s b t) → AllByRecursion Q (term_occurrences s b u)
    → IsFormIn (Occurs Q s b) (form_by (is_equal r) (as_variable t) (as_variable u))
compare_in Q s b t r u first second = form_in (Occurs Q s b) (is_equal r) (as_variable t) (as_variable u) (variable_in Q s b t first) (variable_in Q s b u second)

named_only : (E : Track → Type 0) (s n : Name) (t : Track) (r : Option Plan) → E (own n) → OnlyOf E t r → Only E (named_by s n t r)
named_only E s n t None here value = each_among E (t ∷ own n ∷ []) (value, (here, tt))
named_only E s n t (Some r) here value = λ u is. elim (has_cases (own n) (tracks (projected t r)) u is) [ inl same ↦ subst E same here | inr later ↦ only_projected E t r value u later ]

-- the tracks of an atom's plan are those of variables that occur in it
module _ (h : Headers) (b : Binders) (Q : Occurrence → Type 0) where
  abbrev E : Track → Type 0
  E = IsOwn (OccursAnywhere Q b)

  compare_only : (form : Form) (s : Name) (t : Term) (r : Relation) (u : Term) (k : ℕ) → IsFormIn (Occurs Q s b) form
      → AllByRecursion Q (term_occurrences s b t) → AllByRecursion Q (term_occurrences s b u) → Only E (compare_by form s t r u k).last
  compare_only long s t r u k of_form first second =
      let p = term_plan s t k in
      let q = term_plan s u p.next in
      let base = compared s r p.placed.track q.placed.track in
      only_all_closed E (places (places no_places p.placed) q.placed) base ((tt, term_only Q s b t k first), term_only Q s b u p.next second) (λ v is. inr is)
  compare_only (variable_left n) s t r u k of_form first second =
      let p = term_plan s u k in named_only E s n p.placed.track p.placed.relation (s, of_form) (term_only Q s b u k second)
  compare_only (variable_right n) s t r u k of_form first second =
      let p = term_plan s t k in named_only E s n p.placed.track p.placed.relation (s, of_form) (term_only Q s b t k first)

  letter_only : (x : Index) (r : Relation) (l : ℤ) (k : ℕ) → misuse h (mentions.index_mention x) ≡ None → AllByRecursion Q (place_occurrences (word_tracks h x.word) b x.places)
      → Only E (letter_plan (plan_headers h) x r l k).last
  letter_only x r l k right all =
      let ss = word_tracks h x.word in
      let ps = argument_plans ss x.places k in
      let same = word_counted h x right in
      only_all_closed E ps.placed (lettered x.word (tracks_of ps.placed) r l) (arguments_only Q ss b x.places k (omega (arith, same)) all) (λ u is. inr is)

  words_only : (x : Index) (r : Relation) (y : Index) (k : ℕ) → misuse h (mentions.index_mention x) ≡ None → misuse h (mentions.index_mention y) ≡ None
      → AllByRecursion Q (place_occurrences (word_tracks h x.word) b x.places) → AllByRecursion Q (place_occurrences (word_tracks h y.word) b y.places)
      → Only E (words_plan (plan_headers h) x r y k).last
  words_only x r y k right also first second =
      let ss = word_tracks h x.word in
      let us = word_tracks h y.word in
      let ps = argument_plans ss x.places k in
      let qs = argument_plans us y.places ps.next in
      let base = paired x.word (tracks_of ps.placed) r y.word (tracks_of qs.placed) in
      let one = word_counted h x right in
      let two = word_counted h y also in
      let of_ps = arguments_only Q ss b x.places k (omega (arith, one)) first in
      let of_qs = arguments_only Q us b y.places ps.next (omega (arith, two)) second in
      let F = OrPlaced E qs.placed in
      subst (λ (p : Plan). Only E p) (sym (all_closed ps.placed qs.placed base))
      (only_all_closed E qs.placed (closed_all ps.placed base) of_qs
      (only_all_closed F ps.placed base (are_only_more E F (λ u is. inl is) ps.placed of_ps) (each ps.placed qs.placed)))
    where
      each : (ps qs : Places) (u : Track) → has_track (tracks_of ps ++ tracks_of qs) u ≡ true → OrPlaced (OrPlaced E qs) ps u
      each ps qs u is = elim (has_either (tracks_of ps) (tracks_of qs) u is) [ inl in_ps ↦ inr in_ps | inr in_qs ↦ inl (inr in_qs) ]

  pub fact_only : (s : Name) (x : Fact) (k : ℕ) → first_misuse h (fact_mentions x) ≡ None → AllByRecursion Q (fact_occurrences h b s x) → Only E (fact_plan (plan_headers h) s x k).last
  fact_only s (compare t r u) k right all =
      let first = all_first Q (term_occurrences s b t) (term_occurrences s b u) all in
      let second = all_second Q (term_occurrences s b t) (term_occurrences s b u) all in
      compare_only (form_by (is_equal r) (as_variable t) (as_variable u)) s t r u k (compare_in Q s b t r u first second) first second
  fact_only s (call n ts) k right all =
      let ss = automaton_tracks h n in
      let ps = argument_plans ss ts k in
      let same = automaton_counted h n ts (neither (misuse h (Called n (mentions.count ts))) None right).0 in
      only_all_closed E ps.placed (called n (tracks_of ps.placed)) (arguments_only Q ss b ts k (omega (arith, same)) all) (λ u is. inr is)
  fact_only s (word_letter x r l) k right all = letter_only x r l k (neither (misuse h (mentions.index_mention x)) None right).0 all
  fact_only s (letter_word l r x) k right all = letter_only x (mirrored r) l k (neither (misuse h (mentions.index_mention x)) None right).0 all
  fact_only s (words x r y) k right all =
      let of_x = neither (misuse h (mentions.index_mention x)) (first_misuse h (mentions.index_mention y ∷ [])) right in
      let of_y = neither (misuse h (mentions.index_mention y)) None of_x.1 in
      let prefix = place_occurrences (word_tracks h x.word) b x.places in
      let back = place_occurrences (word_tracks h y.word) b y.places in
      words_only x r y k of_x.0 of_y.0 (all_first Q prefix back all) (all_second Q prefix back all)

-- directions of systems
shared_direction : (direction : Name → Direction) (ss : List Name) → ShareDirection direction ss → FaceSharedDirection direction (direction (slice_index_or ss 0 [])) ss
shared_direction direction ss one = λ i within. one i 0 within (omega (arith, within))

same_direction : (p q : Bool) → not (beq p q) ≡ false → p ≡ q
same_direction true true is = refl
same_direction true false is = absurd (false≢true (sym is))
same_direction false true is = absurd (false≢true (sym is))
same_direction false false is = refl

pub not_other_direction : (s t : Name) → is_other_direction s t ≡ false → is_lsd s ≡ is_lsd t
not_other_direction s t is = same_direction (is_lsd s) (is_lsd t) is

no_conflict_of_two : (s t : Name) → conflict_of_two (Some s) (Some t) ≡ None → is_other_direction s t ≡ false
no_conflict_of_two s t = by (is_other_direction s t)
  where
    conflict : Conflict
    conflict = record { first = s; other = t }

    by : (b : Bool) → (if b then Some conflict else None) ≡ None → b ≡ false
    by true none = absurd (none-some conflict (sym none))
    by false none = refl

-- two words of an atom have one direction
two_directions : (direction : Name → Direction) → ((s t : Name) → is_lsd s ≡ is_lsd t → direction s ≡ direction t) → (ss us : List Name) → ShareDirection direction ss → ShareDirection direction us
    → conflict_of_two (first_track ss) (first_track us) ≡ None → (d : Direction) × FaceSharedDirection direction d ss × FaceSharedDirection direction d us
two_directions direction by_name [] us first second none = (direction (slice_index_or us 0 []), (λ i within. absurd (omega (arith, within))), shared_direction direction us second)
two_directions direction by_name (s ∷ ss) [] first second none = (direction s, shared_direction direction (s ∷ ss) first, (λ i within. absurd (omega (arith, within))))
two_directions direction by_name (s ∷ ss) (u ∷ us) first second none =
    let same : direction u ≡ direction s = sym (by_name s u (not_other_direction s u (no_conflict_of_two s u none))) in
    (direction s, shared_direction direction (s ∷ ss) first, (λ i within. shared_direction direction (u ∷ us) second i within ∙ same))

module _ (h : Headers) (direction : Name → Direction) (directions : AreDirections h direction) (scope : Name → Name) (b : Binders) (Q : Occurrence → Type 0) (of_scope : (s n : Name) → Occurs Q s b n → scope n ≡ s) where
  abbrev ph : plans.Headers
  ph = plan_headers h

  -- fresh tracks that a plan does not have may be over any systems
  pub own_depends : (O : Name → Type 0) (p : Plan) (f g : ℕ → Name) → Only (IsOwn O) p → IsOver ph direction (on_by scope f) p → IsOver ph direction (on_by scope g) p
  own_depends O p f g only over = over_depends ph direction p (on_by scope f) (on_by scope g) (λ u is. same u (only u is)) over
    where
      same : (u : Track) → IsOwn O u → on_by scope f u ≡ on_by scope g u
      same (own n) is = refl
      same (fresh i) is = absurd is

  named_over : (s n : Name) (t : Track) (r : Option Plan) (k next : ℕ) → Occurs Q s b n → IsPlacedOver ph direction (on_by scope (λ i. s)) (Occurs Q s b) t r k next → IsOver ph direction (on_by scope (λ i. s)) (named_by s n t r)
  named_over s n (own m) None k next of_n placed_over = (of_scope s m placed_over.0, of_scope s n of_n)
  named_over s n (fresh j) (Some r) k next of_n placed_over =
      let on = on_by scope (λ i. s) in
      let same : on (fresh j) ≡ on (own n) = sym (of_scope s n of_n) in (
        placed_over.there,
        over_depends ph direction r on (with_system (fresh j) (on (own n)) on) (λ u is. with_own (fresh j) on u ∙ ap (λ (y : Name). with_system (fresh j) y on u) same) placed_over.over,
      )
  named_over s n (own m) (Some r) k next of_n placed_over = absurd placed_over
  named_over s n (fresh j) None k next of_n placed_over = absurd placed_over

  compare_over : (form : Form) (s : Name) (t : Term) (r : Relation) (u : Term) (k : ℕ) → IsFormIn (Occurs Q s b) form
      → AllByRecursion Q (term_occurrences s b t) → AllByRecursion Q (term_occurrences s b u) → IsOver ph direction (on_by scope (λ i. s)) (compare_by form s t r u k).last
  compare_over long s t r u k of_form first second =
      let on = on_by scope (λ i. s) in
      let are_on = constant_on ph direction scope b Q of_scope s in
      let p = term_plan s t k in
      let q = term_plan s u p.next in
      let x = p.placed.track in
      let y = q.placed.track in
      let one = term_is_placed ph direction on s b Q are_on t first k in
      let two = term_is_placed ph direction on s b Q are_on u second p.next in
      let at_x = track_on ph direction on s (Occurs Q s b) are_on x p.placed.relation k p.next one in
      let at_y = track_on ph direction on s (Occurs Q s b) are_on y q.placed.relation p.next q.next two in
      (over_all_closed ph direction on (direction s) (places (places no_places p.placed) q.placed) (compared s r x y) (
        (tt, value_over ph direction on s (Occurs Q s b) are_on x p.placed.relation k p.next one),
        value_over ph direction on s (Occurs Q s b) are_on y q.placed.relation p.next q.next two,
      )
      (at_x, at_y) (each_among (Faces direction on (direction s)) (x ∷ y ∷ []) (ap direction at_x, (ap direction at_y, tt)))).0
  compare_over (variable_left n) s t r u k of_form first second =
      let p = term_plan s u k in
      named_over s n p.placed.track p.placed.relation k p.next of_form (term_is_placed ph direction (on_by scope (λ i. s)) s b Q (constant_on ph direction scope b Q of_scope s) u second k)
  compare_over (variable_right n) s t r u k of_form first second =
      let p = term_plan s t k in
      named_over s n p.placed.track p.placed.relation k p.next of_form (term_is_placed ph direction (on_by scope (λ i. s)) s b Q (constant_on ph direction scope b Q of_scope s) t first k)

  -- a base over the tracks of arguments, closed
  arguments_closed : (ss : List Name) (ts : Terms) (k : ℕ) (base : Plan) → tracks base ≡ tracks_of (argument_plans ss ts k).placed → ShareDirection direction ss → length ss ≡ count ts
      → AllByRecursion Q (place_occurrences ss b ts)
      → ((g : ℕ → Name) → map (on_by scope g) (tracks_of (argument_plans ss ts k).placed) ≡ ss → IsOver ph direction (on_by scope g) base)
      → (g : ℕ → Name) × IsOver ph direction (on_by scope g) (closed_all (argument_plans ss ts k).placed base)
  arguments_closed ss ts k base same one_direction counted all over_base =
      let d = direction (slice_index_or ss 0 []) in
      let some = systems_exist ss ts k in
      let on = on_by scope some.0 in
      let are : AreArguments ph direction scope b Q of_scope some.0 d ss ts k =
      arguments_over ph direction scope b Q of_scope some.0 d ss ts k (omega (arith, counted)) (shared_direction direction ss one_direction) some.1 all in
      let whole : take (count ts) ss ≡ ss = take_all (count ts) ss (omega (arith, counted)) in
      let facing : Only (Faces direction on d) base = λ u is.
      each_among (Faces direction on d) (tracks_of (argument_plans ss ts k).placed) are.faces u (subst (λ (us : List Track). has_track us u ≡ true) same is) in
      (some.0, (over_all_closed ph direction on d (argument_plans ss ts k).placed base are.over (over_base some.0 (are.systems ∙ whole)) facing).0)

  letter_over : (x : Index) (r : Relation) (l : ℤ) (k : ℕ) → misuse h (mentions.index_mention x) ≡ None → AllByRecursion Q (place_occurrences (word_tracks h x.word) b x.places)
      → (g : ℕ → Name) × IsOver ph direction (on_by scope g) (letter_plan ph x r l k).last
  letter_over x r l k right all =
      let ss = word_tracks h x.word in
      arguments_closed ss x.places k (lettered x.word (tracks_of (argument_plans ss x.places k).placed) r l) refl (directions.of_word x.word) (word_counted h x right) all (λ g is. is)

  words_over : (x : Index) (r : Relation) (y : Index) (k : ℕ) → misuse h (mentions.index_mention x) ≡ None → misuse h (mentions.index_mention y) ≡ None
      → conflict_of_two (first_track (word_tracks h x.word)) (first_track (word_tracks h y.word)) ≡ None
      → AllByRecursion Q (place_occurrences (word_tracks h x.word) b x.places) → AllByRecursion Q (place_occurrences (word_tracks h y.word) b y.places)
      → (g : ℕ → Name) × IsOver ph direction (on_by scope g) (words_plan ph x r y k).last
  words_over x r y k right also none first second =
      let ss = word_tracks h x.word in
      let us = word_tracks h y.word in
      let ps = argument_plans ss x.places k in
      let qs = argument_plans us y.places ps.next in
      let base = paired x.word (tracks_of ps.placed) r y.word (tracks_of qs.placed) in
      let one = word_counted h x right in
      let two = word_counted h y also in
      let facing = two_directions direction directions.by_name ss us (directions.of_word x.word) (directions.of_word y.word) none in
      let d = facing.0 in
      let of_x = systems_exist ss x.places k in
      let of_y = systems_exist us y.places ps.next in
      let g = parted ps.next of_x.0 of_y.0 in
      let on = on_by scope g in
      let are_x = arguments_over ph direction scope b Q of_scope g d ss x.places k (omega (arith, one)) facing.1
      (same_systems of_x.0 g ss x.places k (λ i low high. parted_below ps.next of_x.0 of_y.0 i high) of_x.1) first in
      let are_y = arguments_over ph direction scope b Q of_scope g d us y.places ps.next (omega (arith, two)) facing.2
      (same_systems of_y.0 g us y.places ps.next (λ i low high. parted_above ps.next of_x.0 of_y.0 i low) of_y.1) second in
      let all_x : take (count x.places) ss ≡ ss = take_all (count x.places) ss (omega (arith, one)) in
      let all_y : take (count y.places) us ≡ us = take_all (count y.places) us (omega (arith, two)) in
      let inside = over_all_closed ph direction on d ps.placed base are_x.over (are_x.systems ∙ all_x, are_y.systems ∙ all_y, across on d (tracks_of ps.placed) (tracks_of qs.placed) are_x.faces are_y.faces) (both on d ps.placed qs.placed are_x.faces are_y.faces) in (
        g,
        subst (λ (p : Plan). IsOver ph direction on p) (sym (all_closed ps.placed qs.placed base)) (over_all_closed ph direction on d qs.placed (closed_all ps.placed base) are_y.over inside.0 inside.1).0,
      )
    where
      across : (on : TrackSystems) (d : Direction) (ts us : List Track) → AllByRecursion (Faces direction on d) ts → AllByRecursion (Faces direction on d) us → TracksHaveOneDirection direction on ts us
      across on d ts us first second s t in_ts in_us = each_among (Faces direction on d) ts first s in_ts ∙ sym (each_among (Faces direction on d) us second t in_us)

      both : (on : TrackSystems) (d : Direction) (ps qs : Places) → AllByRecursion (Faces direction on d) (tracks_of ps) → AllByRecursion (Faces direction on d) (tracks_of qs)
          → (u : Track) → has_track (tracks_of ps ++ tracks_of qs) u ≡ true → Faces direction on d u
      both on d ps qs first second u is = elim (has_either (tracks_of ps) (tracks_of qs) u is) [
        | inl in_ps ↦ each_among (Faces direction on d) (tracks_of ps) first u in_ps
        | inr in_qs ↦ each_among (Faces direction on d) (tracks_of qs) second u in_qs
      ]

  some_over : (s : Name) (x : Fact) (k : ℕ) → first_misuse h (fact_mentions x) ≡ None → fact_conflict h x ≡ None → AllByRecursion Q (fact_occurrences h b s x)
      → (g : ℕ → Name) × IsOver ph direction (on_by scope g) (fact_plan ph s x k).last
  some_over s (compare t r u) k right straight all =
      let first = all_first Q (term_occurrences s b t) (term_occurrences s b u) all in
      let second = all_second Q (term_occurrences s b t) (term_occurrences s b u) all in
      (λ i. s, compare_over (form_by (is_equal r) (as_variable t) (as_variable u)) s t r u k (compare_in Q s b t r u first second) first second)
  some_over s (call n ts) k right straight all =
      let ss = automaton_tracks h n in
      arguments_closed ss ts k (called n (tracks_of (argument_plans ss ts k).placed)) refl (directions.of_automaton n)
      (automaton_counted h n ts (neither (misuse h (Called n (mentions.count ts))) None right).0) all (λ g is. is)
  some_over s (word_letter x r l) k right straight all = letter_over x r l k (neither (misuse h (mentions.index_mention x)) None right).0 all
  some_over s (letter_word l r x) k right straight all = letter_over x (mirrored r) l k (neither (misuse h (mentions.index_mention x)) None right).0 all
  some_over s (words x r y) k right straight all =
      let of_x = neither (misuse h (mentions.index_mention x)) (first_misuse h (mentions.index_mention y ∷ [])) right in
      let of_y = neither (misuse h (mentions.index_mention y)) None of_x.1 in
      let prefix = place_occurrences (word_tracks h x.word) b x.places in
      let back = place_occurrences (word_tracks h y.word) b y.places in
      words_over x r y k of_x.0 of_y.0 straight (all_first Q prefix back all) (all_second Q prefix back all)

  pub fact_over : (s : Name) (x : Fact) (k : ℕ) → first_misuse h (fact_mentions x) ≡ None → fact_conflict h x ≡ None → AllByRecursion Q (fact_occurrences h b s x)
      → (g : ℕ → Name) → IsOver ph direction (on_by scope g) (fact_plan ph s x k).last
  fact_over s x k right straight all g =
      let some = some_over s x k right straight all in
      own_depends (OccursAnywhere Q b) (fact_plan ph s x k).last some.0 g (fact_only h b Q s x k right all) some.1
