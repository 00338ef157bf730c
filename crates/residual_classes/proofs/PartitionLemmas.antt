-- Classes that are parted by sets of states from which words lead to the same outputs.
use Rattle.std.proofs.Common.{◌≡◌, ◌≢◌, ◌↔◌, ◌==◌, ℕ, suc, ◌+◌, ◌-◌, ◌<◌, ◌≤◌, Bool, true, false, List, [], ◌∷◌, ◌++◌, set, take, length, get_or, Option, None, Some, unwrap_or, if◌then◌else◌, ◌⊎◌, inl, inr, refl, sym, ap, ◌∙◌, subst, arith, get_or-set_same, get_or-set_other, length-set, replicate}
use Rattle.std.specs.List.{All, Contains, flat_map, range_with_len, slice_range}
use Rattle.std.proofs.lemmas.Bool.{cases_lt, cases_eq, eqb-true}
use Rattle.std.proofs.lemmas.Option.{none-some}
use Rattle.std.proofs.lemmas.List.{take_more, get_or_default, get_or_past, get_or-replicate, length-replicate}
use Rattle.std.proofs.lemmas.List.FromFn.{get_or-range_with_len, length-range_with_len}
use Rattle.std.proofs.lemmas.List.Elements.{All-push, All-contains, Contains-get_or, Contains-push, Contains-push_cases, Contains-append_left}
use Rattle.digit_tuple.specs.declared.transitions.Transition.{Transition}
use Rattle.digit_tuple.specs.Deterministic.{Automaton, IsTable, letters_of, states_of, transitions_of, step_of, target_by}
use Rattle.digit_tuple.specs.Reversed.{transition_to}
use Rattle.digit_tuple.proofs.MemberLemmas.{Contains-none, Contains-head, Contains-tail, Contains-cases, Contains-map, Contains-from_map, Contains-flat_map, Contains-from_flat_map}
use Rattle.residual_classes.specs.declared.partition.ClassSpan.{ClassSpan}
use Rattle.residual_classes.specs.Classes.{class_of, next_of}
use Rattle.residual_classes.specs.Gathering.{IsGathered, transitions_by_class}
use Rattle.residual_classes.specs.CoarseClasses.{IsCoarse, AreCoarseClasses}
use Rattle.residual_classes.specs.ReversedTransitions.{AreReversed, TransitionLists, transitions_into}
use Rattle.residual_classes.specs.StateOrder.{AreAtEnd, AreInverse}
use Rattle.residual_classes.specs.Partition.{IsUnion, IsGiven, IsCut, AreParted, span_of}
use Rattle.residual_classes.proofs.SinkLemmas.{row_of, no_transitions_past, next_within}
use Rattle.residual_classes.proofs.ClassFromLemmas.{class_from-next}
use Rattle.residual_classes.proofs.SpanLemmas.{Contains-slice, Contains-from_slice, AreSpans-moved, AreSpans-cut}

-- a number is in a list or does not
pub cases_contains : (xs : List ℕ) (x : ℕ) → Contains xs x ⊎ (Contains xs x → ⊥)
cases_contains [] x = inr (λ there. Contains-none x there)
cases_contains (y ∷ ys) x = by (cases_eq y x) (cases_contains ys x)
  where
    by : (y ≡ x) ⊎ (y ≡ x → ⊥) → Contains ys x ⊎ (Contains ys x → ⊥) → Contains (y ∷ ys) x ⊎ (Contains (y ∷ ys) x → ⊥)
    by (inl is) rest = inl (subst (Contains (y ∷ ys)) is (Contains-head y ys))
    by (inr other) (inl later) = inl (Contains-tail y ys x later)
    by (inr other) (inr none) = inr (λ there. neither (Contains-cases y ys x there))
      where
        neither : (y ≡ x) ⊎ Contains ys x → ⊥
        neither (inl is) = other is
        neither (inr later) = none later

-- transitions are by letters in range
letter_within : (letters states : ℕ) (es : List Transition) (a t : ℕ) → All (λ e. (e.letter < letters) × (e.target < states)) es → target_by es a ≡ Some t → a < letters
letter_within letters states [] a t range leads = absurd (none-some t leads)
letter_within letters states (e ∷ es) a t range leads = by (e.letter == a) refl leads (λ rest. letter_within letters states es a t (λ k d within. range (suc k) d (omega arith)) rest)
  where
    by : (b : Bool) → (e.letter == a) ≡ b → (if b then Some e.target else target_by es a) ≡ Some t → (target_by es a ≡ Some t → a < letters) → a < letters
    by true is leads rest = omega (arith, (range 0 e (omega arith)).0, eqb-true e.letter a is)
    by false is leads rest = rest leads

module _ (d : Automaton) (outputs : List ℕ) (given : length outputs ≡ states_of d) (table : IsTable (letters_of d) d.states) where
  -- a letter leads where next_of says
  pub next_is : (q a t : ℕ) → step_of d q a ≡ Some t → next_of d q a ≡ t
  next_is q a t leads = ap (λ (o : Option ℕ). unwrap_or o (states_of d)) leads

  step_is : (q a : ℕ) → next_of d q a < states_of d → step_of d q a ≡ Some (next_of d q a)
  step_is q a inside = by (step_of d q a) inside
    where
      by : (o : Option ℕ) → unwrap_or o (states_of d) < states_of d → o ≡ Some (unwrap_or o (states_of d))
      by None less = absurd (omega arith)
      by (Some t) less = refl

  from_within : (q a t : ℕ) → step_of d q a ≡ Some t → q < states_of d
  from_within q a t leads = by (cases_lt q (states_of d))
    where
      by : (q < states_of d) ⊎ (states_of d ≤ q) → q < states_of d
      by (inl less) = less
      by (inr past) = absurd (none-some t (sym (ap (λ (es : List Transition). target_by es a) (no_transitions_past d q past)) ∙ leads))

  -- the transitions into a union
  module _ (transitions : TransitionLists) (reversed : AreReversed d transitions) (into : List ℕ) (union : IsUnion d outputs into) (a : ℕ) where
    pub transition_there : (q : ℕ) → Contains into (next_of d q a) → Contains (flat_map (transitions_into transitions) into) (transition_to a q)
    transition_there q there =
        let inside : next_of d q a < states_of d = All-contains (λ t. t < states_of d) into (next_of d q a) union.within there in
        let leads = step_is q a inside in
        Contains-flat_map (transitions_into transitions) into (next_of d q a) (transition_to a q) there ((reversed.leads (next_of d q a) a q).1 (from_within q a (next_of d q a) leads, leads))

  -- the states from which a letter leads into a union
  module _ (transitions : TransitionLists) (reversed : AreReversed d transitions) (into : List ℕ) (union : IsUnion d outputs into) (a : ℕ) (sources : List ℕ) (gathered : IsGathered (flat_map (transitions_into transitions) into) a sources) where
    pub led : (q : ℕ) → Contains sources q → (t : ℕ) × Contains into t × (q < states_of d) × (step_of d q a ≡ Some t)
    led q there =
        let found = Contains-from_flat_map (transitions_into transitions) into (transition_to a q) ((gathered.targets q).0 there) in
        let leads = (reversed.leads found.0 a q).0 found.2 in
        (found.0, found.1, leads.0, leads.1)

    pub leading : (q : ℕ) → Contains into (next_of d q a) → Contains sources q
    leading q there = (gathered.targets q).1 (transition_there transitions reversed into union a q there)

    pub IsUnion-sources : IsUnion d outputs sources
    IsUnion-sources = record {
      within = λ k z inside. (led (get_or sources k z) (Contains-get_or sources k z inside)).2;
      whole = λ p q small low same there.
          let from = led p there in
          let letter = letter_within (letters_of d) (states_of d) (transitions_of d p) a from.0 (row_of d table p).in_range from.3 in
          leading q (union.whole (next_of d p a) (next_of d q a) (next_within d table p a) (next_within d table q a)
          (λ w over. sym (class_from-next d outputs given p a w) ∙ same (a ∷ w) (letter, over) ∙ class_from-next d outputs given q a w)
          (subst (Contains into) (sym (next_is p a from.0 from.3)) from.1));
    }

-- the states that are not of the sink's class
pub IsUnion-live : (d : Automaton) (outputs classes states : List ℕ) → AreCoarseClasses d outputs classes
    → ((q : ℕ) → Contains states q ↔ ((q < length classes) × (class_of classes q ≢ class_of classes (length classes - 1)))) → IsUnion d outputs states
IsUnion-live d outputs classes states coarse are = record {
  within = λ k z inside. within (get_or states k z) ((are (get_or states k z)).0 (Contains-get_or states k z inside)) (cases_lt (get_or states k z) (states_of d));
  whole = λ p q small low same there. (are q).1 (omega (arith, low, coarse.width), λ dead. ((are p).0 there).1 (coarse.coarse p q small low same ∙ dead));
}
  where
    within : (q : ℕ) → (q < length classes) × (class_of classes q ≢ class_of classes (length classes - 1)) → (q < states_of d) ⊎ (states_of d ≤ q) → q < states_of d
    within q both (inl less) = less
    within q both (inr past) = absurd (both.1 (ap (class_of classes) (omega (arith, both.0, past, coarse.width))))

module _ (d : Automaton) (outputs : List ℕ) where
  -- the states of a class in a union
  module _ (classes : List ℕ) (coarse : IsCoarse d outputs classes) (union : List ℕ) (is : IsUnion d outputs union) (class : ℕ) (states : List ℕ) (gathered : IsGathered (transitions_by_class classes union) class states) where
    pub in_class : (q : ℕ) → Contains (transitions_by_class classes union) (transition_to class q) → Contains union q × (class_of classes q ≡ class)
    in_class q there =
        let found = Contains-from_map (λ (x : ℕ). transition_to (class_of classes x) x) union (transition_to class q) there in
        let same : found.0 ≡ q = ap (λ (e : Transition). e.target) found.2 in
        let one : class_of classes found.0 ≡ class = ap (λ (e : Transition). e.letter) found.2 in
        (subst (Contains union) same found.1, ap (class_of classes) (sym same) ∙ one)

    pub of_class : (q : ℕ) → Contains union q → class_of classes q ≡ class → Contains states q
    of_class q there one = (gathered.targets q).1
        (subst (λ (a : ℕ). Contains (transitions_by_class classes union) (transition_to a q)) one (Contains-map (λ (x : ℕ). transition_to (class_of classes x) x) union q there))

    pub IsUnion-class : IsUnion d outputs states
    IsUnion-class = record {
      within = λ k z inside.
          let x = get_or states k z in
          All-contains (λ q. q < states_of d) union x is.within (in_class x ((gathered.targets x).0 (Contains-get_or states k z inside))).0;
      whole = λ p q small low same there.
          let of = in_class p ((gathered.targets p).0 there) in
          of_class q (is.whole p q small low same of.0) (sym (coarse p q small low same) ∙ of.1);
    }

    -- the class is that of some state
    pub class_below : (count : ℕ) → ((q : ℕ) → q ≤ states_of d → class_of classes q < count) → class < count
    class_below count below =
        let of = in_class gathered.transition.0 gathered.transition.1 in
        let inside : gathered.transition.0 < states_of d = All-contains (λ q. q < states_of d) union gathered.transition.0 is.within of.0 in
        omega (arith, below gathered.transition.0 (omega arith), of.1)

-- no state has got the class yet
pub IsGiven-none : (old : List ℕ) (class : ℕ) → IsGiven old old [] class
IsGiven-none old class = record { width = refl; there = λ q there. absurd (Contains-none q there); elsewhere = λ q none. refl }

-- one more state has got it
pub IsGiven-more : (old mid states : List ℕ) (class i : ℕ) → i < length states → get_or states i 0 < length old → IsGiven old mid (take i states) class
    → IsGiven old (set mid (get_or states i 0) class) (take (i + 1) states) class
IsGiven-more old mid states class i within inside given = record {
  width = length-set mid x class ∙ given.width;
  there = λ q there. got q (cases_eq q x) (Contains-push_cases (take i states) x q (subst (λ (xs : List ℕ). Contains xs q) prefix there));
  elsewhere = λ q none.
      get_or-set_other mid x q class 0 (λ is. none (subst (λ (xs : List ℕ). Contains xs q) (sym prefix) (subst (Contains (take i states ++ x ∷ [])) (sym is) (Contains-push (take i states) x))))
      ∙ given.elsewhere q (λ there. none (subst (λ (xs : List ℕ). Contains xs q) (sym prefix) (Contains-append_left (take i states) (x ∷ []) q there)));
}
  where
    x : ℕ
    x = get_or states i 0

    prefix : take (i + 1) states ≡ take i states ++ x ∷ []
    prefix = take_more states i 0 within

    here : class_of (set mid x class) x ≡ class
    here = get_or-set_same mid x class 0 (omega (arith, inside, given.width))

    got : (q : ℕ) → (q ≡ x) ⊎ (q ≡ x → ⊥) → Contains (take i states) q ⊎ (x ≡ q) → class_of (set mid x class) q ≡ class
    got q (inl is) cases = ap (class_of (set mid x class)) is ∙ here
    got q (inr other) (inl before) = get_or-set_other mid x q class 0 other ∙ given.there q before
    got q (inr other) (inr is) = absurd (other (sym is))

module _ (d : Automaton) (outputs old new states : List ℕ) (class : ℕ) (union : IsUnion d outputs states) (given : IsGiven old new states class) where
  -- a new class for a union parts no states from which words lead to the same outputs
  pub IsCoarse-given : IsCoarse d outputs old → IsCoarse d outputs new
  IsCoarse-given coarse p q small low same = by (cases_contains states p)
    where
      by : Contains states p ⊎ (Contains states p → ⊥) → class_of new p ≡ class_of new q
      by (inl there) = given.there p there ∙ sym (given.there q (union.whole p q small low same there))
      by (inr none) = given.elsewhere p none ∙ coarse p q small low same ∙ sym (given.elsewhere q (λ there. none (union.whole q p low small (λ w over. sym (same w over)) there)))

module _ (d : Automaton) (outputs classes states places : List ℕ) (spans : List ClassSpan) (pending : List ℕ) (parted : AreParted d outputs classes states places spans pending) where
  -- the classes of a partition
  pub AreCoarseClasses-parted : AreCoarseClasses d outputs classes
  AreCoarseClasses-parted = record {
    width = parted.width;
    below = λ k z within.
        let low = parted.below k (omega (arith, within, parted.width)) in
        omega (arith, low, parted.few, get_or_default classes k z 0 within);
    coarse = parted.coarse;
  }

  -- the state at a place
  pub state_within : (place : ℕ) → place < length states → get_or states place 0 < states_of d
  state_within place small = omega (arith, parted.order.states_within place small, parted.count)

  module _ (class : ℕ) (made : class < length spans) where
    abbrev start : ℕ
    start = (span_of spans class).start

    abbrev end : ℕ
    end = (span_of spans class).end

    fits : end ≤ length states
    fits = parted.spanned.within class made

    -- a state of the class is in its span
    pub place_of : (q : ℕ) → q < states_of d → class_of classes q ≡ class → (place : ℕ) × (start ≤ place) × (place < end) × (get_or states place 0 ≡ q)
    place_of q small is =
        let place = get_or places q 0 in
        let low : place < length states = parted.order.places_within q (omega (arith, small, parted.count)) in
        let occurs : get_or states place 0 ≡ q = parted.order.state_back q (omega (arith, small, parted.count)) in
        let one : class_of classes (get_or states place 0) ≡ class = ap (class_of classes) occurs ∙ is in (
          place,
          subst (λ (k : ℕ). (span_of spans k).start ≤ place) one (parted.spanned.from_start place low),
          subst (λ (k : ℕ). place < (span_of spans k).end) one (parted.spanned.to_end place low),
          occurs,
        )

    -- the states of a class but the sink's
    pub IsUnion-span : 0 < class → IsUnion d outputs (slice_range states start end)
    IsUnion-span live = record {
      within = λ k z inside.
          let found = Contains-from_slice states start end (get_or (slice_range states start end) k z) fits (Contains-get_or (slice_range states start end) k z inside) in
          omega (arith, state_within found.0 (omega (arith, found.2, fits)), found.3);
      whole = λ p q small low same there.
          let found = Contains-from_slice states start end p fits there in
          let one : class_of classes q ≡ class = sym (parted.coarse p q small low same) ∙ ap (class_of classes) (sym found.3) ∙ parted.spanned.inside class found.0 made found.1 found.2 in
          occurs q one (cases_lt q (states_of d)) low;
    }
      where
        occurs : (q : ℕ) → class_of classes q ≡ class → (q < states_of d) ⊎ (states_of d ≤ q) → q ≤ states_of d → Contains (slice_range states start end) q
        occurs q one (inl less) low =
            let at = place_of q less one in
            subst (Contains (slice_range states start end)) at.3 (Contains-slice states start end at.0 fits at.1 at.2)
        occurs q one (inr past) low =
            let sink : q ≡ states_of d = omega arith in
            absurd (omega (arith, one, ap (class_of classes) sink, parted.sink, live))

    -- states of a class are moved to the end of its span
    module _ (new new_places set : List ℕ) (middle : ℕ) (order : AreInverse new new_places) (moved : AreAtEnd states new set start middle end) where
      pub AreParted-moved : AreParted d outputs classes new new_places spans pending
      AreParted-moved = record {
        table = parted.table;
        width = parted.width;
        count = moved.width ∙ parted.count;
        few = parted.few;
        below = parted.below;
        sink = parted.sink;
        coarse = parted.coarse;
        order = order;
        spanned = AreSpans-moved classes states spans parted.spanned class made new set middle moved;
        filled = parted.filled;
        live = parted.live;
        made = parted.made;
      }

module _ (d : Automaton) (outputs classes states places : List ℕ) (spans : List ClassSpan) (pending : List ℕ) (parted : AreParted d outputs classes states places spans pending) (class : ℕ) (made : class < length spans)
    (was set : List ℕ) (middle : ℕ) (moved : AreAtEnd was states set (span_of spans class).start middle (span_of spans class).end) (union : IsUnion d outputs set) where
  abbrev first : ℕ
  first = (span_of spans class).start

  abbrev last : ℕ
  last = (span_of spans class).end

  room : last ≤ length states
  room = parted.spanned.within class made

  -- the states of the class that leave it
  pub IsUnion-leaving : IsUnion d outputs (slice_range states middle last)
  IsUnion-leaving = record {
    within = λ k z inside.
        let found = Contains-from_slice states middle last (get_or (slice_range states middle last) k z) room (Contains-get_or (slice_range states middle last) k z inside) in
        omega (arith, state_within d outputs classes states places spans pending parted found.0 (omega (arith, found.2, room)), found.3);
    whole = λ p q small low same there.
        let found = Contains-from_slice states middle last p room there in
        let one : class_of classes q ≡ class =
        sym (parted.coarse p q small low same) ∙ ap (class_of classes) (sym found.3) ∙ parted.spanned.inside class found.0 made (omega (arith, found.1, moved.after_start)) found.2 in
        let leaves : Contains set q = union.whole p q small low same (subst (Contains set) found.3 (moved.moved found.0 found.1 found.2)) in
        let at = place_of d outputs classes states places spans pending parted class made q (All-contains (λ (x : ℕ). x < states_of d) set q union.within leaves) one in
        occurs q leaves at.0 at.1 at.2 at.3 (cases_lt at.0 middle);
  }
    where
      occurs : (q : ℕ) → Contains set q → (place : ℕ) → first ≤ place → place < last → get_or states place 0 ≡ q → (place < middle) ⊎ (middle ≤ place) → Contains (slice_range states middle last) q
      occurs q leaves place from to is (inl less) = absurd (moved.left place from less (subst (Contains set) (sym is) leaves))
      occurs q leaves place from to is (inr more) = subst (Contains (slice_range states middle last)) is (Contains-slice states middle last place room more to)

  -- they get a new class
  module _ (new_classes : List ℕ) (new_spans : List ClassSpan) (given : IsGiven classes new_classes (slice_range states middle last) (length spans)) (few : length spans ≤ states_of d) (cut : IsCut spans new_spans class middle) where
    outside : Contains (slice_range states middle last) (states_of d) → ⊥
    outside there = omega (arith, All-contains (λ q. q < states_of d) (slice_range states middle last) (states_of d) IsUnion-leaving.within there)

    below : (q : ℕ) → q ≤ states_of d → Contains (slice_range states middle last) q ⊎ (Contains (slice_range states middle last) q → ⊥) → class_of new_classes q < length new_spans
    below q low (inl there) = omega (arith, cut.width, given.there q there)
    below q low (inr none) = omega (arith, cut.width, given.elsewhere q none, parted.below q low)

    -- each class still has a state
    filled : middle ≢ last → (middle ≢ first) ⊎ (class ≡ 0) → (c : ℕ) → 0 < c → c < length new_spans → (c ≡ length spans) ⊎ (c ≡ length spans → ⊥) → (c ≡ class) ⊎ (c ≡ class → ⊥) → (span_of new_spans c).start < (span_of new_spans c).end
    filled some rest c live small (inl is) at_class = subst (λ (k : ℕ). (span_of new_spans k).start < (span_of new_spans k).end) (sym is) (omega (arith, cut.next_start, cut.next_end, some, moved.before_end))
    filled some (inl others) c live small (inr old) (inl is) = subst (λ (k : ℕ). (span_of new_spans k).start < (span_of new_spans k).end) (sym is) (omega (arith, cut.start, cut.end, others, moved.after_start))
    filled some (inr sink) c live small (inr old) (inl is) = absurd (omega (arith, live, is, sink))
    filled some rest c live small (inr old) (inr other) =
        let before : c < length spans = omega (arith, small, cut.width, old) in
        subst (λ (span : ClassSpan). span.start < span.end) (sym (cut.others c before other)) (parted.filled c live before)

    -- one more class is pending
    pub AreParted-cut : middle ≢ last → (middle ≢ first) ⊎ (class ≡ 0) → (next : ℕ) (waiting : List ℕ) → 0 < next → next < length new_spans → waiting ≡ pending ++ next ∷ [] → AreParted d outputs new_classes states places new_spans waiting
    AreParted-cut some rest next waiting live small pushed = record {
      table = parted.table;
      width = given.width ∙ parted.width;
      count = parted.count;
      few = omega (arith, cut.width, few);
      below = λ q low. below q low (cases_contains (slice_range states middle last) q);
      sink = given.elsewhere (states_of d) outside ∙ parted.sink;
      coarse = IsCoarse-given d outputs classes new_classes (slice_range states middle last) (length spans) IsUnion-leaving given parted.coarse;
      order = parted.order;
      spanned = AreSpans-cut classes states spans parted.spanned class made new_classes places new_spans middle parted.order moved.after_start moved.before_end cut given
          (λ place low. parted.below (get_or states place 0) (omega (arith, state_within d outputs classes states places spans pending parted place low)));
      filled = λ c from low. filled some rest c from low (cases_eq c (length spans)) (cases_eq c class);
      live = subst (All (λ c. 0 < c)) (sym pushed) (All-push (λ c. 0 < c) pending next parted.live live);
      made = subst (All (λ c. c < length new_spans)) (sym pushed)
          (All-push (λ c. c < length new_spans) pending next (λ k z within. omega (arith, parted.made k z within, cut.width)) small);
    }

-- one class of all states
pub AreParted-one : (d : Automaton) (outputs : List ℕ) (span : ClassSpan) → IsTable (letters_of d) d.states → span.start ≡ 0 → span.end ≡ states_of d
    → AreParted d outputs (replicate (states_of d + 1) 0) (range_with_len 0 (states_of d)) (range_with_len 0 (states_of d)) (span ∷ []) []
AreParted-one d outputs span table from to = record {
  table = table;
  width = length-replicate (states_of d + 1) 0;
  count = size;
  few = omega arith;
  below = λ q low. omega (arith, alike q);
  sink = alike (states_of d);
  coarse = λ p q small low same. alike p ∙ sym (alike q);
  order = record {
    width = refl;
    states_within = λ place small. omega (arith, occurs place (omega (arith, small, size)), small);
    places_within = λ q small. omega (arith, occurs q (omega (arith, small, size)), small);
    placed = λ place small. twice place (omega (arith, small, size));
    state_back = λ q small. twice q (omega (arith, small, size));
  };
  spanned = record {
    ordered = λ class made. omega (arith, from, ap (λ (s : ClassSpan). s.start) (is class made));
    within = λ class made. omega (arith, size, to, ap (λ (s : ClassSpan). s.end) (is class made));
    inside = λ class place made low high. omega (arith, alike (get_or (range_with_len 0 (states_of d)) place 0), made);
    from_start = λ place low. omega (arith, from, ap (λ (k : ℕ). (span_of (span ∷ []) k).start) (alike (get_or (range_with_len 0 (states_of d)) place 0)));
    to_end = λ place low. omega (arith, low, size, to, ap (λ (k : ℕ). (span_of (span ∷ []) k).end) (alike (get_or (range_with_len 0 (states_of d)) place 0)));
  };
  filled = λ class live made. absurd (omega (arith, live, made));
  live = λ k z within. absurd (omega arith);
  made = λ k z within. absurd (omega arith);
}
  where
    size : length (range_with_len 0 (states_of d)) ≡ states_of d
    size = length-range_with_len 0 (states_of d)

    occurs : (q : ℕ) → q < states_of d → get_or (range_with_len 0 (states_of d)) q 0 ≡ q
    occurs q small = omega (arith, get_or-range_with_len 0 (states_of d) q 0 small)

    twice : (q : ℕ) → q < states_of d → get_or (range_with_len 0 (states_of d)) (get_or (range_with_len 0 (states_of d)) q 0) 0 ≡ q
    twice q small = ap (λ (k : ℕ). get_or (range_with_len 0 (states_of d)) k 0) (occurs q small) ∙ occurs q small

    alike : (q : ℕ) → class_of (replicate (states_of d + 1) 0) q ≡ 0
    alike q = by (cases_lt q (states_of d + 1))
      where
        by : (q < states_of d + 1) ⊎ (states_of d + 1 ≤ q) → class_of (replicate (states_of d + 1) 0) q ≡ 0
        by (inl less) = get_or-replicate (states_of d + 1) q 0 0 less
        by (inr past) = get_or_past (replicate (states_of d + 1) 0) q 0 (omega (arith, length-replicate {A = ℕ} (states_of d + 1) 0))

    is : (class : ℕ) → class < 1 → span_of (span ∷ []) class ≡ span
    is class small = let first : class ≡ 0 = omega arith in ap (span_of (span ∷ [])) first

-- the last pending class is taken
module _ (d : Automaton) (outputs classes states places : List ℕ) (spans : List ClassSpan) (pending rest : List ℕ) (class : ℕ) (parted : AreParted d outputs classes states places spans pending) (last : pending ≡ rest ++ class ∷ []) where
  there : Contains pending class
  there = subst (λ (xs : List ℕ). Contains xs class) (sym last) (Contains-push rest class)

  among : (k z : ℕ) → k < length rest → Contains pending (get_or rest k z)
  among k z within = subst (λ (xs : List ℕ). Contains xs (get_or rest k z)) (sym last) (Contains-append_left rest (class ∷ []) (get_or rest k z) (Contains-get_or rest k z within))

  pub pending_live : 0 < class
  pending_live = All-contains (λ c. 0 < c) pending class parted.live there

  pub pending_made : class < length spans
  pending_made = All-contains (λ c. c < length spans) pending class parted.made there

  pub AreParted-rest : AreParted d outputs classes states places spans rest
  AreParted-rest = record {
    table = parted.table;
    width = parted.width;
    count = parted.count;
    few = parted.few;
    below = parted.below;
    sink = parted.sink;
    coarse = parted.coarse;
    order = parted.order;
    spanned = parted.spanned;
    filled = parted.filled;
    live = λ k z within. All-contains (λ c. 0 < c) pending (get_or rest k z) parted.live (among k z within);
    made = λ k z within. All-contains (λ c. c < length spans) pending (get_or rest k z) parted.made (among k z within);
  }
