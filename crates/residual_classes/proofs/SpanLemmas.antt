-- The spans of classes.
use Rattle.std.proofs.Common.{◌≡◌, ℕ, ◌+◌, ◌-◌, ◌<◌, ◌≤◌, List, length, get_or, ◌⊎◌, inl, inr, sym, ap, ◌∙◌, subst, arith}
use Rattle.std.specs.List.{Contains, slice_range}
use Rattle.std.proofs.lemmas.Bool.{cases_lt, cases_eq}
use Rattle.std.proofs.lemmas.List.{get_or_default}
use Rattle.std.proofs.lemmas.List.Edits.{length-between, get_or-between}
use Rattle.residual_classes.specs.declared.partition.ClassSpan.{ClassSpan}
use Rattle.residual_classes.specs.Classes.{class_of}
use Rattle.residual_classes.specs.StateOrder.{AreAtEnd, AreInverse}
use Rattle.residual_classes.specs.Partition.{AreSpans, IsCut, IsGiven, span_of}

-- what is in a part of a list
pub Contains-slice : (xs : List ℕ) (start end place : ℕ) → end ≤ length xs → start ≤ place → place < end → Contains (slice_range xs start end) (get_or xs place 0)
Contains-slice xs start end place fits from to = (place - start, omega (arith, length-between xs start end fits), get_or-between xs start end (place - start) (get_or xs place 0) (omega arith) ∙ read)
  where
    read : get_or xs (start + (place - start)) (get_or xs place 0) ≡ get_or xs place 0
    read = ap (λ (k : ℕ). get_or xs k (get_or xs place 0)) (omega arith) ∙ get_or_default xs place (get_or xs place 0) 0 (omega arith)

pub Contains-from_slice : (xs : List ℕ) (start end q : ℕ) → end ≤ length xs → Contains (slice_range xs start end) q → (place : ℕ) × (start ≤ place) × (place < end) × (get_or xs place 0 ≡ q)
Contains-from_slice xs start end q fits there =
    let low : there.0 < end - start = omega (arith, length-between xs start end fits, there.1) in
    let read = get_or-between xs start end there.0 q (omega arith) in
    (start + there.0, omega arith, omega arith, get_or_default xs (start + there.0) 0 q (omega arith) ∙ sym read ∙ there.2)

-- two facts on where a place is
cases_span : (start end place : ℕ) → ((start ≤ place) × (place < end)) ⊎ ((place < start) ⊎ (end ≤ place))
cases_span start end place = by (cases_lt place start) (cases_lt place end)
  where
    by : (place < start) ⊎ (start ≤ place) → (place < end) ⊎ (end ≤ place) → ((start ≤ place) × (place < end)) ⊎ ((place < start) ⊎ (end ≤ place))
    by (inl less) end_cases = inr (inl less)
    by (inr from) (inl to) = inl (from, to)
    by (inr from) (inr more) = inr (inr more)

module _ (classes states : List ℕ) (spans : List ClassSpan) (spanned : AreSpans classes states spans) (class : ℕ) (made : class < length spans) where
  abbrev start : ℕ
  start = (span_of spans class).start

  abbrev end : ℕ
  end = (span_of spans class).end

  -- states of a class are moved to the end of its span
  module _ (new set : List ℕ) (middle : ℕ) (moved : AreAtEnd states new set start middle end) where
    -- the same classes are at all places
    same : (place : ℕ) → class_of classes (get_or new place 0) ≡ class_of classes (get_or states place 0)
    same place = by (cases_span start end place)
      where
        by : ((start ≤ place) × (place < end)) ⊎ ((place < start) ⊎ (end ≤ place)) → class_of classes (get_or new place 0) ≡ class_of classes (get_or states place 0)
        by (inl in_span) =
            let was = moved.inside place in_span.0 in_span.1 in
            ap (class_of classes) was.3 ∙ spanned.inside class was.0 made was.1 was.2 ∙ sym (spanned.inside class place made in_span.0 in_span.1)
        by (inr off) = ap (class_of classes) (moved.elsewhere place off)

    pub AreSpans-moved : AreSpans classes new spans
    AreSpans-moved = record {
      ordered = spanned.ordered;
      within = λ c small. omega (arith, spanned.within c small, moved.width);
      inside = λ c place small from to. same place ∙ spanned.inside c place small from to;
      from_start = λ place low. subst (λ (c : ℕ). (span_of spans c).start ≤ place) (sym (same place)) (spanned.from_start place (omega (arith, low, moved.width)));
      to_end = λ place low. subst (λ (c : ℕ). place < (span_of spans c).end) (sym (same place)) (spanned.to_end place (omega (arith, low, moved.width)));
    }

  -- the states from a place on get one more class
  module _ (new_classes places : List ℕ) (new_spans : List ClassSpan) (middle : ℕ) (order : AreInverse states places) (from : start ≤ middle) (to : middle ≤ end)
      (cut : IsCut spans new_spans class middle) (given : IsGiven classes new_classes (slice_range states middle end) (length spans))
      (below : (place : ℕ) → place < length states → class_of classes (get_or states place 0) < length spans) where
    fits : end ≤ length states
    fits = spanned.within class made

    -- the states that do
    got : (place : ℕ) → middle ≤ place → place < end → class_of new_classes (get_or states place 0) ≡ length spans
    got place low high = given.there (get_or states place 0) (Contains-slice states middle end place fits low high)

    -- the others
    kept : (place : ℕ) → place < length states → (place < middle) ⊎ (end ≤ place) → class_of new_classes (get_or states place 0) ≡ class_of classes (get_or states place 0)
    kept place small off = given.elsewhere (get_or states place 0) (λ there.
        let found = Contains-from_slice states middle end (get_or states place 0) fits there in
        let is : found.0 ≡ place = sym (order.placed found.0 (omega (arith, found.2, fits))) ∙ ap (λ q. get_or places q 0) found.3 ∙ order.placed place small in
        either off (omega (arith, is, found.1)) (omega (arith, is, found.2)))
      where
        either : (place < middle) ⊎ (end ≤ place) → middle ≤ place → place < end → ⊥
        either (inl less) low high = omega arith
        either (inr more) low high = omega arith

    ordered : (c : ℕ) → c < length new_spans → (c ≡ length spans) ⊎ (c ≡ length spans → ⊥) → (c ≡ class) ⊎ (c ≡ class → ⊥) → ((span_of new_spans c).start ≤ (span_of new_spans c).end) × ((span_of new_spans c).end ≤ length states)
    ordered c small (inl is) at_class = subst (λ (k : ℕ). ((span_of new_spans k).start ≤ (span_of new_spans k).end) × ((span_of new_spans k).end ≤ length states)) (sym is)
        (omega (arith, cut.next_start, cut.next_end, to), omega (arith, cut.next_end, fits))
    ordered c small (inr old) (inl is) = subst (λ (k : ℕ). ((span_of new_spans k).start ≤ (span_of new_spans k).end) × ((span_of new_spans k).end ≤ length states)) (sym is)
        (omega (arith, cut.start, cut.end, from), omega (arith, cut.end, to, fits))
    ordered c small (inr old) (inr other) =
        let before : c < length spans = omega (arith, small, cut.width, old) in
        subst (λ (span : ClassSpan). (span.start ≤ span.end) × (span.end ≤ length states)) (sym (cut.others c before other)) (spanned.ordered c before, spanned.within c before)

    inside : (c place : ℕ) → c < length new_spans → (span_of new_spans c).start ≤ place → place < (span_of new_spans c).end → (c ≡ length spans) ⊎ (c ≡ length spans → ⊥) → (c ≡ class) ⊎ (c ≡ class → ⊥) → class_of new_classes (get_or states place 0) ≡ c
    inside c place small low high (inl is) at_class =
        let start_is : (span_of new_spans c).start ≡ middle = ap (λ (k : ℕ). (span_of new_spans k).start) is ∙ cut.next_start in
        let end_is : (span_of new_spans c).end ≡ end = ap (λ (k : ℕ). (span_of new_spans k).end) is ∙ cut.next_end in
        got place (omega arith) (omega arith) ∙ sym is
    inside c place small low high (inr old) (inl is) =
        let start_is : (span_of new_spans c).start ≡ start = ap (λ (k : ℕ). (span_of new_spans k).start) is ∙ cut.start in
        let end_is : (span_of new_spans c).end ≡ middle = ap (λ (k : ℕ). (span_of new_spans k).end) is ∙ cut.end in
        kept place (omega (arith, fits)) (inl (omega arith)) ∙ spanned.inside class place made (omega arith) (omega arith) ∙ sym is
    inside c place small low high (inr old) (inr other) = by (cases_span middle end place)
      where
        before : c < length spans
        before = omega (arith, small, cut.width, old)

        was_low : (span_of spans c).start ≤ place
        was_low = subst (λ (span : ClassSpan). span.start ≤ place) (cut.others c before other) low

        was_high : place < (span_of spans c).end
        was_high = subst (λ (span : ClassSpan). place < span.end) (cut.others c before other) high

        was : class_of classes (get_or states place 0) ≡ c
        was = spanned.inside c place before was_low was_high

        by : ((middle ≤ place) × (place < end)) ⊎ ((place < middle) ⊎ (end ≤ place)) → class_of new_classes (get_or states place 0) ≡ c
        by (inl in_part) = absurd (other (sym was ∙ spanned.inside class place made (omega (arith, in_part.0)) in_part.1))
        by (inr off) = kept place (omega (arith, was_high, spanned.within c before)) off ∙ was

    found : (place : ℕ) → place < length states → ((middle ≤ place) × (place < end)) ⊎ ((place < middle) ⊎ (end ≤ place)) → (class_of classes (get_or states place 0) ≡ class) ⊎ (class_of classes (get_or states place 0) ≡ class → ⊥)
        → ((span_of new_spans (class_of new_classes (get_or states place 0))).start ≤ place) × (place < (span_of new_spans (class_of new_classes (get_or states place 0))).end)
    found place small (inl in_part) at_class = subst (λ (k : ℕ). ((span_of new_spans k).start ≤ place) × (place < (span_of new_spans k).end)) (sym (got place in_part.0 in_part.1))
        (omega (arith, cut.next_start, in_part.0), omega (arith, cut.next_end, in_part.1))
    found place small (inr off) (inl is) = subst (λ (k : ℕ). ((span_of new_spans k).start ≤ place) × (place < (span_of new_spans k).end)) (sym (kept place small off ∙ is)) (by off)
      where
        low : start ≤ place
        low = subst (λ (k : ℕ). (span_of spans k).start ≤ place) is (spanned.from_start place small)

        high : place < end
        high = subst (λ (k : ℕ). place < (span_of spans k).end) is (spanned.to_end place small)

        by : (place < middle) ⊎ (end ≤ place) → ((span_of new_spans class).start ≤ place) × (place < (span_of new_spans class).end)
        by (inl less) = (omega (arith, cut.start, low), omega (arith, cut.end, less))
        by (inr more) = absurd (omega (arith, high, more))
    found place small (inr off) (inr other) =
        let stays = cut.others (class_of classes (get_or states place 0)) (below place small) other in
        subst (λ (k : ℕ). ((span_of new_spans k).start ≤ place) × (place < (span_of new_spans k).end)) (sym (kept place small off))
        (subst (λ (span : ClassSpan). (span.start ≤ place) × (place < span.end)) (sym stays) (spanned.from_start place small, spanned.to_end place small))

    pub AreSpans-cut : AreSpans new_classes states new_spans
    AreSpans-cut = record {
      ordered = λ c small. (ordered c small (cases_eq c (length spans)) (cases_eq c class)).0;
      within = λ c small. (ordered c small (cases_eq c (length spans)) (cases_eq c class)).1;
      inside = λ c place small low high. inside c place small low high (cases_eq c (length spans)) (cases_eq c class);
      from_start = λ place small. (found place small (cases_span middle end place) (cases_eq (class_of classes (get_or states place 0)) class)).0;
      to_end = λ place small. (found place small (cases_span middle end place) (cases_eq (class_of classes (get_or states place 0)) class)).1;
    }
