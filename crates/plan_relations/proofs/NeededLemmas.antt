-- Which plans of a list are needed, marked from the last one down.
use Rattle.std.proofs.Common.{◌≡◌, ℕ, suc, ◌<◌, ◌≤◌, Bool, true, false, List, length, get_or, set, inl, inr, ◌⊎◌, refl, sym, ap, ◌∙◌, subst, arith}
use Rattle.std.proofs.lemmas.Bool.{cases_lt, cases_order, false≢true}
use Rattle.std.proofs.lemmas.List.{get_or_default, get_or-set_same, get_or-set_other, length-set}
use Rattle.term_plans.specs.Plans.{Plan, is_step}
use Rattle.term_plans.specs.Makings.{plan_at, plan_by, IsOf, IsMakingAt, AreMakingsOf}
use Rattle.term_plans.specs.declared.making.Making.{Making}
use Rattle.term_plans.specs.declared.making.Making.TheVariants.{Compared, Added, Number, Called, Lettered, Renamed, Constant, Joined, Paired, Complement, Projected}
use Rattle.plan_relations.specs.Parts.{IsPart}
use Rattle.plan_relations.specs.MadeOf.{is_step_making, marked, is_marked, AreMarked, IsRooted, AreNeeded}
use Rattle.plan_relations.proofs.PartReady.{whole_part, part_of_part}

-- a making makes a step where its plan is one
pub step_is : (plans : List Plan) (m : Making) → is_step_making m ≡ is_step (plan_by plans m)
step_is plans (Compared y r s t) = refl
step_is plans (Added y s t u) = refl
step_is plans (Number y t) = refl
step_is plans (Called n ts) = refl
step_is plans (Lettered n ts r b) = refl
step_is plans (Renamed s t p) = refl
step_is plans (Constant y c t) = refl
step_is plans (Joined j p q) = refl
step_is plans (Paired n ts r w us) = refl
step_is plans (Complement p) = refl
step_is plans (Projected t p) = refl

-- one mark more
mark_here : (marks : List Bool) (p : ℕ) → p < length marks → is_marked (set marks p true) p ≡ true
mark_here marks p within = get_or-set_same marks p true false within

by_place : (marks : List Bool) (p i : ℕ) → (i ≡ p) ⊎ (is_marked (set marks p true) i ≡ is_marked marks i)
by_place marks p i = elim (cases_order i p) [
  | inl same ↦ inl same
  | inr (inl before) ↦ inr (get_or-set_other marks p i true false (λ same. let s : i ≡ p = same in omega (arith, before, s)))
  | inr (inr after) ↦ inr (get_or-set_other marks p i true false (λ same. let s : i ≡ p = same in omega (arith, after, s)))
]

mark_stays : (marks : List Bool) (p i : ℕ) → p < length marks → is_marked marks i ≡ true → is_marked (set marks p true) i ≡ true
mark_stays marks p i within is = elim (by_place marks p i) [
  | inl same ↦ subst (λ (k : ℕ). is_marked (set marks p true) k ≡ true) (sym same) (mark_here marks p within)
  | inr other ↦ other ∙ is
]

mark_from : (marks : List Bool) (p i : ℕ) → is_marked (set marks p true) i ≡ true → (i ≡ p) ⊎ (is_marked marks i ≡ true)
mark_from marks p i is = elim (by_place marks p i) [ inl same ↦ inl same | inr other ↦ inr (sym other ∙ is) ]

-- the places of what it is made of
abbrev IsArgument : Making → ℕ → Type 0
IsArgument (Compared y r s t) i = ⊥
IsArgument (Added y s t u) i = ⊥
IsArgument (Number y t) i = ⊥
IsArgument (Called n ts) i = ⊥
IsArgument (Lettered n ts r b) i = ⊥
IsArgument (Renamed s t p) i = i ≡ p
IsArgument (Constant y c t) i = ⊥
IsArgument (Joined j p q) i = (i ≡ p) ⊎ (i ≡ q)
IsArgument (Paired n ts r w us) i = ⊥
IsArgument (Complement p) i = i ≡ p
IsArgument (Projected t p) i = i ≡ p

-- marks stay
marked_stays : (marks : List Bool) (m : Making) (i : ℕ) → IsOf (length marks) m → is_marked marks i ≡ true → is_marked (marked marks m) i ≡ true
marked_stays marks (Compared y r s t) i below is = is
marked_stays marks (Added y s t u) i below is = is
marked_stays marks (Number y t) i below is = is
marked_stays marks (Called n ts) i below is = is
marked_stays marks (Lettered n ts r b) i below is = is
marked_stays marks (Renamed s t p) i below is = mark_stays marks p i below is
marked_stays marks (Constant y c t) i below is = is
marked_stays marks (Joined j p q) i below is = mark_stays (set marks p true) q i (omega (arith, below.1, length-set marks p true)) (mark_stays marks p i below.0 is)
marked_stays marks (Paired n ts r w us) i below is = is
marked_stays marks (Complement p) i below is = mark_stays marks p i below is
marked_stays marks (Projected t p) i below is = mark_stays marks p i below is

-- and others come at arguments alone
marked_from : (marks : List Bool) (m : Making) (i : ℕ) → is_marked (marked marks m) i ≡ true → IsArgument m i ⊎ (is_marked marks i ≡ true)
marked_from marks (Compared y r s t) i is = inr is
marked_from marks (Added y s t u) i is = inr is
marked_from marks (Number y t) i is = inr is
marked_from marks (Called n ts) i is = inr is
marked_from marks (Lettered n ts r b) i is = inr is
marked_from marks (Renamed s t p) i is = mark_from marks p i is
marked_from marks (Constant y c t) i is = inr is
marked_from marks (Joined j p q) i is = elim (mark_from (set marks p true) q i is) [
  | inl second ↦ inl (inr second)
  | inr other ↦ elim (mark_from marks p i other) [ inl first ↦ inl (inl first) | inr old ↦ inr old ]
]
marked_from marks (Paired n ts r w us) i is = inr is
marked_from marks (Complement p) i is = mark_from marks p i is
marked_from marks (Projected t p) i is = mark_from marks p i is

marked_are : (marks : List Bool) (m : Making) → IsOf (length marks) m → AreMarked (marked marks m) m
marked_are marks (Compared y r s t) below = tt
marked_are marks (Added y s t u) below = tt
marked_are marks (Number y t) below = tt
marked_are marks (Called n ts) below = tt
marked_are marks (Lettered n ts r b) below = tt
marked_are marks (Renamed s t p) below = mark_here marks p below
marked_are marks (Constant y c t) below = tt
marked_are marks (Joined j p q) below =
    let inside : q < length (set marks p true) = omega (arith, below.1, length-set marks p true) in
    (mark_stays (set marks p true) q p inside (mark_here marks p below.0), mark_here (set marks p true) q inside)
marked_are marks (Paired n ts r w us) below = tt
marked_are marks (Complement p) below = mark_here marks p below
marked_are marks (Projected t p) below = mark_here marks p below

marked_long : (marks : List Bool) (m : Making) → length (marked marks m) ≡ length marks
marked_long marks (Compared y r s t) = refl
marked_long marks (Added y s t u) = refl
marked_long marks (Number y t) = refl
marked_long marks (Called n ts) = refl
marked_long marks (Lettered n ts r b) = refl
marked_long marks (Renamed s t p) = length-set marks p true
marked_long marks (Constant y c t) = refl
marked_long marks (Joined j p q) = length-set (set marks p true) q true ∙ length-set marks p true
marked_long marks (Paired n ts r w us) = refl
marked_long marks (Complement p) = length-set marks p true
marked_long marks (Projected t p) = length-set marks p true

are_stay : (marks more : List Bool) (m : Making) → ((i : ℕ) → is_marked marks i ≡ true → is_marked more i ≡ true) → AreMarked marks m → AreMarked more m
are_stay marks more (Compared y r s t) stay are = tt
are_stay marks more (Added y s t u) stay are = tt
are_stay marks more (Number y t) stay are = tt
are_stay marks more (Called n ts) stay are = tt
are_stay marks more (Lettered n ts r b) stay are = tt
are_stay marks more (Renamed s t p) stay are = stay p are
are_stay marks more (Constant y c t) stay are = tt
are_stay marks more (Joined j p q) stay are = (stay p are.0, stay q are.1)
are_stay marks more (Paired n ts r w us) stay are = tt
are_stay marks more (Complement p) stay are = stay p are
are_stay marks more (Projected t p) stay are = stay p are

argument_below : (k : ℕ) (m : Making) (i : ℕ) → IsOf k m → IsArgument m i → i < k
argument_below k (Compared y r s t) i below is = absurd is
argument_below k (Added y s t u) i below is = absurd is
argument_below k (Number y t) i below is = absurd is
argument_below k (Called n ts) i below is = absurd is
argument_below k (Lettered n ts r b) i below is = absurd is
argument_below k (Renamed s t p) i below is = omega (arith, below, is)
argument_below k (Constant y c t) i below is = absurd is
argument_below k (Joined j p q) i below is = elim is [ inl first ↦ omega (arith, below.0, first) | inr second ↦ omega (arith, below.1, second) ]
argument_below k (Paired n ts r w us) i below is = absurd is
argument_below k (Complement p) i below is = omega (arith, below, is)
argument_below k (Projected t p) i below is = omega (arith, below, is)

-- an argument's plan is a part
argument_part : (plans : List Plan) (m : Making) (i : ℕ) → IsArgument m i → IsPart (plan_at plans i) (plan_by plans m)
argument_part plans (Compared y r s t) i is = absurd is
argument_part plans (Added y s t u) i is = absurd is
argument_part plans (Number y t) i is = absurd is
argument_part plans (Called n ts) i is = absurd is
argument_part plans (Lettered n ts r b) i is = absurd is
argument_part plans (Renamed s t p) i is = inr (subst (λ (k : ℕ). IsPart (plan_at plans i) (plan_at plans k)) is (whole_part (plan_at plans i)))
argument_part plans (Constant y c t) i is = absurd is
argument_part plans (Joined j p q) i is = elim is [
  | inl first ↦ inr (inl (subst (λ (k : ℕ). IsPart (plan_at plans i) (plan_at plans k)) first (whole_part (plan_at plans i))))
  | inr second ↦ inr (inr (subst (λ (k : ℕ). IsPart (plan_at plans i) (plan_at plans k)) second (whole_part (plan_at plans i))))
]
argument_part plans (Paired n ts r w us) i is = absurd is
argument_part plans (Complement p) i is = inr (subst (λ (k : ℕ). IsPart (plan_at plans i) (plan_at plans k)) is (whole_part (plan_at plans i)))
argument_part plans (Projected t p) i is = inr (subst (λ (k : ℕ). IsPart (plan_at plans i) (plan_at plans k)) is (whole_part (plan_at plans i)))

-- the plans from one of them on were looked at
pub record IsMarkedFrom (makings : List Making) (last k : ℕ) (marks : List Bool) : Type 0 where
  pub count : length marks ≡ length makings
  pub last_is : is_marked marks last ≡ true
  pub steps : (i : ℕ) (m : Making) → k ≤ i → i < length makings → m ≡ get_or makings i m → is_step_making m ≡ true → is_marked marks i ≡ true
  pub parts : (i : ℕ) (m : Making) → k ≤ i → i < length makings → m ≡ get_or makings i m → is_marked marks i ≡ true → AreMarked marks m
  pub rooted : (plans : List Plan) → AreMakingsOf plans makings → (i : ℕ) → i < length makings → is_marked marks i ≡ true → IsRooted plans last (plan_at plans i)

of_longer : (k j : ℕ) (m : Making) → IsOf k m → k ≤ j → IsOf j m
of_longer k j (Compared y r s t) below more = tt
of_longer k j (Added y s t u) below more = tt
of_longer k j (Number y t) below more = tt
of_longer k j (Called n ts) below more = tt
of_longer k j (Lettered n ts r b) below more = tt
of_longer k j (Renamed s t p) below more = omega (arith, below, more)
of_longer k j (Constant y c t) below more = tt
of_longer k j (Joined i p q) below more = (omega (arith, below.0, more), omega (arith, below.1, more))
of_longer k j (Paired n ts r w us) below more = tt
of_longer k j (Complement p) below more = omega (arith, below, more)
of_longer k j (Projected t p) below more = omega (arith, below, more)

part_rooted : (plans : List Plan) (last : ℕ) (p q : Plan) → IsPart p q → IsRooted plans last q → IsRooted plans last p
part_rooted plans last p q part (inl whole) = inl (part_of_part p q (plan_at plans last) part whole)
part_rooted plans last p q part (inr (i, inside, step, whole)) = inr (i, inside, step, part_of_part p q (plan_at plans i) part whole)

module _ (list : List Plan) (makings : List Making) (last k : ℕ) (marks : List Bool) (m : Making) (all : AreMakingsOf list makings) (from : IsMarkedFrom makings last (suc k) marks)
    (inside : k < length makings) (is : m ≡ get_or makings k m) where
  at_here : (plans : List Plan) → AreMakingsOf plans makings → IsMakingAt plans k m
  at_here plans are = subst (IsMakingAt plans k) (sym is) (are.each k m inside)

  same_making : (i : ℕ) (n : Making) → i ≡ k → n ≡ get_or makings i n → n ≡ m
  same_making i n same at = at ∙ ap (λ (j : ℕ). get_or makings j n) same ∙ get_or_default makings k n m inside ∙ sym is

  in_marks : k < length marks
  in_marks = omega (arith, inside, from.count)

  abbrev pub grown : List Bool
  grown = marked (set marks k true) m

  below_first : IsOf (length (set marks k true)) m
  below_first = of_longer k (length (set marks k true)) m (at_here list all).of_earlier (omega (arith, in_marks, length-set marks k true))

  stays_grown : (i : ℕ) → is_marked marks i ≡ true → is_marked grown i ≡ true
  stays_grown i old = marked_stays (set marks k true) m i below_first (mark_stays marks k i in_marks old)

  here_grown : is_marked grown k ≡ true
  here_grown = marked_stays (set marks k true) m k below_first (mark_here marks k in_marks)

  came : (i : ℕ) → is_marked grown i ≡ true → IsArgument m i ⊎ ((i ≡ k) ⊎ (is_marked marks i ≡ true))
  came i known = elim (marked_from (set marks k true) m i known) [ inl argument ↦ inl argument | inr first ↦ inr (mark_from marks k i first) ]

  -- one more, which is needed
  pub needed_here : (is_marked marks k ≡ true) ⊎ (is_step_making m ≡ true) → IsMarkedFrom makings last k grown
  needed_here why = record {
    count = marked_long (set marks k true) m ∙ length-set marks k true ∙ from.count;
    last_is = stays_grown last from.last_is;
    steps = λ i n past within at step. elim (cases_lt k i) [
      | inl later ↦ stays_grown i (from.steps i n (omega (arith, later)) within at step)
      | inr not_later ↦ (let same : i ≡ k = omega (arith, past, not_later) in subst (λ (j : ℕ). is_marked grown j ≡ true) (sym same) here_grown)
    ];
    parts = λ i n past within at known. elim (cases_lt k i) [
      | inl later ↦ elim (came i known) [
        | inl argument ↦ absurd (let less = argument_below k m i (at_here list all).of_earlier argument in omega (arith, less, later))
        | inr (inl same) ↦ absurd (omega (arith, later, same))
        | inr (inr old) ↦ are_stay marks grown n stays_grown (from.parts i n (omega (arith, later)) within at old)
      ]
      | inr not_later ↦ (let same : i ≡ k = omega (arith, past, not_later) in subst (AreMarked grown) (sym (same_making i n same at)) (marked_are (set marks k true) m below_first))
    ];
    rooted = λ plans are i within known. elim (came i known) [
      | inl argument ↦ part_rooted plans last (plan_at plans i) (plan_at plans k) (subst (IsPart (plan_at plans i)) (at_here plans are).makes (argument_part plans m i argument)) (rooted_here why plans are)
      | inr (inl same) ↦ subst (λ (j : ℕ). IsRooted plans last (plan_at plans j)) (sym same) (rooted_here why plans are)
      | inr (inr old) ↦ from.rooted plans are i within old
    ];
  }
    where
      rooted_here : (is_marked marks k ≡ true) ⊎ (is_step_making m ≡ true) → (plans : List Plan) → AreMakingsOf plans makings → IsRooted plans last (plan_at plans k)
      rooted_here (inl old) plans are = from.rooted plans are k inside old
      rooted_here (inr step) plans are =
          inr (k, omega (arith, inside, are.as_many), ap is_step (sym (at_here plans are).makes) ∙ sym (step_is plans m) ∙ step, whole_part (plan_at plans k))

-- only the last is marked
pub only_last : (makings : List Making) (last : ℕ) (marks : List Bool) → last < length makings → length marks ≡ length makings → ((i : ℕ) → i < length marks → is_marked marks i ≡ false)
    → IsMarkedFrom makings last (length makings) (set marks last true)
only_last makings last marks inside count none = record {
  count = length-set marks last true ∙ count;
  last_is = mark_here marks last (omega (arith, inside, count));
  steps = λ i m past within. absurd (omega (arith, past, within));
  parts = λ i m past within. absurd (omega (arith, past, within));
  rooted = λ plans are i within known. elim (mark_from marks last i known) [
    | inl same ↦ subst (λ (j : ℕ). IsRooted plans last (plan_at plans j)) (sym same) (inl (whole_part (plan_at plans last)))
    | inr old ↦ absurd (false≢true (sym (none i (omega (arith, within, count))) ∙ old))
  ];
}

-- all plans were looked at
pub all_needed : (plans : List Plan) (makings : List Making) (last : ℕ) (marks : List Bool) → AreMakingsOf plans makings → IsMarkedFrom makings last 0 marks → AreNeeded plans makings last marks
all_needed plans makings last marks are from = record {
  count = from.count ∙ are.as_many;
  last_is = from.last_is;
  steps = λ i within step.
      let inside : i < length makings = omega (arith, within, are.as_many) in
      let d : Making = get_or makings i (Complement 0) in
      let at : d ≡ get_or makings i d = get_or_default makings i (Complement 0) d inside in
      from.steps i d (omega arith) inside at (step_is plans d ∙ ap is_step (subst (IsMakingAt plans i) (sym at) (are.each i d inside)).makes ∙ step);
  parts = λ i m within at known. from.parts i m (omega arith) (omega (arith, within, are.as_many)) at known;
  rooted = λ i within known. from.rooted plans are i (omega (arith, within, are.as_many)) known;
}
