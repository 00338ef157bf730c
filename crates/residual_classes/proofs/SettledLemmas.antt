-- Classes that are parted until each letter leads from one into one.
use Rattle.std.proofs.Common.{◌≡◌, ◌≢◌, ◌↔◌, ℕ, ◌+◌, ◌<◌, ◌≤◌, List, [], ◌∷◌, ◌++◌, length, get_or, ◌⊎◌, inl, inr, sym, ap, ◌∙◌, subst, arith}
use Rattle.std.specs.List.{Contains, slice_range}
use Rattle.std.proofs.lemmas.Bool.{cases_lt, cases_eq}
use Rattle.std.proofs.lemmas.List.{get_or_past}
use Rattle.std.proofs.lemmas.List.Elements.{All-contains, Contains-append_left, Contains-push}
use Rattle.digit_tuple.specs.Deterministic.{Automaton, states_of}
use Rattle.digit_tuple.proofs.MemberLemmas.{Contains-none}
use Rattle.digit_tuple.proofs.PigeonLemmas.{IsNumberIn, onto_one}
use Rattle.residual_classes.specs.declared.partition.ClassSpan.{ClassSpan}
use Rattle.residual_classes.specs.Classes.{class_of, next_of}
use Rattle.residual_classes.specs.CoarseClasses.{AreResidualClasses, HaveOneOutput}
use Rattle.residual_classes.specs.Partition.{AreParted, IsGiven, IsUnion, span_of}
use Rattle.residual_classes.specs.Settled.{AreAllPending, AreSettled, IsSettled}
use Rattle.residual_classes.specs.StateOrder.{AreAtEnd}
use Rattle.residual_classes.proofs.PartitionLemmas.{AreCoarseClasses-parted, cases_contains, place_of, state_within}
use Rattle.residual_classes.proofs.ResidualLemmas.{AreResidualClasses-stable}
use Rattle.residual_classes.proofs.SpanLemmas.{Contains-slice, Contains-from_slice}

module _ (d : Automaton) (outputs classes states places : List ℕ) (spans : List ClassSpan) (pending : List ℕ) (parted : AreParted d outputs classes states places spans pending) where
  -- each state has a class, and so has what is past the sink
  pub class_made : (q : ℕ) → class_of classes q < length spans
  class_made q = by (cases_lt q (states_of d + 1))
    where
      by : (q < states_of d + 1) ⊎ (states_of d + 1 ≤ q) → class_of classes q < length spans
      by (inl less) = parted.below q (omega arith)
      by (inr past) = omega (arith, get_or_past classes q 0 (omega (arith, past, parted.width)), parted.below (states_of d) (omega arith))

  -- what has a class but the sink's is a state
  state_of_class : (q : ℕ) → 0 < class_of classes q → q < states_of d
  state_of_class q live = by (cases_lt q (states_of d + 1)) (cases_eq q (states_of d))
    where
      by : (q < states_of d + 1) ⊎ (states_of d + 1 ≤ q) → (q ≡ states_of d) ⊎ (q ≡ states_of d → ⊥) → q < states_of d
      by (inr past) cases = absurd (omega (arith, live, get_or_past classes q 0 (omega (arith, past, parted.width))))
      by (inl less) (inl is) = absurd (omega (arith, live, ap (class_of classes) is, parted.sink))
      by (inl less) (inr other) = omega (arith, less, other)

  -- the states in the span of a class but the sink's are those of the class
  pub span_has : (class : ℕ) → 0 < class → class < length spans → (q : ℕ) → Contains (slice_range states (span_of spans class).start (span_of spans class).end) q ↔ (class_of classes q ≡ class)
  span_has class live made q = (
    (λ there. let found = Contains-from_slice states (span_of spans class).start (span_of spans class).end q (parted.spanned.within class made) there in ap (class_of classes) (sym found.3) ∙ parted.spanned.inside class found.0 made found.1 found.2),
    (λ is.
        let at = place_of d outputs classes states places spans pending parted class made q (state_of_class q (omega (arith, live, is))) is in
        subst (Contains (slice_range states (span_of spans class).start (span_of spans class).end)) at.3 (Contains-slice states (span_of spans class).start (span_of spans class).end at.0 (parted.spanned.within class made) at.1 at.2)),
  )

  -- where there are as many classes as states and the sink, each has a class of its own
  pub one_each : states_of d < length spans → (p q : ℕ) → p ≤ states_of d → q ≤ states_of d → class_of classes p ≡ class_of classes q → p ≡ q
  one_each full p q small low same =
      onto_one (states_of d + 1) classes (λ k less. occurs k (cases_lt 0 k) (omega (arith, less, full))) parted.width p q (omega (arith, small, parted.width)) (omega (arith, low, parted.width)) same
    where
      occurs : (k : ℕ) → (0 < k) ⊎ (k ≤ 0) → k < length spans → IsNumberIn classes k
      occurs k (inl live) made =
          let place = (span_of spans k).start in
          let some = parted.filled k live made in
          let within : place < length states = omega (arith, some, parted.spanned.within k made) in
          (get_or states place 0, omega (arith, state_within d outputs classes states places spans pending parted place within, parted.width), parted.spanned.inside k place made (omega arith) some)
      occurs k (inr none) made = (states_of d, omega (arith, parted.width), parted.sink ∙ omega arith)

  -- a class, of which the states of a set have been moved to the end of its span
  module _ (class : ℕ) (made : class < length spans) (was set : List ℕ) (middle : ℕ) (moved : AreAtEnd was states set (span_of spans class).start middle (span_of spans class).end)
      (union : IsUnion d outputs set) where
    abbrev first : ℕ
    first = (span_of spans class).start

    abbrev last : ℕ
    last = (span_of spans class).end

    room : last ≤ length states
    room = parted.spanned.within class made

    -- those that leave are the states of the class that are in the set
    leaving : (q : ℕ) → Contains (slice_range states middle last) q → Contains set q × (class_of classes q ≡ class)
    leaving q there =
        let found = Contains-from_slice states middle last q room there in (
          subst (Contains set) found.3 (moved.moved found.0 found.1 found.2),
          ap (class_of classes) (sym found.3) ∙ parted.spanned.inside class found.0 made (omega (arith, found.1, moved.after_start)) found.2,
        )

    leaves : (q : ℕ) → Contains set q → class_of classes q ≡ class → Contains (slice_range states middle last) q
    leaves q there one =
        let at = place_of d outputs classes states places spans pending parted class made q (All-contains (λ (x : ℕ). x < states_of d) set q union.within there) one in
        by at.0 at.1 at.2 at.3 (cases_lt at.0 middle)
      where
        by : (place : ℕ) → first ≤ place → place < last → get_or states place 0 ≡ q → (place < middle) ⊎ (middle ≤ place) → Contains (slice_range states middle last) q
        by place from to is (inl less) = absurd (moved.left place from less (subst (Contains set) (sym is) there))
        by place from to is (inr more) = subst (Contains (slice_range states middle last)) is (Contains-slice states middle last place room more to)

    -- none leaves, or all of a class but the sink's do: then they are apart already
    pub apart_already : (middle ≡ last) ⊎ ((middle ≡ first) × (0 < class)) → (p q : ℕ) → class_of classes p ≡ class → class_of classes p ≡ class_of classes q → Contains set p → Contains set q
    apart_already (inl none) p q one same there =
        let found = Contains-from_slice states middle last p room (leaves p there one) in
        absurd (omega (arith, found.1, found.2, none))
    apart_already (inr all) p q one same there =
        let other : class_of classes q ≡ class = sym same ∙ one in
        let at = place_of d outputs classes states places spans pending parted class made q (state_of_class q (omega (arith, other, all.1))) other in
        subst (Contains set) at.3 (moved.moved at.0 (omega (arith, at.1, all.0)) at.2)

    -- where some leave, and some stay, there is room for one more class
    pub has_room : middle ≢ last → (middle ≢ first) ⊎ (class ≡ 0) → states_of d < length spans → ⊥
    has_room some rest full = by rest
      where
        end : middle < last
        end = omega (arith, some, moved.before_end)

        here : get_or states middle 0 < states_of d
        here = state_within d outputs classes states places spans pending parted middle (omega (arith, end, room))

        of_class : class_of classes (get_or states middle 0) ≡ class
        of_class = parted.spanned.inside class middle made moved.after_start end

        by : (middle ≢ first) ⊎ (class ≡ 0) → ⊥
        by (inl others) =
            let low : first < length states = omega (arith, moved.after_start, end, room) in
            let same = one_each full (get_or states first 0) (get_or states middle 0) (omega (arith, state_within d outputs classes states places spans pending parted first low)) (omega (arith, here))
            (parted.spanned.inside class first made (omega arith) (omega (arith, moved.after_start, end)) ∙ sym of_class) in
            others (sym (parted.order.placed middle (omega (arith, end, room))) ∙ ap (λ (x : ℕ). get_or places x 0) (sym same) ∙ parted.order.placed first low)
        by (inr sink) = omega (arith, here, one_each full (get_or states middle 0) (states_of d) (omega (arith, here)) (omega arith) (of_class ∙ sink ∙ sym parted.sink))

    -- they get a new class
    module _ (new : List ℕ) (given : IsGiven classes new (slice_range states middle last) (length spans)) where
      -- no other state has it
      alone : (p q : ℕ) → Contains (slice_range states middle last) p → class_of new p ≡ class_of new q → Contains (slice_range states middle last) q
      alone p q there same = by (cases_contains (slice_range states middle last) q)
        where
          by : Contains (slice_range states middle last) q ⊎ (Contains (slice_range states middle last) q → ⊥) → Contains (slice_range states middle last) q
          by (inl also) = also
          by (inr none) = absurd (omega (arith, class_made q, given.elsewhere q none, given.there p there, same))

      pub parted_more : (p q : ℕ) → class_of new p ≡ class_of new q → class_of classes p ≡ class_of classes q
      parted_more p q same = by (cases_contains (slice_range states middle last) p) (cases_contains (slice_range states middle last) q)
        where
          by : Contains (slice_range states middle last) p ⊎ (Contains (slice_range states middle last) p → ⊥) → Contains (slice_range states middle last) q ⊎ (Contains (slice_range states middle last) q → ⊥) → class_of classes p ≡ class_of classes q
          by (inl there) cases = (leaving p there).1 ∙ sym (leaving q (alone p q there same)).1
          by (inr none) (inl there) = absurd (none (alone q p there (sym same)))
          by (inr none) (inr neither) = sym (given.elsewhere p none) ∙ same ∙ given.elsewhere q neither

      pub apart_now : (p q : ℕ) → class_of classes p ≡ class → class_of new p ≡ class_of new q → Contains set p → Contains set q
      apart_now p q one same there = (leaving q (alone p q (leaves p there one) same)).0

      pub others_stay : (q : ℕ) → (class_of classes q ≡ class → ⊥) → class_of new q ≡ class_of classes q
      others_stay q other = given.elsewhere q (λ there. other (leaving q there).1)

      pub outside_stays : (q : ℕ) → (Contains set q → ⊥) → class_of new q ≡ class_of classes q
      outside_stays q out = given.elsewhere q (λ there. out (leaving q there).0)

      -- one of the two parts is pending, and both where the class was
      module _ (next : ℕ) (waiting : List ℕ) (pushed : waiting ≡ pending ++ next ∷ []) (part : (next ≡ length spans) ⊎ (next ≡ class)) (both : Contains pending class → next ≡ length spans) where
        there_now : Contains waiting next
        there_now = subst (λ (xs : List ℕ). Contains xs next) (sym pushed) (Contains-push pending next)

        still : (c : ℕ) → Contains pending c → Contains waiting c
        still c there = subst (λ (xs : List ℕ). Contains xs c) (sym pushed) (Contains-append_left pending (next ∷ []) c there)

        -- the class of a state of a pending class
        waits : (p : ℕ) → Contains pending (class_of classes p) → Contains waiting (class_of new p)
        waits p there = by (cases_contains (slice_range states middle last) p)
          where
            by : Contains (slice_range states middle last) p ⊎ (Contains (slice_range states middle last) p → ⊥) → Contains waiting (class_of new p)
            by (inl gone) = subst (Contains waiting) (both (subst (Contains pending) (leaving p gone).1 there) ∙ sym (given.there p gone)) there_now
            by (inr stayed) = subst (Contains waiting) (sym (given.elsewhere p stayed)) (still (class_of classes p) there)

        -- one of two states of one class leaves
        one_leaves : (p q : ℕ) → Contains (slice_range states middle last) p → (Contains (slice_range states middle last) q → ⊥) → class_of classes p ≡ class_of classes q → Contains waiting (class_of new p) ⊎ Contains waiting (class_of new q)
        one_leaves p q gone stayed same = by part
          where
            by : (next ≡ length spans) ⊎ (next ≡ class) → Contains waiting (class_of new p) ⊎ Contains waiting (class_of new q)
            by (inl is) = inl (subst (Contains waiting) (is ∙ sym (given.there p gone)) there_now)
            by (inr is) = inr (subst (Contains waiting) (is ∙ sym (leaving p gone).1 ∙ same ∙ sym (given.elsewhere q stayed)) there_now)

        swapped : (p q : ℕ) → Contains waiting (class_of new p) ⊎ Contains waiting (class_of new q) → Contains waiting (class_of new q) ⊎ Contains waiting (class_of new p)
        swapped p q (inl one) = inr one
        swapped p q (inr other) = inl other

        pub settled_more : (p q : ℕ) → AreSettled classes pending p q → AreSettled new waiting p q
        settled_more p q (inr (inl there)) = inr (inl (waits p there))
        settled_more p q (inr (inr there)) = inr (inr (waits q there))
        settled_more p q (inl same) = by (cases_contains (slice_range states middle last) p) (cases_contains (slice_range states middle last) q)
          where
            by : Contains (slice_range states middle last) p ⊎ (Contains (slice_range states middle last) p → ⊥) → Contains (slice_range states middle last) q ⊎ (Contains (slice_range states middle last) q → ⊥) → AreSettled new waiting p q
            by (inl gone) (inl also) = inl (given.there p gone ∙ sym (given.there q also))
            by (inl gone) (inr stayed) = inr (one_leaves p q gone stayed same)
            by (inr stayed) (inl gone) = inr (swapped q p (one_leaves q p gone stayed (sym same)))
            by (inr stayed) (inr also) = inl (given.elsewhere p stayed ∙ same ∙ sym (given.elsewhere q also))

        -- where all classes are pending, all still are
        pub all_waiting : (count : ℕ) → count ≡ length spans + 1 → next ≡ length spans → AreAllPending (length spans) pending → AreAllPending count waiting
        all_waiting count one_more last_class all k live made = by (cases_eq k (length spans))
          where
            by : (k ≡ length spans) ⊎ (k ≡ length spans → ⊥) → Contains waiting k
            by (inl is) = subst (Contains waiting) (last_class ∙ sym is) there_now
            by (inr old) = still k (all k live (omega (arith, made, one_more, old)))

  -- classes that part those that are given, all of them pending
  pub IsSettled-begin : (before : List ℕ) → AreAllPending (length spans) pending → HaveOneOutput d outputs before
      → ((p q : ℕ) → p ≤ states_of d → q ≤ states_of d → class_of classes p ≡ class_of classes q → class_of before p ≡ class_of before q) → IsSettled d outputs classes pending
  IsSettled-begin before all one_output_each finer = record {
    one_output = λ p q small low same. one_output_each p q small low (finer p q small low same);
    led = λ p q a small low inside same. by (next_of d p a) (next_of d q a) (cases_lt 0 (class_of classes (next_of d p a))) (cases_lt 0 (class_of classes (next_of d q a)));
  }
    where
      by : (r s : ℕ) → (0 < class_of classes r) ⊎ (class_of classes r ≤ 0) → (0 < class_of classes s) ⊎ (class_of classes s ≤ 0) → AreSettled classes pending r s
      by r s (inl live) cases = inr (inl (all (class_of classes r) live (class_made r)))
      by r s (inr dead) (inl live) = inr (inr (all (class_of classes s) live (class_made s)))
      by r s (inr dead) (inr also) = inl (omega (arith, dead, also))

  -- where none is pending the classes are the residuals
  pub AreResidualClasses-settled : length outputs ≡ states_of d → pending ≡ [] → IsSettled d outputs classes pending → AreResidualClasses d outputs classes
  AreResidualClasses-settled given none settled = AreResidualClasses-stable d outputs given parted.table classes (AreCoarseClasses-parted d outputs classes states places spans pending parted)
      (λ p q small low same. record { own = same; next = λ a inside. by (next_of d p a) (next_of d q a) (settled.led p q a small low inside same) }) settled.one_output
    where
      nothing : (c : ℕ) → Contains pending c → ⊥
      nothing c there = Contains-none c (subst (λ (xs : List ℕ). Contains xs c) none there)

      by : (r s : ℕ) → AreSettled classes pending r s → class_of classes r ≡ class_of classes s
      by r s (inl same) = same
      by r s (inr (inl there)) = absurd (nothing (class_of classes r) there)
      by r s (inr (inr there)) = absurd (nothing (class_of classes s) there)
