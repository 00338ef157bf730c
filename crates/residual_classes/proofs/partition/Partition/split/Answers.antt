use Rattle.std.proofs.Common.{◌≡◌, ◌≢◌, ◌+◌, ◌^◌, ◌<◌, ◌≤◌, ◌⊎◌, inl, inr, List, ℕ, length, refl, sym, ap, ◌∙◌, subst, true≢false, eq-eqb, leb-true, leb-false, arith}
use Rattle.std.specs.List.{All, Contains, slice_range, sum_by}
use Rattle.std.proofs.lemmas.Bool.{cases_lt}
use Rattle.std.proofs.lemmas.List.{get_or_default, length_push}
use Rattle.std.proofs.lemmas.List.Elements.{All-contains}
use Rattle.std.proofs.lemmas.Result.{on_ok_weaker}
use Rattle.digit_tuple.specs.Deterministic.{states_of}
use Rattle.residual_classes.specs.declared.machine.Machine.{Machine}
use Rattle.residual_classes.specs.declared.partition.ClassSpan.{ClassSpan}
use Rattle.residual_classes.specs.declared.partition.Partition.{Partition}
use Rattle.residual_classes.specs.ReversedTransitions.{in_degree}
use Rattle.residual_classes.specs.StateOrder.{AreAtEnd, AreInverse}
use Rattle.residual_classes.specs.Partition.{AreParted, IsGiven, IsPartition, IsUnion, no_span, span_of}
use Rattle.residual_classes.proofs.PartitionLemmas.{AreParted-moved, AreParted-cut, IsUnion-leaving}
use Rattle.residual_classes.proofs.SpanSumLemmas.{Decision, counted_cut, leaving_count, paid_cut}
use Rattle.residual_classes.proofs.SettledLemmas.{all_waiting, apart_already, apart_now, has_room, others_stay, outside_stays, parted_more, settled_more}
use Rattle.residual_classes.proofs.partition.Partition.split.Goals as goal
use Rattle.residual_classes.proofs.partition.Partition.split.Goals.{then-leave, else-leave, then-has, else-has, then-class-eq0, else-class-eq0, then-middle-end-via-then-middle-end, then-middle-end-via-else-middle-end+then-class-gt0}

-- a class's span is read, and the states of a set are moved to its end
record Moved (m : Machine) (p : Partition) (class : ℕ) (set : List ℕ) (span : ClassSpan) (states places : List ℕ) (middle : ℕ) : Type 0 where
  partition : IsPartition m p
  made : class < length p.spans.items
  union : IsUnion m.dfa.now m.outputs.now set
  read : span ≡ span_of p.spans.items class
  order : AreInverse states places
  at_end : AreAtEnd p.states.items states set span.start middle span.end

module _ (m : Machine) (p : Partition) (class : ℕ) (set : List ℕ) (span : ClassSpan) (states places : List ℕ) (middle : ℕ) (v : Moved m p class set span states places middle) where
  abbrev first : ℕ
  first = (span_of p.spans.items class).start

  abbrev last : ℕ
  last = (span_of p.spans.items class).end

  moved : AreAtEnd p.states.items states set first middle last
  moved = subst (λ (s : ClassSpan). AreAtEnd p.states.items states set s.start middle s.end) v.read v.at_end

  parted : AreParted m.dfa.now m.outputs.now p.classes.items states places p.spans.items p.pending
  parted = AreParted-moved m.dfa.now m.outputs.now p.classes.items p.states.items p.places.items p.spans.items p.pending v.partition.parted class v.made states places set middle v.order moved

  -- the states that leave
  part_is : (xs : List ℕ) → xs ≡ states → slice_range xs middle span.end ≡ slice_range states middle last
  part_is xs is = ap (λ (ys : List ℕ). slice_range ys middle span.end) is ∙ ap (λ (s : ClassSpan). slice_range states middle s.end) v.read

  leaving_within : All (λ q. q < length p.classes.items) (slice_range states middle last)
  leaving_within k d within =
      let union = IsUnion-leaving m.dfa.now m.outputs.now p.classes.items states places p.spans.items p.pending parted class v.made p.states.items set middle moved v.union in
      omega (arith, union.within k d within, parted.width)

  -- some leave, and of a class but the sink's some stay
  some_leave : (middle ≡ span.end → ⊥) → middle ≢ last
  some_leave other is = other (is ∙ sym (ap (λ (s : ClassSpan). s.end) v.read))

  some_stay : ((middle ≡ span.start) × (class ≤ 0)) ⊎ (middle ≢ span.start) → (middle ≢ first) ⊎ (class ≡ 0)
  some_stay (inl both) = inr (omega (arith, both.1))
  some_stay (inr other) = inl (λ is. other (is ∙ sym (ap (λ (s : ClassSpan). s.start) v.read)))

  -- there is room for one more class
  few : middle ≢ last → (middle ≢ first) ⊎ (class ≡ 0) → length p.spans.items ≤ states_of m.dfa.now
  few some rest = by (cases_lt (states_of m.dfa.now) (length p.spans.items))
    where
      by : (states_of m.dfa.now < length p.spans.items) ⊎ (length p.spans.items ≤ states_of m.dfa.now) → length p.spans.items ≤ states_of m.dfa.now
      by (inr low) = low
      by (inl full) = absurd (has_room m.dfa.now m.outputs.now p.classes.items states places p.spans.items p.pending parted class v.made p.states.items set middle moved v.union some rest full)

-- which part is pending: the new one of the sink's class and of a pending one
data Part (pending : List ℕ) (count class next : ℕ) : Type 0 where
  made_one : next ≡ count → Part pending count class next
  left_one : 0 < class → (Contains pending class → ⊥) → next ≡ class → Part pending count class next

module _ (pending : List ℕ) (count class next : ℕ) (made : class < count) where
  live : Part pending count class next → 0 < next
  live (made_one is) = omega (arith, is, made)
  live (left_one above none is) = omega (arith, is, above)

  among : Part pending count class next → next < count + 1
  among (made_one is) = omega (arith, is)
  among (left_one above none is) = omega (arith, is, made)

  one_of : Part pending count class next → (next ≡ count) ⊎ (next ≡ class)
  one_of (made_one is) = inl is
  one_of (left_one above none is) = inr is

  both : Part pending count class next → Contains pending class → next ≡ count
  both (made_one is) there = is
  both (left_one above none is) there = absurd (none there)

  of_sink : Part pending count class next → class ≡ 0 → next ≡ count
  of_sink (made_one is) sink = is
  of_sink (left_one above none is) sink = absurd (omega (arith, above, sink))

  once : All (λ k. k < count) pending → Part pending count class next → Contains pending next → ⊥
  once below (made_one is) there = omega (arith, is, All-contains (λ (k : ℕ). k < count) pending next below there)
  once below (left_one above none is) there = none (subst (Contains pending) is there)

moved_here : (c : goal.Joined-then-middle-end) → Moved c.args.machine.now c.args.self.now c.args.class c.args.states.now c.index.result.now c.move_to_end-middle.new.states.items c.move_to_end-middle.new.places.items c.move_to_end-middle.result
moved_here c = record {
  partition = c.requires.partition;
  made = c.requires.class;
  union = c.requires.states;
  read = c.index.ensures ∙ get_or_default c.args.self.now.spans.items c.args.class c.index.result.now no_span c.requires.class;
  order = c.move_to_end-middle.ensures.order;
  at_end = c.move_to_end-middle.ensures.moved;
}

pub returns-then-middle-end-clause-partition : goal.returns-then-middle-end-clause-partition
returns-then-middle-end-clause-partition c = record {
  reversed = c.requires.partition.reversed;
  parted = parted c.args.machine.now c.args.self.now c.args.class c.args.states.now c.index.result.now c.move_to_end-middle.new.states.items c.move_to_end-middle.new.places.items c.move_to_end-middle.result (moved_here c);
}

pub returns-then-middle-end-clause-split : goal.returns-then-middle-end-clause-split
returns-then-middle-end-clause-split c =
    let p = c.args.self.now in
    let m = c.args.machine.now in
    let new = c.move_to_end-middle.new in
    let v = moved_here c in
    let stays : (c.move_to_end-middle.result ≡ (span_of p.spans.items c.args.class).end) ⊎ ((c.move_to_end-middle.result ≡ (span_of p.spans.items c.args.class).start) × (0 < c.args.class)) =
    elim c.then-middle-end.branch [
      | then-middle-end-via-then-middle-end w ↦ inl (w.if-middle-end.true ∙ ap (λ (span : ClassSpan). span.end) v.read)
      | then-middle-end-via-else-middle-end+then-class-gt0 w ↦ inr (w.if-class-gt0.true.0 ∙ ap (λ (span : ClassSpan). span.start) v.read, w.if-class-gt0.true.1)
    ] in
    record {
      apart = apart_already m.dfa.now m.outputs.now p.classes.items new.states.items new.places.items p.spans.items p.pending (parted c.args.machine.now c.args.self.now c.args.class c.args.states.now c.index.result.now c.move_to_end-middle.new.states.items c.move_to_end-middle.new.places.items c.move_to_end-middle.result v) c.args.class c.requires.class p.states.items c.args.states.now c.move_to_end-middle.result (moved c.args.machine.now c.args.self.now c.args.class c.args.states.now c.index.result.now c.move_to_end-middle.new.states.items c.move_to_end-middle.new.places.items c.move_to_end-middle.result v) c.requires.states stays;
      others = λ q other. refl;
      outside = λ q out. refl;
      waiting = λ sink all. all;
    }

moved_for_give : (c : goal.After-give-arg-1) → Moved c.args.machine.now c.args.self.now c.args.class c.args.states.now c.index.result.now c.move_to_end-middle.new.states.items c.move_to_end-middle.new.places.items c.move_to_end-middle.result
moved_for_give c = record {
  partition = c.requires.partition;
  made = c.requires.class;
  union = c.requires.states;
  read = c.index.ensures ∙ get_or_default c.args.self.now.spans.items c.args.class c.index.result.now no_span c.requires.class;
  order = c.move_to_end-middle.ensures.order;
  at_end = c.move_to_end-middle.ensures.moved;
}

pub give-requires : goal.give-requires
give-requires c =
    let v = moved_for_give c in
    subst (All (λ (q : ℕ). q < length c.args.self.now.classes.items)) (sym (part_is c.args.machine.now c.args.self.now c.args.class c.args.states.now c.index.result.now c.move_to_end-middle.new.states.items c.move_to_end-middle.new.places.items c.move_to_end-middle.result v c.deref.result.now c.deref.ensures.value)) (leaving_within c.args.machine.now c.args.self.now c.args.class c.args.states.now c.index.result.now c.move_to_end-middle.new.states.items c.move_to_end-middle.new.places.items c.move_to_end-middle.result v)

pub overflow_cast-count : goal.overflow_cast-count
overflow_cast-count c =
    let v = moved_for_give c in
    omega (arith, few c.args.machine.now c.args.self.now c.args.class c.args.states.now c.index.result.now c.move_to_end-middle.new.states.items c.move_to_end-middle.new.places.items c.move_to_end-middle.result v (some_leave c.args.machine.now c.args.self.now c.args.class c.args.states.now c.index.result.now c.move_to_end-middle.new.states.items c.move_to_end-middle.new.places.items c.move_to_end-middle.result v c.if-middle-end.false) (some_stay c.args.machine.now c.args.self.now c.args.class c.args.states.now c.index.result.now c.move_to_end-middle.new.states.items c.move_to_end-middle.new.places.items c.move_to_end-middle.result v c.if-class-gt0.either), c.len-count.ensures, c.states-states.ensures.value)

moved_then : (c : goal.Then-leave) → Moved c.args.machine.now c.args.self.now c.args.class c.args.states.now c.index.result.now c.move_to_end-middle.new.states.items c.move_to_end-middle.new.places.items c.move_to_end-middle.result
moved_then c = record {
  partition = c.requires.partition;
  made = c.requires.class;
  union = c.requires.states;
  read = c.index.ensures ∙ get_or_default c.args.self.now.spans.items c.args.class c.index.result.now no_span c.requires.class;
  order = c.move_to_end-middle.ensures.order;
  at_end = c.move_to_end-middle.ensures.moved;
}

pub overflow_cast-count-then-leave : goal.overflow_cast-count-then-leave
overflow_cast-count-then-leave c =
    let v = moved_then c in
    omega (arith, few c.args.machine.now c.args.self.now c.args.class c.args.states.now c.index.result.now c.move_to_end-middle.new.states.items c.move_to_end-middle.new.places.items c.move_to_end-middle.result v (some_leave c.args.machine.now c.args.self.now c.args.class c.args.states.now c.index.result.now c.move_to_end-middle.new.states.items c.move_to_end-middle.new.places.items c.move_to_end-middle.result v c.if-middle-end.false) (some_stay c.args.machine.now c.args.self.now c.args.class c.args.states.now c.index.result.now c.move_to_end-middle.new.states.items c.move_to_end-middle.new.places.items c.move_to_end-middle.result v c.if-class-gt0.either), c.len-count.ensures, c.states-states.ensures.value)

which : (c : goal.Joined-leave) → Part c.args.self.now.pending (length c.args.self.now.spans.items) c.args.class c.if-leave.push
which c =
    elim c.if-leave.branch [
      | then-leave w ↦ made_one (omega (arith, w.push-is, c.len-count.ensures))
      | else-leave w ↦
          elim c.if-has.branch [
            | then-has v ↦ absurd (true≢false (sym v.if-has.true ∙ sym v.leave-is ∙ w.if-leave.false))
            | else-has v ↦
                elim c.if-class-eq0.branch [
                  | then-class-eq0 u ↦ absurd (true≢false (sym (eq-eqb c.args.class 0 u.if-class-eq0.true) ∙ sym u.value-is ∙ v.if-has.false))
                  | else-class-eq0 u ↦ left_one (omega (arith, u.if-class-eq0.false)) (λ there. true≢false (sym (u.has.ensures.1 there) ∙ sym u.value-is ∙ v.if-has.false)) w.push-is
                ]
          ]
    ]

pub push-requires : goal.push-requires
push-requires c = once c.args.self.now.pending (length c.args.self.now.spans.items) c.args.class c.if-leave.push c.requires.class c.requires.partition.parted.made (which c)

moved_last : (c : goal.After-push) → Moved c.args.machine.now c.args.self.now c.args.class c.args.states.now c.index.result.now c.move_to_end-middle.new.states.items c.move_to_end-middle.new.places.items c.move_to_end-middle.result
moved_last c = record {
  partition = c.requires.partition;
  made = c.requires.class;
  union = c.requires.states;
  read = c.index.ensures ∙ get_or_default c.args.self.now.spans.items c.args.class c.index.result.now no_span c.requires.class;
  order = c.move_to_end-middle.ensures.order;
  at_end = c.move_to_end-middle.ensures.moved;
}

which_last : (c : goal.After-push) → Part c.args.self.now.pending (length c.args.self.now.spans.items) c.args.class c.if-leave.push
which_last c =
    elim c.if-leave.branch [
      | then-leave w ↦ made_one (omega (arith, w.push-is, c.len-count.ensures))
      | else-leave w ↦
          elim c.if-has.branch [
            | then-has v ↦ absurd (true≢false (sym v.if-has.true ∙ sym v.leave-is ∙ w.if-leave.false))
            | else-has v ↦
                elim c.if-class-eq0.branch [
                  | then-class-eq0 u ↦ absurd (true≢false (sym (eq-eqb c.args.class 0 u.if-class-eq0.true) ∙ sym u.value-is ∙ v.if-has.false))
                  | else-class-eq0 u ↦ left_one (omega (arith, u.if-class-eq0.false)) (λ there. true≢false (sym (u.has.ensures.1 there) ∙ sym u.value-is ∙ v.if-has.false)) w.push-is
                ]
          ]
    ]

-- the states that leave get the new class
given : (c : goal.After-push) → IsGiven c.args.self.now.classes.items c.give.new.classes.items (slice_range c.move_to_end-middle.new.states.items c.move_to_end-middle.result (span_of c.args.self.now.spans.items c.args.class).end) (length c.args.self.now.spans.items)
given c =
    let p = c.args.self.now in
    let m = c.args.machine.now in
    let new = c.move_to_end-middle.new in
    let count : c.len-count.result ≡ length p.spans.items = omega (arith, c.len-count.ensures) in
    subst (λ (n : ℕ). IsGiven p.classes.items c.give.new.classes.items (slice_range new.states.items c.move_to_end-middle.result (span_of p.spans.items c.args.class).end) n) count
    (subst (λ (xs : List ℕ). IsGiven p.classes.items c.give.new.classes.items xs c.len-count.result) (part_is c.args.machine.now c.args.self.now c.args.class c.args.states.now c.index.result.now c.move_to_end-middle.new.states.items c.move_to_end-middle.new.places.items c.move_to_end-middle.result (moved_last c) c.deref.result.now c.deref.ensures.value) c.give.ensures)

pub returns-clause-partition : goal.returns-clause-partition
returns-clause-partition c =
    let p = c.args.self.now in
    let m = c.args.machine.now in
    let new = c.move_to_end-middle.new in
    let v = moved_last c in
    let some = some_leave c.args.machine.now c.args.self.now c.args.class c.args.states.now c.index.result.now c.move_to_end-middle.new.states.items c.move_to_end-middle.new.places.items c.move_to_end-middle.result v c.if-middle-end.false in
    let rest = some_stay c.args.machine.now c.args.self.now c.args.class c.args.states.now c.index.result.now c.move_to_end-middle.new.states.items c.move_to_end-middle.new.places.items c.move_to_end-middle.result v c.if-class-gt0.either in
    let part = which_last c in
    on_ok_weaker c.push.result
    (λ pushed. record {
      reversed = c.requires.partition.reversed;
      parted = AreParted-cut m.dfa.now m.outputs.now p.classes.items new.states.items new.places.items p.spans.items p.pending (parted c.args.machine.now c.args.self.now c.args.class c.args.states.now c.index.result.now c.move_to_end-middle.new.states.items c.move_to_end-middle.new.places.items c.move_to_end-middle.result v) c.args.class c.requires.class p.states.items c.args.states.now c.move_to_end-middle.result (moved c.args.machine.now c.args.self.now c.args.class c.args.states.now c.index.result.now c.move_to_end-middle.new.states.items c.move_to_end-middle.new.places.items c.move_to_end-middle.result v) c.requires.states c.give.new.classes.items c.cut.new.spans.items (given c) (few c.args.machine.now c.args.self.now c.args.class c.args.states.now c.index.result.now c.move_to_end-middle.new.states.items c.move_to_end-middle.new.places.items c.move_to_end-middle.result v some rest) c.in_ok-rest.ensures.cut some rest c.if-leave.push c.push.new.self
          (live p.pending (length p.spans.items) c.args.class c.if-leave.push c.requires.class part) (omega (arith, c.in_ok-rest.ensures.cut.width, among p.pending (length p.spans.items) c.args.class c.if-leave.push c.requires.class part)) pushed;
    })
    c.push.ensures

pub returns-clause-grown : goal.returns-clause-grown
returns-clause-grown c =
    let p = c.args.self.now in
    let m = c.args.machine.now in
    let new = c.move_to_end-middle.new in
    let v = moved_last c in
    let part = which_last c in
    on_ok_weaker c.push.result
    (λ pushed. record {
      classes = omega (arith, c.in_ok-rest.ensures.cut.width);
      pending = omega (arith, c.in_ok-rest.ensures.cut.width, ap length pushed, length_push p.pending c.if-leave.push);
      parted = parted_more m.dfa.now m.outputs.now p.classes.items new.states.items new.places.items p.spans.items p.pending (parted c.args.machine.now c.args.self.now c.args.class c.args.states.now c.index.result.now c.move_to_end-middle.new.states.items c.move_to_end-middle.new.places.items c.move_to_end-middle.result v) c.args.class c.requires.class p.states.items c.args.states.now c.move_to_end-middle.result (moved c.args.machine.now c.args.self.now c.args.class c.args.states.now c.index.result.now c.move_to_end-middle.new.states.items c.move_to_end-middle.new.places.items c.move_to_end-middle.result v) c.requires.states c.give.new.classes.items (given c);
      settled = settled_more m.dfa.now m.outputs.now p.classes.items new.states.items new.places.items p.spans.items p.pending (parted c.args.machine.now c.args.self.now c.args.class c.args.states.now c.index.result.now c.move_to_end-middle.new.states.items c.move_to_end-middle.new.places.items c.move_to_end-middle.result v) c.args.class c.requires.class p.states.items c.args.states.now c.move_to_end-middle.result (moved c.args.machine.now c.args.self.now c.args.class c.args.states.now c.index.result.now c.move_to_end-middle.new.states.items c.move_to_end-middle.new.places.items c.move_to_end-middle.result v) c.requires.states c.give.new.classes.items (given c) c.if-leave.push c.push.new.self pushed
          (one_of p.pending (length p.spans.items) c.args.class c.if-leave.push c.requires.class part) (both p.pending (length p.spans.items) c.args.class c.if-leave.push c.requires.class part);
    })
    c.push.ensures

pub returns-clause-split : goal.returns-clause-split
returns-clause-split c =
    let p = c.args.self.now in
    let m = c.args.machine.now in
    let new = c.move_to_end-middle.new in
    let v = moved_last c in
    let part = which_last c in
    on_ok_weaker c.push.result
    (λ pushed. record {
      apart = apart_now m.dfa.now m.outputs.now p.classes.items new.states.items new.places.items p.spans.items p.pending (parted c.args.machine.now c.args.self.now c.args.class c.args.states.now c.index.result.now c.move_to_end-middle.new.states.items c.move_to_end-middle.new.places.items c.move_to_end-middle.result v) c.args.class c.requires.class p.states.items c.args.states.now c.move_to_end-middle.result (moved c.args.machine.now c.args.self.now c.args.class c.args.states.now c.index.result.now c.move_to_end-middle.new.states.items c.move_to_end-middle.new.places.items c.move_to_end-middle.result v) c.requires.states c.give.new.classes.items (given c);
      others = others_stay m.dfa.now m.outputs.now p.classes.items new.states.items new.places.items p.spans.items p.pending (parted c.args.machine.now c.args.self.now c.args.class c.args.states.now c.index.result.now c.move_to_end-middle.new.states.items c.move_to_end-middle.new.places.items c.move_to_end-middle.result v) c.args.class c.requires.class p.states.items c.args.states.now c.move_to_end-middle.result (moved c.args.machine.now c.args.self.now c.args.class c.args.states.now c.index.result.now c.move_to_end-middle.new.states.items c.move_to_end-middle.new.places.items c.move_to_end-middle.result v) c.requires.states c.give.new.classes.items (given c);
      outside = outside_stays m.dfa.now m.outputs.now p.classes.items new.states.items new.places.items p.spans.items p.pending (parted c.args.machine.now c.args.self.now c.args.class c.args.states.now c.index.result.now c.move_to_end-middle.new.states.items c.move_to_end-middle.new.places.items c.move_to_end-middle.result v) c.args.class c.requires.class p.states.items c.args.states.now c.move_to_end-middle.result (moved c.args.machine.now c.args.self.now c.args.class c.args.states.now c.index.result.now c.move_to_end-middle.new.states.items c.move_to_end-middle.new.places.items c.move_to_end-middle.result v) c.requires.states c.give.new.classes.items (given c);
      waiting = λ sink. all_waiting m.dfa.now m.outputs.now p.classes.items new.states.items new.places.items p.spans.items p.pending (parted c.args.machine.now c.args.self.now c.args.class c.args.states.now c.index.result.now c.move_to_end-middle.new.states.items c.move_to_end-middle.new.places.items c.move_to_end-middle.result v) c.args.class c.requires.class p.states.items c.args.states.now c.move_to_end-middle.result (moved c.args.machine.now c.args.self.now c.args.class c.args.states.now c.index.result.now c.move_to_end-middle.new.states.items c.move_to_end-middle.new.places.items c.move_to_end-middle.result v) c.requires.states c.give.new.classes.items (given c) c.if-leave.push c.push.new.self pushed
          (one_of p.pending (length p.spans.items) c.args.class c.if-leave.push c.requires.class part) (both p.pending (length p.spans.items) c.args.class c.if-leave.push c.requires.class part)
          (length c.cut.new.spans.items) c.in_ok-rest.ensures.cut.width (of_sink p.pending (length p.spans.items) c.args.class c.if-leave.push c.requires.class part sink);
    })
    c.push.ensures

-- which part is pending, by the counts
decision : (c : goal.After-push) → Decision c.args.self.now.pending (length c.args.self.now.spans.items) c.args.class c.if-leave.push c.transitions_to-transitions.result c.in_ok-rest.rest
decision c =
    elim c.if-leave.branch [
      | then-leave w ↦
          elim c.if-has.branch [
            | then-has v ↦
                elim c.if-class-eq0.branch [
                  | then-class-eq0 u ↦ Decision.at_sink u.if-class-eq0.true (omega (arith, w.push-is, c.len-count.ensures))
                  | else-class-eq0 u ↦ Decision.both_parts (omega (arith, u.if-class-eq0.false)) (u.has.ensures.0 (sym u.value-is ∙ v.if-has.true)) (omega (arith, w.push-is, c.len-count.ensures))
                ]
            | else-has v ↦
                elim c.if-class-eq0.branch [
                  | then-class-eq0 u ↦ absurd (true≢false (sym (eq-eqb c.args.class 0 u.if-class-eq0.true) ∙ sym u.value-is ∙ v.if-has.false))
                  | else-class-eq0 u ↦ Decision.leaving_part (omega (arith, u.if-class-eq0.false)) (λ there. true≢false (sym (u.has.ensures.1 there) ∙ sym u.value-is ∙ v.if-has.false)) (omega (arith, w.push-is, c.len-count.ensures))
                      (leb-true c.transitions_to-transitions.result c.in_ok-rest.rest (sym v.leave-is ∙ w.if-leave.true))
                ]
          ]
      | else-leave w ↦
          elim c.if-has.branch [
            | then-has v ↦ absurd (true≢false (sym v.if-has.true ∙ sym v.leave-is ∙ w.if-leave.false))
            | else-has v ↦
                elim c.if-class-eq0.branch [
                  | then-class-eq0 u ↦ absurd (true≢false (sym (eq-eqb c.args.class 0 u.if-class-eq0.true) ∙ sym u.value-is ∙ v.if-has.false))
                  | else-class-eq0 u ↦ Decision.staying_part (omega (arith, u.if-class-eq0.false)) (λ there. true≢false (sym (u.has.ensures.1 there) ∙ sym u.value-is ∙ v.if-has.false)) w.push-is
                      (omega (arith, leb-false c.transitions_to-transitions.result c.in_ok-rest.rest (sym v.leave-is ∙ w.if-leave.false)))
                ]
          ]
    ]

pub returns-clause-paid : goal.returns-clause-paid
returns-clause-paid c =
    let p = c.args.self.now in
    let m = c.args.machine.now in
    let new = c.move_to_end-middle.new in
    let middle = c.move_to_end-middle.result in
    let v = moved_last c in
    let after = parted m p c.args.class c.args.states.now c.index.result.now new.states.items new.places.items middle v in
    let at_end = moved m p c.args.class c.args.states.now c.index.result.now new.states.items new.places.items middle v in
    let leaving = part_is m p c.args.class c.args.states.now c.index.result.now new.states.items new.places.items middle v c.deref.result.now c.deref.ensures.value in
    let count = subst (λ (xs : List ℕ). sum_by (in_degree p.reversed) xs < 2 ^ 32 → c.transitions_to-transitions.result ≡ sum_by (in_degree p.reversed) xs) leaving c.transitions_to-transitions.ensures in
    on_ok_weaker c.push.result
    (λ pushed transitions largest looks before few.
    let exact = leaving_count m p p.states.items new.states.items new.places.items c.args.states.now c.args.class middle c.requires.class after at_end c.give.new.classes.items (given c) transitions largest looks before few c.transitions_to-transitions.result count in
    record {
      few = before.few;
      small = before.small;
      counted = counted_cut m p p.states.items new.states.items new.places.items c.args.states.now c.args.class middle c.requires.class after at_end c.give.new.classes.items (given c) transitions largest looks before few
          c.cut.new.spans.items c.push.new.self c.transitions_to-transitions.result c.in_ok-rest.rest c.if-leave.push c.in_ok-rest.ensures.cut c.in_ok-rest.ensures.counted exact pushed (decision c);
      paid = paid_cut m p p.states.items new.states.items new.places.items c.args.states.now c.args.class middle c.requires.class after at_end c.give.new.classes.items (given c) transitions largest looks before few
          c.cut.new.spans.items c.push.new.self c.transitions_to-transitions.result c.in_ok-rest.rest c.if-leave.push c.in_ok-rest.ensures.cut c.in_ok-rest.ensures.counted exact pushed (decision c);
    })
    c.push.ensures

pub index-requires : goal.index-requires
index-requires c = omega (arith, c.requires.class, c.args.self.now.spans.ok)

pub cut-requires : goal.cut-requires
cut-requires c = c.requires.class

pub move_to_end-middle-requires-clause-order : goal.move_to_end-middle-requires-clause-order
move_to_end-middle-requires-clause-order c = c.requires.partition.parted.order

pub move_to_end-middle-requires-clause-start : goal.move_to_end-middle-requires-clause-start
move_to_end-middle-requires-clause-start c =
    let spans = c.args.self.now.spans.items in
    let is = c.index.ensures ∙ get_or_default spans c.args.class c.index.result.now no_span c.requires.class in
    subst (λ (s : ClassSpan). s.start ≤ s.end) (sym is) (c.requires.partition.parted.spanned.ordered c.args.class c.requires.class)

pub move_to_end-middle-requires-clause-end : goal.move_to_end-middle-requires-clause-end
move_to_end-middle-requires-clause-end c =
    let spans = c.args.self.now.spans.items in
    let is = c.index.ensures ∙ get_or_default spans c.args.class c.index.result.now no_span c.requires.class in
    subst (λ (s : ClassSpan). s.end ≤ length c.args.self.now.states.items) (sym is) (c.requires.partition.parted.spanned.within c.args.class c.requires.class)

pub move_to_end-middle-requires-clause-set : goal.move_to_end-middle-requires-clause-set
move_to_end-middle-requires-clause-set c k z within = omega (arith, c.requires.states.within k z within, c.requires.partition.parted.count)

pub returns-then-middle-end-clause-paid : goal.returns-then-middle-end-clause-paid
returns-then-middle-end-clause-paid c transitions largest looks before few = record { few = before.few; small = before.small; counted = before.counted; paid = before.paid }
