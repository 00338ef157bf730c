use Rattle.std.proofs.Common.{◌≡◌, ◌↔◌, ◌+◌, ◌<◌, ◌≤◌, ◌⊎◌, inl, inr, List, ℕ, [], ◌∷◌, ◌++◌, length, refl, sym, ap, ◌∙◌, subst, arith}
use Rattle.std.specs.List.{Contains, slice_range, sum_by}
use Rattle.residual_classes.specs.ReversedTransitions.{in_degree}
use Rattle.std.proofs.lemmas.Bool.{cases_lt}
use Rattle.std.proofs.lemmas.List.{get_or_default}
use Rattle.digit_tuple.specs.Keys.{KeyTransition, transition_at, no_transition}
use Rattle.residual_classes.specs.declared.partition.ClassSpan.{ClassSpan}
use Rattle.residual_classes.specs.declared.partition.Partition.{Partition}
use Rattle.residual_classes.specs.Classes.{class_of}
use Rattle.residual_classes.specs.Partition.{HasGrown, IsPartition, IsUnion, no_span, span_of}
use Rattle.residual_classes.specs.Weights.{class_sum}
use Rattle.residual_classes.specs.declared.machine.Machine.{Machine}
use Rattle.digit_tuple.specs.Deterministic.{states_of}
use Rattle.residual_classes.specs.Settled.{AreApart}
use Rattle.residual_classes.proofs.FewLemmas.{sink_size}
use Rattle.residual_classes.proofs.SpanSumLemmas.{span_sum}
use Rattle.residual_classes.proofs.PartedLemmas.{AreApart-grown, HasGrown-more, HasGrown-none, IsSettled-parted}
use Rattle.residual_classes.proofs.SettledLemmas.{span_has}
use Rattle.residual_classes.proofs.PartitionLemmas.{IsUnion-sources, IsUnion-span}
use Rattle.residual_classes.proofs.partition.Partition.part_by_letters.Goals as goal

pub part-requires-clause-set : goal.part-requires-clause-set
part-requires-clause-set g c =
    let p = c.args.self.now in
    let m = c.args.machine.now in
    let class = c.args.class in
    let sources = c.sources_by_letter.new.out in
    let place = c.loop-place.place in
    let within : place < length sources = omega (arith, c.len-place-end.ensures) in
    let is : c.index-span.result.now ≡ span_of p.spans.items class = c.index-span.ensures ∙ get_or_default p.spans.items class c.index-span.result.now no_span c.requires.class in
    let set : slice_range c.deref.result.now c.index-span.result.now.start c.index-span.result.now.end ≡ slice_range p.states.items (span_of p.spans.items class).start (span_of p.spans.items class).end =
    ap (λ (xs : List ℕ). slice_range xs c.index-span.result.now.start c.index-span.result.now.end) c.deref.ensures.value ∙ ap (λ (span : ClassSpan). slice_range p.states.items span.start span.end) is in
    let union = subst (IsUnion m.dfa.now m.outputs.now) (sym set)
    (IsUnion-span m.dfa.now m.outputs.now p.classes.items p.states.items p.places.items p.spans.items p.pending c.requires.partition.parted class c.requires.class c.requires.live) in
    subst (IsUnion m.dfa.now m.outputs.now) (sym c.key.ensures)
    (IsUnion-sources m.dfa.now m.outputs.now c.requires.outputs c.requires.partition.parted.table p.reversed c.requires.partition.reversed (slice_range c.deref.result.now c.index-span.result.now.start c.index-span.result.now.end) union
    (transition_at sources place).letter (transition_at sources place).key (c.in_ok-sources_by_letter.ensures.gathered place no_transition within))

pub loop-place-init : goal.loop-place-init
loop-place-init g c = record {
  partition = c.requires.partition;
  grown = HasGrown-none c.args.self.now;
  apart = λ place less. absurd (omega arith);
  paid = λ transitions largest looks before low. before;
}

-- the sets for the letters up to one stay apart
apart_more : (mid new : Partition) (sources : List KeyTransition) (count : ℕ) → HasGrown mid new → ((place : ℕ) → place < count → AreApart mid.classes.items (transition_at sources place).key) → AreApart new.classes.items (transition_at sources count).key
    → (place : ℕ) → place < count + 1 → AreApart new.classes.items (transition_at sources place).key
apart_more mid new sources count grown so_far here place less = by (cases_lt place count)
  where
    by : (place < count) ⊎ (count ≤ place) → AreApart new.classes.items (transition_at sources place).key
    by (inl before) = AreApart-grown mid new (transition_at sources place).key grown (so_far place before)
    by (inr past) =
        let is : count ≡ place = omega arith in
        subst (λ (k : ℕ). AreApart new.classes.items (transition_at sources k).key) is here

pub loop-place-preserved : goal.loop-place-preserved
loop-place-preserved g c =
    let sources = c.sources_by_letter.new.out in
    let mid = c.loop-place.self in
    let new = c.part.new.self in
    record {
      partition = c.in_ok-part.ensures.partition;
      grown = HasGrown-more c.args.self.now mid new c.loop-place.invariant.grown c.in_ok-part.ensures.grown;
      apart = apart_more mid new sources c.loop-place.place c.in_ok-part.ensures.grown c.loop-place.invariant.apart (subst (AreApart new.classes.items) c.key.ensures c.in_ok-part.ensures.apart);
      paid = λ transitions largest looks before low. c.in_ok-part.ensures.paid transitions largest looks (c.loop-place.invariant.paid transitions largest looks before low)
          (sink_size c.args.machine.now c.args.self.now mid largest c.loop-place.invariant.grown c.requires.partition.parted.sink c.loop-place.invariant.partition.parted.sink low);
    }

pub returns-clause-settled : goal.returns-clause-settled
returns-clause-settled g c =
    let p = c.args.self.now in
    let m = c.args.machine.now in
    let class = c.args.class in
    let sources = c.sources_by_letter.new.out in
    let is : c.index-span.result.now ≡ span_of p.spans.items class = c.index-span.ensures ∙ get_or_default p.spans.items class c.index-span.result.now no_span c.requires.class in
    let set : slice_range c.deref.result.now c.index-span.result.now.start c.index-span.result.now.end ≡ slice_range p.states.items (span_of p.spans.items class).start (span_of p.spans.items class).end =
    ap (λ (xs : List ℕ). slice_range xs c.index-span.result.now.start c.index-span.result.now.end) c.deref.ensures.value ∙ ap (λ (span : ClassSpan). slice_range p.states.items span.start span.end) is in
    let union = subst (IsUnion m.dfa.now m.outputs.now) (sym set)
    (IsUnion-span m.dfa.now m.outputs.now p.classes.items p.states.items p.places.items p.spans.items p.pending c.requires.partition.parted class c.requires.class c.requires.live) in
    let has = subst (λ (xs : List ℕ). (q : ℕ) → Contains xs q ↔ (class_of p.classes.items q ≡ class)) (sym set)
    (span_has m.dfa.now m.outputs.now p.classes.items p.states.items p.places.items p.spans.items p.pending c.requires.partition.parted class c.requires.live c.requires.class) in
    IsSettled-parted m.dfa.now m.outputs.now c.requires.outputs c.requires.partition.parted.table p.reversed c.requires.partition.reversed (slice_range c.deref.result.now c.index-span.result.now.start c.index-span.result.now.end) union class p
    c.loop-place.self has sources c.in_ok-sources_by_letter.ensures.gathered c.in_ok-sources_by_letter.ensures.letters c.loop-place.invariant.grown
    (λ place within. c.loop-place.invariant.apart place (omega (arith, within, c.loop-place-test.false, c.len-place-end.ensures))) (p.pending ++ class ∷ []) refl c.requires.settled

-- each transition to the class is looked at once at most
looked : (m : Machine) (p : Partition) (class : ℕ) (span : ClassSpan) (states : List ℕ) (old new : ℕ) → IsPartition m p → class < length p.spans.items → span ≡ span_of p.spans.items class → states ≡ p.states.items
    → new ≤ old + sum_by (in_degree p.reversed) (slice_range states span.start span.end) → new ≤ old + class_sum (states_of m.dfa.now) (in_degree p.reversed) p.classes.items class
looked m p class span states old new partition made is same le =
    let set : slice_range states span.start span.end ≡ slice_range p.states.items (span_of p.spans.items class).start (span_of p.spans.items class).end =
    ap (λ (xs : List ℕ). slice_range xs span.start span.end) same ∙ ap (λ (s : ClassSpan). slice_range p.states.items s.start s.end) is in
    omega (arith, le, ap (sum_by (in_degree p.reversed)) set, span_sum m.dfa.now m.outputs.now p.classes.items p.states.items p.places.items p.spans.items p.pending partition.parted (in_degree p.reversed) class made)

pub returns-clause-looks : goal.returns-clause-looks
returns-clause-looks g c = looked c.args.machine.now c.args.self.now c.args.class c.index-span.result.now c.deref.result.now c.args.looks.now c.sources_by_letter.new.looks c.requires.partition c.requires.class
    (c.index-span.ensures ∙ get_or_default c.args.self.now.spans.items c.args.class c.index-span.result.now no_span c.requires.class) c.deref.ensures.value c.sources_by_letter.ensures.looks

pub returns-in_err-sources_by_letter-clause-looks : goal.returns-in_err-sources_by_letter-clause-looks
returns-in_err-sources_by_letter-clause-looks g c = looked c.args.machine.now c.args.self.now c.args.class c.index-span.result.now c.deref.result.now c.args.looks.now c.sources_by_letter.new.looks c.requires.partition c.requires.class
    (c.index-span.ensures ∙ get_or_default c.args.self.now.spans.items c.args.class c.index-span.result.now no_span c.requires.class) c.deref.ensures.value c.sources_by_letter.ensures.looks

pub returns-in_err-part-clause-looks : goal.returns-in_err-part-clause-looks
returns-in_err-part-clause-looks g c = looked c.args.machine.now c.args.self.now c.args.class c.index-span.result.now c.deref.result.now c.args.looks.now c.sources_by_letter.new.looks c.requires.partition c.requires.class
    (c.index-span.ensures ∙ get_or_default c.args.self.now.spans.items c.args.class c.index-span.result.now no_span c.requires.class) c.deref.ensures.value c.sources_by_letter.ensures.looks

pub part-requires-clause-partition : goal.part-requires-clause-partition
part-requires-clause-partition g c = c.loop-place.invariant.partition

pub returns-clause-partition : goal.returns-clause-partition
returns-clause-partition g c = c.loop-place.invariant.partition

pub returns-clause-grown : goal.returns-clause-grown
returns-clause-grown g c = c.loop-place.invariant.grown

pub returns-clause-paid : goal.returns-clause-paid
returns-clause-paid g c = c.loop-place.invariant.paid
