use Rattle.std.proofs.Common.{◌<◌, List, ℕ, length, sym, subst, arith}
use Rattle.digit_tuple.specs.Keys.{transition_at, no_transition}
use Rattle.residual_classes.specs.Gathering.{HaveLetters, IsGathered, transitions_by_class}
use Rattle.residual_classes.specs.Partition.{IsSplit, IsUnion}
use Rattle.residual_classes.proofs.FewLemmas.{AreFew-grown}
use Rattle.residual_classes.proofs.PartedLemmas.{AreApart-parts, ArePartedTo-more, ArePartedTo-none, HasGrown-more, HasGrown-none}
use Rattle.residual_classes.proofs.PartitionLemmas.{IsUnion-class, class_below}
use Rattle.residual_classes.proofs.partition.Partition.part.Goals as goal

gathered : (c : goal.After-key) → IsGathered (transitions_by_class c.args.self.now.classes.items c.args.set.now) (transition_at c.states_by_class.new.out c.loop-place.place).letter (transition_at c.states_by_class.new.out c.loop-place.place).key
gathered c =
    let parts = c.states_by_class.new.out in
    let place = c.loop-place.place in
    let within : place < length parts = omega (arith, c.len-place-end.ensures) in
    subst (λ (classes : List ℕ). IsGathered (transitions_by_class classes c.args.set.now) (transition_at parts place).letter (transition_at parts place).key) c.deref.ensures.value (c.in_ok-states_by_class.ensures.gathered place no_transition within)

pub split-requires-clause-states : goal.split-requires-clause-states
split-requires-clause-states c =
    let d = c.args.machine.now.dfa.now in
    let outputs = c.args.machine.now.outputs.now in
    let part = transition_at c.states_by_class.new.out c.loop-place.place in
    subst (IsUnion d outputs) (sym c.key.ensures) (IsUnion-class d outputs c.args.self.now.classes.items c.requires.partition.parted.coarse c.args.set.now c.requires.set part.letter part.key (gathered c))

pub split-requires-clause-class : goal.split-requires-clause-class
split-requires-clause-class c =
    let d = c.args.machine.now.dfa.now in
    let outputs = c.args.machine.now.outputs.now in
    let p = c.args.self.now in
    let part = transition_at c.states_by_class.new.out c.loop-place.place in
    let low = class_below d outputs p.classes.items c.requires.partition.parted.coarse c.args.set.now c.requires.set part.letter part.key (gathered c) (length p.spans.items) c.requires.partition.parted.below in
    omega (arith, low, c.letter.ensures, c.loop-place.invariant.grown.classes)

pub loop-place-init : goal.loop-place-init
loop-place-init c = record {
  partition = c.requires.partition;
  grown = HasGrown-none c.args.self.now;
  parted = ArePartedTo-none c.args.self.now.classes.items c.args.set.now c.states_by_class.new.out;
  paid = λ transitions largest looks before low. before;
}

pub loop-place-preserved : goal.loop-place-preserved
loop-place-preserved c =
    let m = c.args.machine.now in
    let old = c.args.self.now in
    let set = c.args.set.now in
    let parts = c.states_by_class.new.out in
    let place = c.loop-place.place in
    let mid = c.loop-place.self in
    let new = c.split.new.self in
    let within : place < length parts = omega (arith, c.loop-place-test.true, c.len-place-end.ensures) in
    let gathers = subst (λ (classes : List ℕ). IsGathered (transitions_by_class classes set) (transition_at parts place).letter (transition_at parts place).key) c.deref.ensures.value (c.in_ok-states_by_class.ensures.gathered place no_transition within) in
    let split : IsSplit mid new (transition_at parts place).letter (transition_at parts place).key =
    subst (λ (letter : ℕ). IsSplit mid new letter (transition_at parts place).key) c.letter.ensures (subst (IsSplit mid new c.letter.result) c.key.ensures c.in_ok-split.ensures.split) in
    record {
      partition = c.in_ok-split.ensures.partition;
      grown = HasGrown-more old mid new c.loop-place.invariant.grown c.in_ok-split.ensures.grown;
      parted = ArePartedTo-more m.dfa.now m.outputs.now old.classes.items c.requires.partition.parted.coarse set c.requires.set parts mid new place gathers c.in_ok-split.ensures.grown split c.loop-place.invariant.parted;
      paid = λ transitions largest looks before low. c.in_ok-split.ensures.paid transitions largest looks (c.loop-place.invariant.paid transitions largest looks before low)
          (λ sink. AreFew-grown m old mid c.key.result.now largest c.loop-place.invariant.grown c.requires.partition.parted.sink c.loop-place.invariant.partition.parted.sink low);
    }

pub returns-clause-apart : goal.returns-clause-apart
returns-clause-apart c =
    let m = c.args.machine.now in
    let old = c.args.self.now in
    let set = c.args.set.now in
    let parts = c.states_by_class.new.out in
    let letters = subst (λ (classes : List ℕ). HaveLetters parts (transitions_by_class classes set)) c.deref.ensures.value c.in_ok-states_by_class.ensures.letters in
    AreApart-parts m.dfa.now m.outputs.now old.classes.items c.requires.partition.parted.coarse set c.requires.set parts c.loop-place.self.classes.items c.loop-place.place (omega (arith, c.loop-place-test.false, c.len-place-end.ensures)) letters
    c.loop-place.invariant.parted
