use Rattle.std.proofs.Common.{◌<◌, length, refl, sym, subst, arith}
use Rattle.digit_tuple.specs.Keys.{transition_at, no_transition}
use Rattle.residual_classes.specs.PaidPartition.{AreFew}
use Rattle.residual_classes.specs.Partition.{IsSplit, IsUnion}
use Rattle.residual_classes.proofs.FewLemmas.{AreFew-all}
use Rattle.residual_classes.proofs.PartedLemmas.{AreTakenOut-more, AreTakenOut-none, parted_before}
use Rattle.residual_classes.proofs.SettledLemmas.{class_made}
use Rattle.residual_classes.proofs.partition.Partition.part_by_class.Goals as goal

pub loop-place-init : goal.loop-place-init
loop-place-init c =
    let p = c.args.self.now in
    let m = c.args.machine.now in
    let made = class_made m.dfa.now m.outputs.now p.classes.items p.states.items p.places.items p.spans.items p.pending c.requires.partition.parted in
    record {
      partition = c.requires.partition;
      pending = λ class live small. absurd (omega (arith, live, small, c.requires.one));
      taken = AreTakenOut-none m.dfa.now p.classes.items c.args.parts.now (λ q. omega (arith, made q, c.requires.one));
      paid = λ transitions largest looks before few. before;
    }

pub split-requires-clause-states : goal.split-requires-clause-states
split-requires-clause-states c =
    let within : c.loop-place.place < length c.args.parts.now = omega (arith, c.loop-place-test.true, c.len-place-end.ensures) in
    subst (IsUnion c.args.machine.now.dfa.now c.args.machine.now.outputs.now) (sym c.key.ensures) (c.requires.parts c.loop-place.place no_transition within)

pub loop-place-preserved : goal.loop-place-preserved
loop-place-preserved c =
    let m = c.args.machine.now in
    let d = c.args.machine.now.dfa.now in
    let parts = c.args.parts.now in
    let place = c.loop-place.place in
    let old = c.args.self.now in
    let made = class_made m.dfa.now m.outputs.now old.classes.items old.states.items old.places.items old.spans.items old.pending c.requires.partition.parted in
    let mid = c.loop-place.self in
    let new = c.split.new.self in
    let split : IsSplit mid new 0 (transition_at parts place).key = subst (IsSplit mid new 0) c.key.ensures c.in_ok-split.ensures.split in
    record {
      partition = c.in_ok-split.ensures.partition;
      pending = split.waiting refl c.loop-place.invariant.pending;
      taken = AreTakenOut-more d parts mid new place (omega (arith, c.loop-place-test.true, c.len-place-end.ensures)) c.in_ok-split.ensures.grown split c.loop-place.invariant.taken;
      paid = λ transitions largest looks before few. c.in_ok-split.ensures.paid transitions largest looks (c.loop-place.invariant.paid transitions largest looks before few)
          (λ sink. subst (AreFew m largest mid.classes.items) (sym c.key.ensures)
          (AreFew-all m old.classes.items mid.classes.items (transition_at parts place).key largest (λ q. omega (arith, made q, c.requires.one)) (few place (omega (arith, c.loop-place-test.true, c.len-place-end.ensures)))));
    }

pub returns-clause-parted : goal.returns-clause-parted
returns-clause-parted c = parted_before c.args.machine.now.dfa.now c.args.parts.now c.loop-place.self.classes.items c.loop-place.place (omega (arith, c.loop-place-test.false, c.len-place-end.ensures)) c.loop-place.invariant.taken
