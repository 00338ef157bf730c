use Rattle.std.proofs.Common.{◌≡◌, ◌+◌, List, length, subst, sym, ap, arith}
use Rattle.digit_tuple.specs.declared.slots.Slot.{Slot}
use Rattle.digit_tuple.specs.declared.slots.SlotTable.{SlotTable}
use Rattle.digit_tuple.specs.Slots.{IsPut, slot_at}
use Rattle.digit_tuple.proofs.SlotLemmas.{AreSlotted-walked, AreWalked, AreWalked-free, AreWalked-none, AreWalked-put}
use Rattle.digit_tuple.proofs.slots.SlotTable.doubled.Goals as goal
use Rattle.digit_tuple.proofs.slots.SlotTable.doubled.Goals.{then-slot-gt0+in_ok-put_slot, else-slot-gt0}

pub loop-slot-init : goal.loop-slot-init
loop-slot-init c = AreWalked-none c.args.self.now c.in_ok-more.more c.in_ok-more.ensures

pub loop-slot-preserved : goal.loop-slot-preserved
loop-slot-preserved c =
    let old = c.args.self.now in
    let more = c.loop-slot.more in
    let place = c.loop-slot.slot-index in
    let read : slot_at c.deref-slot-items.result.now place ≡ slot_at old.slots.items place = ap (λ (ss : List Slot). slot_at ss place) c.deref-slot-items.ensures.value in
    elim c.if-slot-gt0.branch [
      | then-slot-gt0+in_ok-put_slot w ↦
          subst (λ (t : SlotTable). AreWalked old t (place + 1)) (sym w.more-is)
          (AreWalked-put old more w.put_slot.new.self place c.loop-slot.invariant (omega (arith, w.if-slot-gt0.true, ap (λ (s : Slot). s.link) read))
          (subst (λ (s : Slot). IsPut more w.put_slot.new.self s) read w.in_ok-put_slot.ensures.ok))
      | else-slot-gt0 w ↦
          subst (λ (t : SlotTable). AreWalked old t (place + 1)) (sym w.more-is)
          (AreWalked-free old more place c.loop-slot.invariant (omega (arith, w.if-slot-gt0.false, ap (λ (s : Slot). s.link) read)))
    ]

pub returns : goal.returns
returns c =
    let old = c.args.self.now in
    let all : c.loop-slot.slot-index ≡ length old.slots.items = omega (arith, c.loop-slot-test.false, c.loop-slot.auto.slot-index-end, ap (λ (ss : List Slot). length ss) c.deref-slot-items.ensures.value) in
    λ hashes are. AreSlotted-walked old c.loop-slot.more hashes (subst (λ n. AreWalked old c.loop-slot.more n) all c.loop-slot.invariant) are
