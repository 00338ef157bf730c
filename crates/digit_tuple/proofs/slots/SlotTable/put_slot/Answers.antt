use Rattle.std.proofs.Common.{◌≡◌, ◌≤◌, ◌<◌, ℕ, List, length, subst, ap, refl, arith, rules}
use Rattle.digit_tuple.specs.declared.slots.Slot.{Slot}
use Rattle.digit_tuple.specs.Slots.{AreSlotted, slot_at}
use Rattle.digit_tuple.proofs.SlotLemmas.{AreSlotted-same, IsPut-push, IsPut-set}
use Rattle.digit_tuple.proofs.slots.SlotTable.put_slot.Goals as goal

pub returns-in_err-push-clause-err : goal.returns-in_err-push-clause-err
returns-in_err-push-clause-err c =
    let kept : (hashes : List ℕ) → AreSlotted c.args.self.now hashes → AreSlotted (record { mask = c.args.self.now.mask; slots = c.push.new.self }) hashes = λ hashes are. AreSlotted-same c.args.self.now (record { mask = c.args.self.now.mask; slots = c.push.new.self }) hashes refl c.in_err-push.ensures.items are in
    let failed = c.from_residual.ensures in
    search (rules, kept)

pub returns-then-place-len-clause-ok : goal.returns-then-place-len-clause-ok
returns-then-place-len-clause-ok c =
    let slots = c.args.self.now.slots.items in
    let place = c.free_place-place.result in
    let within : place < length slots = omega (arith, c.if-place-len.true, c.len.ensures, c.args.self.now.slots.ok) in
    let free : (slot_at slots place).link ≡ 0 = subst (λ (ss : List Slot). (slot_at ss place).link ≡ 0) c.deref.ensures.value c.free_place-place.ensures.free in
    IsPut-set c.args.self.now _ c.args.slot place refl
    (subst (λ h. h ≤ place) c.home.ensures.home c.free_place-place.ensures.from)
    (subst (λ h. (p : ℕ) → h ≤ p → p < place → 0 < (slot_at slots p).link) c.home.ensures.home (subst (λ (ss : List Slot). (p : ℕ) → c.home.result ≤ p → p < place → 0 < (slot_at ss p).link) c.deref.ensures.value c.free_place-place.ensures.taken))
    refl within free

pub returns-in_ok-push-clause-ok : goal.returns-in_ok-push-clause-ok
returns-in_ok-push-clause-ok c =
    let slots = c.args.self.now.slots.items in
    let place = c.free_place-place.result in
    let end : length slots ≡ place = omega (arith, c.if-place-len.false, c.len.ensures, c.args.self.now.slots.ok, c.free_place-place.ensures.within, ap (λ (ss : List Slot). length ss) c.deref.ensures.value) in
    IsPut-push c.args.self.now (record { mask = c.args.self.now.mask; slots = c.push.new.self }) c.args.slot place refl
    (subst (λ h. h ≤ place) c.home.ensures.home c.free_place-place.ensures.from)
    (subst (λ h. (p : ℕ) → h ≤ p → p < place → 0 < (slot_at slots p).link) c.home.ensures.home (subst (λ (ss : List Slot). (p : ℕ) → c.home.result ≤ p → p < place → 0 < (slot_at ss p).link) c.deref.ensures.value c.free_place-place.ensures.taken))
    c.in_ok-push.ensures.items end
