use Rattle.std.proofs.Common.{◌≡◌, ℕ, ◌+◌, ◌-◌, ◌<◌, ◌≤◌, ◌⊎◌, inl, inr, List, length, refl, sym, subst, ◌∙◌, arith}
use Rattle.std.proofs.lemmas.Bool.{cases_lt}
use Rattle.std.proofs.lemmas.List.{get_or_default, get_or_past}
use Rattle.residual_classes.specs.declared.first_places.PlaceSlots.{PlaceSlots}
use Rattle.residual_classes.specs.FirstPlaces.{number_at}
use Rattle.residual_classes.specs.PlaceSlots.{ArePassed, HoldPlaces, IsSlotted, home_of, link_at}
use Rattle.residual_classes.proofs.PlaceSlotLemmas.{HoldPlaces-put, IsFirstPlace-held, IsFirstPlace-new, IsTaken, IsTaken-push, IsTaken-set}
use Rattle.residual_classes.proofs.first_places.PlaceSlots.first_place.Goals as goal

pub returns-then-slot-len-clause-first : goal.returns-then-slot-len-clause-first
returns-then-slot-len-clause-first c =
    let slots = c.args.self.now.slots.items in
    let slot = c.slot_of-slot.result in
    let end : length slots ≡ slot = omega (arith, c.if-slot-len.true, c.len.ensures, c.args.self.now.slots.ok) in
    IsFirstPlace-new c.args.self.now c.args.numbers.now c.args.place slot c.requires.before c.slot_of-slot.ensures.passed c.slot_of-slot.ensures.from (get_or_past slots slot 0 (omega (arith, end)))

pub returns-then-slot-len-clause-held : goal.returns-then-slot-len-clause-held
returns-then-slot-len-clause-held c =
    let slots = c.args.self.now.slots.items in
    let slot = c.slot_of-slot.result in
    let link = c.args.place + 1 in
    let end : slot ≡ length slots = omega (arith, c.if-slot-len.true, c.len.ensures, c.args.self.now.slots.ok) in
    HoldPlaces-put c.args.self.now (record { homes = c.args.self.now.homes; slots = c.push.new.self }) c.args.numbers.now c.args.place slot refl
    (subst (λ (new : List ℕ). IsTaken slots new slot link) (sym c.in_ok-push.ensures.items) (IsTaken-push slots slot link end))
    c.requires.before
    c.slot_of-slot.ensures.from
    c.slot_of-slot.ensures.passed

pub returns-then-link-ne0-clause-first : goal.returns-then-link-ne0-clause-first
returns-then-link-ne0-clause-first c =
    let slots = c.args.self.now.slots.items in
    let slot = c.slot_of-slot.result in
    let link = c.index-link.result.now in
    let within : slot < length slots = omega (arith, c.if-slot-len.false, c.slot_of-slot.ensures.within, c.len.ensures, c.args.self.now.slots.ok) in
    let read : link ≡ link_at slots slot = c.index-link.ensures ∙ get_or_default slots slot link 0 within in
    let taken : 0 < link_at slots slot = omega (arith, read, c.if-link-ne0.true) in
    rw read (IsFirstPlace-held c.args.self.now c.args.numbers.now c.args.place slot c.requires.before taken (c.slot_of-slot.ensures.found taken))

pub returns-clause-held : goal.returns-clause-held
returns-clause-held c =
    let slots = c.args.self.now.slots.items in
    let slot = c.slot_of-slot.result in
    let link = c.index-link.result.now in
    let within : slot < length slots = omega (arith, c.if-slot-len.false, c.slot_of-slot.ensures.within, c.len.ensures, c.args.self.now.slots.ok) in
    let read : link ≡ link_at slots slot = c.index-link.ensures ∙ get_or_default slots slot link 0 within in
    let free : link_at slots slot ≡ 0 = omega (arith, read, c.if-link-ne0.false) in
    HoldPlaces-put c.args.self.now _ c.args.numbers.now c.args.place slot refl (IsTaken-set slots slot (c.args.place + 1) within free) c.requires.before c.slot_of-slot.ensures.from c.slot_of-slot.ensures.passed

-- the number of the next place is held already
HoldPlaces-held : (table : PlaceSlots) (numbers : List ℕ) (count slot : ℕ) → HoldPlaces table numbers count → home_of table.homes (number_at numbers count) ≤ slot → ArePassed table numbers (number_at numbers count) slot
    → 0 < link_at table.slots.items slot → number_at numbers (link_at table.slots.items slot - 1) ≡ number_at numbers count → HoldPlaces table numbers (count + 1)
HoldPlaces-held table numbers count slot holds from passed taken same = record {
  homes = holds.homes;
  below = λ s. omega (arith, holds.below s);
  firsts = holds.firsts;
  slotted = λ q less. slotted q less (cases_lt q count);
}
  where
    slotted : (q : ℕ) → q < count + 1 → (q < count) ⊎ (count ≤ q) → IsSlotted table.homes table.slots.items numbers (number_at numbers q)
    slotted q less (inl before) = holds.slotted q before
    slotted q less (inr last) =
        let is : count ≡ q = omega (arith, less, last) in
        subst (λ (n : ℕ). IsSlotted table.homes table.slots.items numbers (number_at numbers n)) is (record { slot = slot; from = from; taken = taken; same = same; none_free = λ s after before. (passed s after before).0 })

pub returns-then-link-ne0-clause-held : goal.returns-then-link-ne0-clause-held
returns-then-link-ne0-clause-held c =
    let slots = c.args.self.now.slots.items in
    let slot = c.slot_of-slot.result in
    let link = c.index-link.result.now in
    let within : slot < length slots = omega (arith, c.if-slot-len.false, c.slot_of-slot.ensures.within, c.len.ensures, c.args.self.now.slots.ok) in
    let taken : 0 < link_at slots slot = omega (arith, c.index-link.ensures ∙ get_or_default slots slot link 0 within, c.if-link-ne0.true) in
    HoldPlaces-held c.args.self.now c.args.numbers.now c.args.place slot c.requires.before c.slot_of-slot.ensures.from c.slot_of-slot.ensures.passed taken (c.slot_of-slot.ensures.found taken)

pub returns-clause-first : goal.returns-clause-first
returns-clause-first c =
    let slots = c.args.self.now.slots.items in
    let slot = c.slot_of-slot.result in
    let link = c.index-link.result.now in
    let within : slot < length slots = omega (arith, c.if-slot-len.false, c.slot_of-slot.ensures.within, c.len.ensures, c.args.self.now.slots.ok) in
    let free : link_at slots slot ≡ 0 = omega (arith, c.index-link.ensures ∙ get_or_default slots slot link 0 within, c.if-link-ne0.false) in
    IsFirstPlace-new c.args.self.now c.args.numbers.now c.args.place slot c.requires.before c.slot_of-slot.ensures.passed c.slot_of-slot.ensures.from free
