-- Numbers in slots, by their hashes.
use Rattle.std.proofs.Common.{◌≡◌, ◌≢◌, ℕ, ◌+◌, ◌-◌, ◌<◌, ◌≤◌, ◌⊎◌, inl, inr, List, [], ◌∷◌, ◌++◌, map, length, get_or, set, length-set, get_or-set_same, get_or-set_other, sym, ap, ◌∙◌, subst, arith}
use Rattle.std.specs.List.{Contains}
use Rattle.std.proofs.lemmas.Bool.{cases_eq, cases_lt}
use Rattle.std.proofs.lemmas.List.{get_or-map, get_or_default, get_or_append_left, get_or_push, get_or_past, length_push, length-map}
use Rattle.digit_tuple.specs.declared.slots.Slot.{Slot}
use Rattle.digit_tuple.specs.declared.slots.SlotTable.{SlotTable}
use Rattle.digit_tuple.specs.Explored.{key_at}
use Rattle.digit_tuple.specs.KeyHashes.{hash_of}
use Rattle.digit_tuple.specs.Slots.{AreSlotted, IsPut, IsSlotted, home_of, slot_at}

module _ (old new : SlotTable) (slot : Slot) (place : ℕ) (same_mask : new.mask ≡ old.mask) (from : home_of old.mask slot.hash ≤ place)
    (none_free : (p : ℕ) → home_of old.mask slot.hash ≤ p → p < place → 0 < (slot_at old.slots.items p).link) where
  -- a free slot is written
  pub IsPut-set : new.slots.items ≡ set old.slots.items place slot → place < length old.slots.items → (slot_at old.slots.items place).link ≡ 0 → IsPut old new slot
  IsPut-set written within free = record {
    place = place;
    from = from;
    none_free = none_free;
    free = free;
    within = omega (arith, size, within);
    is_slot = ap (λ (ss : List Slot). slot_at ss place) written ∙ get_or-set_same old.slots.items place slot (record { hash = 0; link = 0 }) within;
    others = λ p other. ap (λ (ss : List Slot). slot_at ss p) written ∙ get_or-set_other old.slots.items place p slot (record { hash = 0; link = 0 }) other;
    no_fewer = omega (arith, size);
    same_mask = same_mask;
  }
    where
      size : length new.slots.items ≡ length old.slots.items
      size = ap (λ (ss : List Slot). length ss) written ∙ length-set old.slots.items place slot

  -- a slot is added past the last
  pub IsPut-push : new.slots.items ≡ old.slots.items ++ slot ∷ [] → length old.slots.items ≡ place → IsPut old new slot
  IsPut-push pushed end = record {
    place = place;
    from = from;
    none_free = none_free;
    free = ap (λ (s : Slot). s.link) (get_or_past old.slots.items place (record { hash = 0; link = 0 }) (omega (arith, end)));
    within = omega (arith, size, end);
    is_slot = ap (λ (ss : List Slot). slot_at ss place) pushed ∙ get_or_push old.slots.items slot (record { hash = 0; link = 0 }) place end;
    others = λ p other. ap (λ (ss : List Slot). slot_at ss p) pushed ∙ others p other (cases_lt p place);
    no_fewer = omega (arith, size);
    same_mask = same_mask;
  }
    where
      longer : length (old.slots.items ++ slot ∷ []) ≡ length old.slots.items + 1
      longer = length_push old.slots.items slot

      size : length new.slots.items ≡ length old.slots.items + 1
      size = ap (λ (ss : List Slot). length ss) pushed ∙ longer

      others : (p : ℕ) → p ≢ place → (p < place) ⊎ (place ≤ p) → slot_at (old.slots.items ++ slot ∷ []) p ≡ slot_at old.slots.items p
      others p other (inl below) = get_or_append_left old.slots.items (slot ∷ []) (record { hash = 0; link = 0 }) p (omega (arith, below, end))
      others p other (inr past) = get_or_past (old.slots.items ++ slot ∷ []) p (record { hash = 0; link = 0 }) (omega (arith, longer, past, other, end)) ∙ sym (get_or_past old.slots.items p (record { hash = 0; link = 0 }) (omega (arith, past, end)))

module _ (old new : SlotTable) (slot : Slot) (put : IsPut old new slot) where
  others_link : (p : ℕ) → p ≢ put.place → (slot_at new.slots.items p).link ≡ (slot_at old.slots.items p).link
  others_link p other = ap (λ (s : Slot). s.link) (put.others p other)

  link_here : (p : ℕ) → p ≡ put.place → (slot_at new.slots.items p).link ≡ slot.link
  link_here p here = ap (λ q. (slot_at new.slots.items q).link) here ∙ ap (λ (s : Slot). s.link) put.is_slot

  was_free : (p : ℕ) → p ≡ put.place → (slot_at old.slots.items p).link ≡ 0
  was_free p here = ap (λ q. (slot_at old.slots.items q).link) here ∙ put.free

  stay_taken : (p : ℕ) → 0 < (slot_at old.slots.items p).link → 0 < (slot_at new.slots.items p).link
  stay_taken p some = by (cases_eq p put.place)
    where
      by : (p ≡ put.place) ⊎ (p ≢ put.place) → 0 < (slot_at new.slots.items p).link
      by (inl here) = absurd (omega (arith, some, was_free p here))
      by (inr there) = omega (arith, some, others_link p there)

  -- the numbers that have slots keep them
  pub IsSlotted-stays : (h n : ℕ) → IsSlotted old.mask old.slots.items h n → IsSlotted new.mask new.slots.items h n
  IsSlotted-stays h n is =
      let other : is.place ≢ put.place = λ here. omega (arith, is.has_link, was_free is.place here) in
      record {
        place = is.place;
        from = subst (λ m. home_of m h ≤ is.place) (sym put.same_mask) is.from;
        within = omega (arith, is.within, put.no_fewer);
        has_hash = ap (λ (s : Slot). s.hash) (put.others is.place other) ∙ is.has_hash;
        has_link = others_link is.place other ∙ is.has_link;
        none_free = subst (λ m. (p : ℕ) → home_of m h ≤ p → p < is.place → 0 < (slot_at new.slots.items p).link) (sym put.same_mask) (λ p after before. stay_taken p (is.none_free p after before));
      }

  -- the number of the link comes
  pub IsSlotted-comes : (n : ℕ) → slot.link ≡ n + 1 → IsSlotted new.mask new.slots.items slot.hash n
  IsSlotted-comes n link = record {
    place = put.place;
    from = subst (λ m. home_of m slot.hash ≤ put.place) (sym put.same_mask) put.from;
    within = put.within;
    has_hash = ap (λ (s : Slot). s.hash) put.is_slot;
    has_link = ap (λ (s : Slot). s.link) put.is_slot ∙ link;
    none_free = subst (λ m. (p : ℕ) → home_of m slot.hash ≤ p → p < put.place → 0 < (slot_at new.slots.items p).link) (sym put.same_mask) (λ p after before. stay_taken p (put.none_free p after before));
  }

  -- no link is greater than those there were and the one that comes
  pub held_after : (most : ℕ) → slot.link ≤ most → ((p : ℕ) → (slot_at old.slots.items p).link ≤ most) → (p : ℕ) → (slot_at new.slots.items p).link ≤ most
  held_after most comes held p = by (cases_eq p put.place)
    where
      by : (p ≡ put.place) ⊎ (p ≢ put.place) → (slot_at new.slots.items p).link ≤ most
      by (inl here) = omega (arith, comes, link_here p here)
      by (inr there) = omega (arith, held p, others_link p there)

  -- the next number is put
  pub AreSlotted-put : (hashes : List ℕ) → slot.link ≡ length hashes + 1 → AreSlotted old hashes → AreSlotted new (hashes ++ slot.hash ∷ [])
  AreSlotted-put hashes link are = record {
    homes = omega (arith, put.same_mask, are.homes, put.no_fewer);
    held = held_after (length (hashes ++ slot.hash ∷ [])) (omega (arith, link, more)) (λ p. omega (arith, are.held p, more));
    slotted = λ n within. slotted n within (cases_lt n (length hashes));
  }
    where
      more : length (hashes ++ slot.hash ∷ []) ≡ length hashes + 1
      more = length_push hashes slot.hash

      slotted : (n : ℕ) → n < length (hashes ++ slot.hash ∷ []) → (n < length hashes) ⊎ (length hashes ≤ n) → IsSlotted new.mask new.slots.items (get_or (hashes ++ slot.hash ∷ []) n 0) n
      slotted n within (inl below) = rw (get_or_append_left hashes (slot.hash ∷ []) 0 n below) (IsSlotted-stays (get_or hashes n 0) n (are.slotted n below))
      slotted n within (inr past) =
          let all : length hashes ≡ n = omega (arith, within, more, past) in
          rw (get_or_push hashes slot.hash 0 n all) (IsSlotted-comes n (omega (arith, link, all)))

-- the numbers of the old slots before a place are slotted in the new ones, which hold no link greater than the old ones
pub record AreWalked (old new : SlotTable) (place : ℕ) : Type 0 where
  pub homes : new.mask ≤ length new.slots.items
  pub held : (most : ℕ) → ((p : ℕ) → (slot_at old.slots.items p).link ≤ most) → (p : ℕ) → (slot_at new.slots.items p).link ≤ most
  pub slotted : (p : ℕ) → p < place → 0 < (slot_at old.slots.items p).link → IsSlotted new.mask new.slots.items (slot_at old.slots.items p).hash ((slot_at old.slots.items p).link - 1)

-- before the first, all new slots are free
pub AreWalked-none : (old new : SlotTable) → AreSlotted new [] → AreWalked old new 0
AreWalked-none old new free = record {
  homes = free.homes;
  held = λ most old_held p. omega (arith, free.held p);
  slotted = λ p before. absurd (omega (arith, before));
}

-- a free slot is passed over
pub AreWalked-free : (old new : SlotTable) (place : ℕ) → AreWalked old new place → (slot_at old.slots.items place).link ≡ 0 → AreWalked old new (place + 1)
AreWalked-free old new place walked free = record {
  homes = walked.homes;
  held = walked.held;
  slotted = λ p before. slotted p before (cases_eq p place);
}
  where
    slotted : (p : ℕ) → p < place + 1 → (p ≡ place) ⊎ (p ≢ place) → 0 < (slot_at old.slots.items p).link → IsSlotted new.mask new.slots.items (slot_at old.slots.items p).hash ((slot_at old.slots.items p).link - 1)
    slotted p before (inl here) some = absurd (omega (arith, some, free, ap (λ q. (slot_at old.slots.items q).link) here))
    slotted p before (inr there) some = walked.slotted p (omega (arith, before, there)) some

-- a taken slot is put
pub AreWalked-put : (old new newer : SlotTable) (place : ℕ) → AreWalked old new place → 0 < (slot_at old.slots.items place).link → IsPut new newer (slot_at old.slots.items place) → AreWalked old newer (place + 1)
AreWalked-put old new newer place walked taken put = record {
  homes = omega (arith, walked.homes, put.same_mask, put.no_fewer);
  held = λ most old_held. held_after new newer (slot_at old.slots.items place) put most (old_held place) (walked.held most old_held);
  slotted = λ p before. slotted p before (cases_eq p place);
}
  where
    comes : IsSlotted newer.mask newer.slots.items (slot_at old.slots.items place).hash ((slot_at old.slots.items place).link - 1)
    comes = IsSlotted-comes new newer (slot_at old.slots.items place) put ((slot_at old.slots.items place).link - 1) (omega (arith, taken))

    slotted : (p : ℕ) → p < place + 1 → (p ≡ place) ⊎ (p ≢ place) → 0 < (slot_at old.slots.items p).link → IsSlotted newer.mask newer.slots.items (slot_at old.slots.items p).hash ((slot_at old.slots.items p).link - 1)
    slotted p before (inl here) some = subst (λ q. IsSlotted newer.mask newer.slots.items (slot_at old.slots.items q).hash ((slot_at old.slots.items q).link - 1)) (sym here) comes
    slotted p before (inr there) some = IsSlotted-stays new newer (slot_at old.slots.items place) put (slot_at old.slots.items p).hash ((slot_at old.slots.items p).link - 1) (walked.slotted p (omega (arith, before, there)) some)

-- past the last, all numbers are slotted
pub AreSlotted-walked : (old new : SlotTable) (hashes : List ℕ) → AreWalked old new (length old.slots.items) → AreSlotted old hashes → AreSlotted new hashes
AreSlotted-walked old new hashes walked are = record {
  homes = walked.homes;
  held = walked.held (length hashes) are.held;
  slotted = slotted;
}
  where
    slotted : (n : ℕ) → n < length hashes → IsSlotted new.mask new.slots.items (get_or hashes n 0) n
    slotted n within =
        let was = are.slotted n within in
        let number : (slot_at old.slots.items was.place).link - 1 ≡ n = omega (arith, was.has_link) in
        subst (λ h. IsSlotted new.mask new.slots.items h n) was.has_hash
        (subst (λ m. IsSlotted new.mask new.slots.items (slot_at old.slots.items was.place).hash m) number
        (walked.slotted was.place was.within (omega (arith, was.has_link))))

-- no slot before a place is free, and none from the home on holds the key
pub record IsSought (keys : List (List ℕ)) (slots : List Slot) (key : List ℕ) (hash home place : ℕ) : Type 0 where
  pub none_free : (p : ℕ) → home ≤ p → p < place → 0 < (slot_at slots p).link
  pub others : (p : ℕ) → home ≤ p → p < place → (slot_at slots p).hash ≡ hash → key_at keys ((slot_at slots p).link - 1) ≢ key

-- the search ends at a free slot or past the last, with no key
pub Contains-sought : (keys : List (List ℕ)) (table : SlotTable) (key : List ℕ) (hash place : ℕ) → hash ≡ hash_of key → AreSlotted table (map hash_of keys) → IsSought keys table.slots.items key hash (home_of table.mask hash) place
    → (slot_at table.slots.items place).link ≡ 0 → home_of table.mask hash ≤ place → ¬ Contains keys key
Contains-sought keys table key hash place is are sought free after there = by (cases_lt slotted.place place) (cases_eq slotted.place place)
  where
    n : ℕ
    n = there.0

    same : key_at keys n ≡ key
    same = sym (get_or_default keys n key [] there.1) ∙ there.2

    hashed : get_or (map hash_of keys) n 0 ≡ hash
    hashed = get_or-map hash_of keys n [] 0 there.1 ∙ ap hash_of same ∙ sym is

    slotted : IsSlotted table.mask table.slots.items hash n
    slotted = subst (λ h. IsSlotted table.mask table.slots.items h n) hashed (are.slotted n (omega (arith, there.1, length-map keys hash_of)))

    by : (slotted.place < place) ⊎ (place ≤ slotted.place) → (slotted.place ≡ place) ⊎ (slotted.place ≢ place) → ⊥
    by (inl before) here_or_not =
        let number : (slot_at table.slots.items slotted.place).link - 1 ≡ n = omega (arith, slotted.has_link) in
        sought.others slotted.place slotted.from before slotted.has_hash (ap (key_at keys) number ∙ same)
    by (inr past) (inl here) = omega (arith, slotted.has_link, free, ap (λ q. (slot_at table.slots.items q).link) here)
    by (inr past) (inr other) = omega (arith, slotted.none_free place after (omega arith), free)

-- it rests on the mask and the slots alone
pub AreSlotted-same : (old new : SlotTable) (hashes : List ℕ) → new.mask ≡ old.mask → new.slots.items ≡ old.slots.items → AreSlotted old hashes → AreSlotted new hashes
AreSlotted-same old new hashes mask slots are = record {
  homes = omega (arith, are.homes, mask, ap (λ (ss : List Slot). length ss) slots);
  held = subst (λ (ss : List Slot). (place : ℕ) → (slot_at ss place).link ≤ length hashes) (sym slots) are.held;
  slotted = subst (λ (ss : List Slot). (n : ℕ) → n < length hashes → IsSlotted new.mask ss (get_or hashes n 0) n) (sym slots)
      (subst (λ m. (n : ℕ) → n < length hashes → IsSlotted m old.slots.items (get_or hashes n 0) n) (sym mask) are.slotted);
}
