-- Numbers in slots, by their hashes.
use Rattle.std.specs.Prelude.{◌≡◌, ◌≢◌, ℕ, ◌+◌, ◌<◌, ◌≤◌, bit_and, List, length, slice_index, slice_index_or}
use Rattle.digit_tuple.specs.declared.slots.Slot.{Slot}
use Rattle.digit_tuple.specs.declared.slots.SlotTable.{SlotTable}

-- the slot at a place, a free one past the end
abbrev pub slot_at : List Slot → ℕ → Slot
slot_at slots place = slice_index_or slots place (record { hash = 0; link = 0 })

-- where the search for a hash starts
abbrev pub home_of : ℕ → ℕ → ℕ
home_of mask hash = bit_and hash mask

-- a slot holds the number with its hash, and none from the hash's home up to it is free
pub record IsSlotted (mask : ℕ) (slots : List Slot) (hash number : ℕ) : Type 0 where
  pub place : ℕ
  pub from : home_of mask hash ≤ place
  pub within : place < length slots
  pub has_hash : (slot_at slots place).hash ≡ hash
  pub has_link : (slot_at slots place).link ≡ number + 1
  pub none_free : (p : ℕ) → home_of mask hash ≤ p → p < place → 0 < (slot_at slots p).link

-- the slots hold the numbers of the hashes, and no others
pub record AreSlotted (table : SlotTable) (hashes : List ℕ) : Type 0 where
  pub homes : table.mask ≤ length table.slots.items
  pub held : (place : ℕ) → (slot_at table.slots.items place).link ≤ length hashes
  pub slotted : (number : ℕ) → number < length hashes → IsSlotted table.mask table.slots.items (slice_index hashes number) number

-- the slot is at the first place that was free from the home of its hash on, and all other slots stay
pub record IsPut (old new : SlotTable) (slot : Slot) : Type 0 where
  pub place : ℕ
  pub from : home_of old.mask slot.hash ≤ place
  pub none_free : (p : ℕ) → home_of old.mask slot.hash ≤ p → p < place → 0 < (slot_at old.slots.items p).link
  pub free : (slot_at old.slots.items place).link ≡ 0
  pub within : place < length new.slots.items
  pub is_slot : slot_at new.slots.items place ≡ slot
  pub others : (p : ℕ) → p ≢ place → slot_at new.slots.items p ≡ slot_at old.slots.items p
  pub no_fewer : length old.slots.items ≤ length new.slots.items
  pub same_mask : new.mask ≡ old.mask
