-- First places in slots, by their numbers.
use Rattle.std.specs.Prelude.{◌≡◌, ◌≢◌, ℕ, ◌-◌, ◌*◌, ◌/◌, ◌%◌, ◌^◌, ◌<◌, ◌≤◌, min, List, length, slice_index_or}
use Rattle.residual_classes.specs.declared.first_places.PlaceSlots.{PlaceSlots}
use Rattle.residual_classes.specs.FirstPlaces.{IsFirstPlace, number_at}

-- one more than the place that a slot holds, 0 where it is free or past the end
abbrev pub link_at : List ℕ → ℕ → ℕ
link_at slots slot = slice_index_or slots slot 0

-- where the search for a number starts
abbrev pub home_of : ℕ → ℕ → ℕ
home_of homes number = min (((number / 2 ^ 32 * homes) % 2 ^ 64) / 2 ^ 32) homes

-- a slot holds a place with the number, and none from the home of the number up to it is free
pub record IsSlotted (homes : ℕ) (slots numbers : List ℕ) (number : ℕ) : Type 0 where
  pub slot : ℕ
  pub from : home_of homes number ≤ slot
  pub taken : 0 < link_at slots slot
  pub same : number_at numbers (link_at slots slot - 1) ≡ number
  pub none_free : (s : ℕ) → home_of homes number ≤ s → s < slot → 0 < link_at slots s

-- the slots hold the first places of the numbers up to a count, and no other places
pub record HoldPlaces (table : PlaceSlots) (numbers : List ℕ) (count : ℕ) : Type 0 where
  pub homes : table.homes ≤ length table.slots.items
  pub below : (slot : ℕ) → link_at table.slots.items slot ≤ count
  pub firsts : (slot : ℕ) → 0 < link_at table.slots.items slot → let place = link_at table.slots.items slot - 1 in IsFirstPlace numbers place place
  pub slotted : (q : ℕ) → q < count → IsSlotted table.homes table.slots.items numbers (number_at numbers q)

-- the slots from the home of a number up to one hold places with other numbers
abbrev pub ArePassed : PlaceSlots → List ℕ → ℕ → ℕ → Type 0
ArePassed table numbers number slot = (s : ℕ) → home_of table.homes number ≤ s → s < slot
    → (0 < link_at table.slots.items s) × (number_at numbers (link_at table.slots.items s - 1) ≢ number)
