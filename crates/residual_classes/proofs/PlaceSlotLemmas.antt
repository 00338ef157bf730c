-- First places in slots, by their numbers.
use Rattle.std.proofs.Common.{◌≡◌, ◌≢◌, ℕ, ◌+◌, ◌-◌, ◌<◌, ◌≤◌, ◌⊎◌, inl, inr, List, [], ◌∷◌, ◌++◌, length, set, length-set, get_or-set_same, get_or-set_other, refl, sym, ap, ◌∙◌, subst, arith}
use Rattle.std.proofs.lemmas.Bool.{cases_eq, cases_lt}
use Rattle.std.proofs.lemmas.List.{get_or_append_left, get_or_push, get_or_past, length_push}
use Rattle.residual_classes.specs.declared.first_places.PlaceSlots.{PlaceSlots}
use Rattle.residual_classes.specs.FirstPlaces.{IsFirstPlace, number_at}
use Rattle.residual_classes.specs.PlaceSlots.{ArePassed, HoldPlaces, IsSlotted, home_of, link_at}

-- a slot that was free is taken, and the others stay
pub record IsTaken (old new : List ℕ) (slot link : ℕ) : Type 0 where
  pub free : link_at old slot ≡ 0
  pub has_link : link_at new slot ≡ link
  pub others : (s : ℕ) → s ≢ slot → link_at new s ≡ link_at old s
  pub longer : length old ≤ length new

-- a free slot is written
pub IsTaken-set : (slots : List ℕ) (slot link : ℕ) → slot < length slots → link_at slots slot ≡ 0 → IsTaken slots (set slots slot link) slot link
IsTaken-set slots slot link within free = record {
  free = free;
  has_link = get_or-set_same slots slot link 0 within;
  others = λ s other. get_or-set_other slots slot s link 0 other;
  longer = omega (arith, length-set slots slot link);
}

-- a slot is added past the last
pub IsTaken-push : (slots : List ℕ) (slot link : ℕ) → slot ≡ length slots → IsTaken slots (slots ++ link ∷ []) slot link
IsTaken-push slots slot link end = record {
  free = get_or_past slots slot 0 (omega (arith, end));
  has_link = get_or_push slots link 0 slot (sym end);
  others = λ s other. others s other (cases_lt s slot);
  longer = omega (arith, size);
}
  where
    size : length (slots ++ link ∷ []) ≡ length slots + 1
    size = length_push slots link

    others : (s : ℕ) → s ≢ slot → (s < slot) ⊎ (slot ≤ s) → link_at (slots ++ link ∷ []) s ≡ link_at slots s
    others s other (inl below) = get_or_append_left slots (link ∷ []) 0 s (omega (arith, below, end))
    others s other (inr past) = get_or_past (slots ++ link ∷ []) s 0 (omega (arith, size, past, other, end)) ∙ sym (get_or_past slots s 0 (omega (arith, past, end)))

module _ (table : PlaceSlots) (numbers : List ℕ) (count slot : ℕ) (holds : HoldPlaces table numbers count) where
  -- the place in a slot is the first with its number
  pub IsFirstPlace-held : 0 < link_at table.slots.items slot → number_at numbers (link_at table.slots.items slot - 1) ≡ number_at numbers count → IsFirstPlace numbers count (link_at table.slots.items slot - 1)
  IsFirstPlace-held taken same = record {
    up_to = omega (arith, holds.below slot);
    same = same;
    none_before = λ k before one. (holds.firsts slot taken).none_before k before (one ∙ sym same);
  }

  -- where the search ends at a free slot, no place before has the number
  pub IsFirstPlace-new : ArePassed table numbers (number_at numbers count) slot → home_of table.homes (number_at numbers count) ≤ slot → link_at table.slots.items slot ≡ 0 → IsFirstPlace numbers count count
  IsFirstPlace-new passed from free = record { up_to = omega arith; same = refl; none_before = λ k before one. none k before one }
    where
      none : (k : ℕ) → k < count → number_at numbers k ≢ number_at numbers count
      none k before one = by (cases_lt known.slot slot) (cases_eq known.slot slot)
        where
          known : IsSlotted table.homes table.slots.items numbers (number_at numbers count)
          known = subst (IsSlotted table.homes table.slots.items numbers) one (holds.slotted k before)

          by : (known.slot < slot) ⊎ (slot ≤ known.slot) → (known.slot ≡ slot) ⊎ (known.slot ≢ slot) → ⊥
          by (inl earlier) _ = (passed known.slot known.from earlier).1 known.same
          by (inr _) (inl here) = omega (arith, known.taken, free, ap (link_at table.slots.items) here)
          by (inr later) (inr other) = omega (arith, known.none_free slot from (omega arith), free)

module _ (old new : PlaceSlots) (numbers : List ℕ) (count slot : ℕ) (same_homes : new.homes ≡ old.homes) (put : IsTaken old.slots.items new.slots.items slot (count + 1)) (holds : HoldPlaces old numbers count) where
  stay_taken : (s : ℕ) → 0 < link_at old.slots.items s → 0 < link_at new.slots.items s
  stay_taken s some = by (cases_eq s slot)
    where
      by : (s ≡ slot) ⊎ (s ≢ slot) → 0 < link_at new.slots.items s
      by (inl here) = omega (arith, some, put.free, ap (link_at old.slots.items) here)
      by (inr there) = omega (arith, some, put.others s there)

  stays : (number : ℕ) → IsSlotted old.homes old.slots.items numbers number → IsSlotted new.homes new.slots.items numbers number
  stays number is =
      let other : is.slot ≢ slot = λ here. omega (arith, is.taken, put.free, ap (link_at old.slots.items) here) in
      let link : link_at new.slots.items is.slot ≡ link_at old.slots.items is.slot = put.others is.slot other in
      record {
        slot = is.slot;
        from = subst (λ m. home_of m number ≤ is.slot) (sym same_homes) is.from;
        taken = stay_taken is.slot is.taken;
        same = ap (λ l. number_at numbers (l - 1)) link ∙ is.same;
        none_free = subst (λ m. (s : ℕ) → home_of m number ≤ s → s < is.slot → 0 < link_at new.slots.items s) (sym same_homes) (λ s after before. stay_taken s (is.none_free s after before));
      }

  comes : home_of old.homes (number_at numbers count) ≤ slot → ArePassed old numbers (number_at numbers count) slot → IsSlotted new.homes new.slots.items numbers (number_at numbers count)
  comes from passed = record {
    slot = slot;
    from = subst (λ m. home_of m (number_at numbers count) ≤ slot) (sym same_homes) from;
    taken = omega (arith, put.has_link);
    same = ap (number_at numbers) (omega (arith, put.has_link));
    none_free = subst (λ m. (s : ℕ) → home_of m (number_at numbers count) ≤ s → s < slot → 0 < link_at new.slots.items s) (sym same_homes) (λ s after before. stay_taken s (passed s after before).0);
  }

  -- a place is put into the free slot at which the search for its number ends
  pub HoldPlaces-put : home_of old.homes (number_at numbers count) ≤ slot → ArePassed old numbers (number_at numbers count) slot → HoldPlaces new numbers (count + 1)
  HoldPlaces-put from passed = record {
    homes = omega (arith, same_homes, holds.homes, put.longer);
    below = λ s. below s (cases_eq s slot);
    firsts = λ s taken. firsts s taken (cases_eq s slot);
    slotted = λ q less. slotted q less (cases_eq q count);
  }
    where
      below : (s : ℕ) → (s ≡ slot) ⊎ (s ≢ slot) → link_at new.slots.items s ≤ count + 1
      below s (inl here) = omega (arith, put.has_link, ap (link_at new.slots.items) here)
      below s (inr there) = omega (arith, holds.below s, put.others s there)

      firsts : (s : ℕ) → 0 < link_at new.slots.items s → (s ≡ slot) ⊎ (s ≢ slot) → IsFirstPlace numbers (link_at new.slots.items s - 1) (link_at new.slots.items s - 1)
      firsts s taken (inl here) =
          let place : count ≡ link_at new.slots.items s - 1 = omega (arith, put.has_link, ap (link_at new.slots.items) here) in
          subst (λ p. IsFirstPlace numbers p p) place (IsFirstPlace-new old numbers count slot holds passed from put.free)
      firsts s taken (inr there) = rw (put.others s there) (holds.firsts s (omega (arith, taken, put.others s there)))

      slotted : (q : ℕ) → q < count + 1 → (q ≡ count) ⊎ (q ≢ count) → IsSlotted new.homes new.slots.items numbers (number_at numbers q)
      slotted q less (inl here) = rw here (comes from passed)
      slotted q less (inr there) = stays (number_at numbers q) (holds.slotted q (omega arith))
