-- The first places of the numbers of a list.
use Rattle.std.proofs.Common.{◌≡◌, ◌≢◌, ℕ, ◌<◌, ◌≤◌, ◌⊎◌, inl, inr, ◌↔◌, ◌+◌, ◌++◌, ◌∷◌, [], List, length, sym, ap, ◌∙◌, arith}
use Rattle.std.specs.List.{All}
use Rattle.std.proofs.lemmas.Bool.{cases_eq, cases_lt}
use Rattle.std.proofs.lemmas.List.{get_or_append_left, get_or_default, get_or_push}
use Rattle.residual_classes.specs.Classes.{class_of}
use Rattle.residual_classes.specs.FirstPlaces.{AreFirstPlaces, IsFirstPlace, number_at}

-- places with one number have one first place
pub same_first : (numbers : List ℕ) (p q first_p first_q : ℕ) → IsFirstPlace numbers p first_p → IsFirstPlace numbers q first_q → number_at numbers p ≡ number_at numbers q → first_p ≡ first_q
same_first numbers p q first_p first_q of_p of_q same = by (cases_lt first_p first_q) (cases_lt first_q first_p)
  where
    by : (first_p < first_q) ⊎ (first_q ≤ first_p) → (first_q < first_p) ⊎ (first_p ≤ first_q) → first_p ≡ first_q
    by (inl less) _ = absurd (of_q.none_before first_p less (of_p.same ∙ same))
    by (inr _) (inl less) = absurd (of_p.none_before first_q less (of_q.same ∙ sym same))
    by (inr not_less) (inr not_more) = omega arith

-- two places have one number where they have one first place, and only there
pub same_first_place : (numbers places : List ℕ) → AreFirstPlaces numbers places → (p q : ℕ) → p < length numbers → q < length numbers
    → (number_at numbers p ≡ number_at numbers q) ↔ (class_of places p ≡ class_of places q)
same_first_place numbers places are p q p_within q_within = (
  same_first numbers p q (class_of places p) (class_of places q) (are.first p p_within) (are.first q q_within),
  λ one. sym (are.first p p_within).same ∙ ap (number_at numbers) one ∙ (are.first q q_within).same,
)

-- a first place is not after its place
first_place_up_to : (numbers places : List ℕ) → AreFirstPlaces numbers places → (q : ℕ) → q < length numbers → class_of places q ≤ q
first_place_up_to numbers places are q within = (are.first q within).up_to

-- all first places are places
pub All-first_places : (numbers places : List ℕ) → AreFirstPlaces numbers places → All (λ p. p < length numbers) places
All-first_places numbers places are = λ q past within. let place : q < length numbers = omega (arith, within, are.width) in rw (get_or_default places q past 0 within) (omega (arith, first_place_up_to numbers places are q place))

-- one more first place
pub first_places-more : (numbers places new : List ℕ) (count first : ℕ) → length places ≡ count → new ≡ places ++ first ∷ [] → ((q : ℕ) → q < count → IsFirstPlace numbers q (class_of places q)) → IsFirstPlace numbers count first
    → (q : ℕ) → q < count + 1 → IsFirstPlace numbers q (class_of new q)
first_places-more numbers places new count first width is firsts next q less = by (cases_eq q count)
  where
    by : (q ≡ count) ⊎ (q ≢ count) → IsFirstPlace numbers q (class_of new q)
    by (inl here) = rw (here, is, get_or_push places first 0 count width) next
    by (inr there) =
        let before : q < count = omega arith in
        rw (is, get_or_append_left places (first ∷ []) 0 q (omega arith)) (firsts q before)
