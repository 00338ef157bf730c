-- When the formula of a letter is true.
use Rattle.std.proofs.Common.{◌≡◌, ℕ, zero, suc, ◌+◌, ◌*◌, ◌-◌, ◌<◌, ◌≤◌, ℤ, List, [], ◌∷◌, Some, ◌⊎◌, inl, inr, refl, sym, ap, ◌∙◌, subst, arith}
use Rattle.std.proofs.lemmas.Bool.{cases_lt}
use Rattle.std.proofs.lemmas.Option.{same_Some}
use Rattle.formula_parse.specs.Tokens.{Name}
use Rattle.formula_truth.specs.Assignments.{Assignment, with_value}
use Rattle.formula_truth.specs.Truth.{ChainHolds, Holds, Meanings}
use Rattle.formula_truth.specs.Values.{value}
use Rattle.word_images.specs.ImageFormula.{at_place, image_formula, place_term, place_variable, places_before, whole_variable, word_name}

module _ (m : Meanings) (s : Name) (k : ℕ) (b : ℤ) (a : Assignment) where
  -- the number is k*q + r, and the word of place r has the letter at q
  pub record IsReached (r : ℕ) : Type 0 where
    pub q : ℕ
    pub place_is : a place_variable ≡ q * k + r
    pub has : m.has_letter (word_name r) (q ∷ []) b

  term_is : (r q : ℕ) → value (place_term k r) (with_value whole_variable q a) ≡ Some (q * k + r)
  term_is r q = ap Some (let at : 1 * k * q + r ≡ q * k + r = omega (arith, swapped k q) in at)
    where
      swapped : (x y : ℕ) → 1 * x * y ≡ y * x
      swapped x y = grind arith

  pub reached : (r : ℕ) → Holds m (at_place s k b r) a → IsReached r
  reached r (q, ((x, y, left, right, same), (c, (ns, places, has), letter))) = record {
    q = q;
    place_is = same_Some (a place_variable) x left ∙ same ∙ sym (same_Some (q * k + r) y (sym (term_is r q) ∙ right));
    has = subst (λ d. m.has_letter (word_name r) (q ∷ []) d) letter (subst (λ (ms : List ℕ). m.has_letter (word_name r) ms c) (sym (same_Some (q ∷ []) ns places)) has);
  }

  pub holds_reached : (r : ℕ) → IsReached r → Holds m (at_place s k b r) a
  holds_reached r h = (h.q, ((a place_variable, h.q * k + r, refl, term_is r h.q, h.place_is), (b, (h.q ∷ [], refl, h.has), refl)))

  -- for one of the first so many places, or this is said
  pub record IsReachedBefore (n : ℕ) : Type 0 where
    pub r : ℕ
    pub small : r < n
    pub reached_is : IsReached r

  split : (n : ℕ) (P : Type 0) → ChainHolds m (places_before s k b n) a P → IsReachedBefore n ⊎ P
  split zero P holds = inr holds
  split (suc n) P (inl prefix) = by (split n (Holds m (at_place s k b n) a) prefix)
    where
      by : IsReachedBefore n ⊎ Holds m (at_place s k b n) a → IsReachedBefore (suc n) ⊎ P
      by (inl h) = inl (record { r = h.r; small = omega (arith, h.small); reached_is = h.reached_is })
      by (inr here) = inl (record { r = n; small = omega arith; reached_is = reached n here })
  split (suc n) P (inr last) = inr last

  joined : (n : ℕ) (P : Type 0) → IsReachedBefore n ⊎ P → ChainHolds m (places_before s k b n) a P
  joined zero P (inl h) = absurd (omega (arith, h.small))
  joined zero P (inr last) = last
  joined (suc n) P (inl h) = inl (joined n (Holds m (at_place s k b n) a) (by (cases_lt h.r n)))
    where
      by : (h.r < n) ⊎ (n ≤ h.r) → IsReachedBefore n ⊎ Holds m (at_place s k b n) a
      by (inl less) = inl (record { r = h.r; small = less; reached_is = h.reached_is })
      by (inr more) = inr (holds_reached n (subst IsReached (let same : h.r ≡ n = omega (arith, h.small, more) in same) h.reached_is))
  joined (suc n) P (inr last) = inr last

  pub image_reached : 0 < k → Holds m (image_formula s k b) a → IsReachedBefore k
  image_reached some holds = by (split (k - 1) (Holds m (at_place s k b (k - 1)) a) holds)
    where
      by : IsReachedBefore (k - 1) ⊎ Holds m (at_place s k b (k - 1)) a → IsReachedBefore k
      by (inl h) = record { r = h.r; small = omega (arith, h.small); reached_is = h.reached_is }
      by (inr here) = record { r = k - 1; small = omega (arith, some); reached_is = reached (k - 1) here }

  pub image_holds : 0 < k → IsReachedBefore k → Holds m (image_formula s k b) a
  image_holds some h = joined (k - 1) (Holds m (at_place s k b (k - 1)) a) (by (cases_lt h.r (k - 1)))
    where
      by : (h.r < k - 1) ⊎ (k - 1 ≤ h.r) → IsReachedBefore (k - 1) ⊎ Holds m (at_place s k b (k - 1)) a
      by (inl less) = inl (record { r = h.r; small = less; reached_is = h.reached_is })
      by (inr more) = inr (holds_reached (k - 1) (subst IsReached (let same : h.r ≡ k - 1 = omega (arith, h.small, some, more) in same) h.reached_is))
