-- Transitions counted one after the other.
use Rattle.std.proofs.Common.{◌≡◌, ◌≢◌, ◌==◌, ◌&&◌, ℕ, ◌+◌, ◌<◌, ◌≤◌, ◌^◌, Bool, true, false, List, length, get_or, take, drop, ◌⊎◌, inl, inr, refl, sym, ap, ◌∙◌, subst, arith, eq-eqb}
use Rattle.std.proofs.lemmas.Bool.{ne_eqb, cases_eq}
use Rattle.std.proofs.lemmas.List.{take-append-drop, length-take-le}
use Rattle.std.proofs.lemmas.List.Sums.{count_by_more_yes, count_by_more_no, count_by-le-length}
use Rattle.std.specs.List.{All}
use Rattle.numeration.proofs.CountLemmas.{count_by-append}
use Rattle.digit_tuple.specs.declared.transitions.Transition.{Transition}
use Rattle.endless.specs.Counts.{is_kept, counts, counted, AreAdded, AreReleased, IsOneLess}

and_false : (b : Bool) → (b && false) ≡ false
and_false true = refl
and_false false = refl

module _ (without_zero : Bool) (es : List Transition) (k : ℕ) (z : Transition) (within : k < length es) where
  -- a transition that is left out counts nowhere
  pub counted_out : (q : ℕ) → is_kept without_zero (get_or es k z) ≡ false → counted without_zero (take (k + 1) es) q ≡ counted without_zero (take k es) q
  counted_out q out = count_by_more_no (counts without_zero q) es k z within (ap (λ b. b && ((get_or es k z).target == q)) out)

  -- another counts at its target, and nowhere else
  pub counted_here : is_kept without_zero (get_or es k z) ≡ true → counted without_zero (take (k + 1) es) (get_or es k z).target ≡ counted without_zero (take k es) (get_or es k z).target + 1
  counted_here kept =
      count_by_more_yes (counts without_zero (get_or es k z).target) es k z within
      (ap (λ b. b && ((get_or es k z).target == (get_or es k z).target)) kept ∙ eq-eqb (get_or es k z).target (get_or es k z).target refl)

  pub counted_else : (q : ℕ) → (get_or es k z).target ≢ q → counted without_zero (take (k + 1) es) q ≡ counted without_zero (take k es) q
  counted_else q other =
      count_by_more_no (counts without_zero q) es k z within (ap (λ b. is_kept without_zero (get_or es k z) && b) (ne_eqb (get_or es k z).target q other) ∙ and_false (is_kept without_zero (get_or es k z)))

-- the first transitions count no more than all
pub counted-take : (without_zero : Bool) (es : List Transition) (k q : ℕ) → counted without_zero (take k es) q ≤ counted without_zero es q
counted-take without_zero es k q = omega (
  arith,
  count_by-append (counts without_zero q) (take k es) (drop k es),
  ap (λ (fs : List Transition). counted without_zero fs q) (take-append-drop k es),
)

module _ (without_zero : Bool) (es : List Transition) (k : ℕ) (z : Transition) (within : k < length es) (old mid : List ℕ) where
  pub AreReleased-out : AreReleased without_zero (take k es) old mid → is_kept without_zero (get_or es k z) ≡ false → AreReleased without_zero (take (k + 1) es) old mid
  AreReleased-out released out = record { width = released.width; counts = λ q. omega (arith, released.counts q, counted_out without_zero es k z within q out) }

  pub AreReleased-more : (new : List ℕ) (t : ℕ) → AreReleased without_zero (take k es) old mid → is_kept without_zero (get_or es k z) ≡ true → t ≡ (get_or es k z).target
      → IsOneLess mid new t → AreReleased without_zero (take (k + 1) es) old new
  AreReleased-more new t released kept target less = record { width = less.width ∙ released.width; counts = λ q. at q (cases_eq q t) }
    where
      at : (q : ℕ) → (q ≡ t) ⊎ (q ≡ t → ⊥) → get_or new q 0 + counted without_zero (take (k + 1) es) q ≡ get_or old q 0
      at q (inl same) =
          let counted_now = subst (λ n. counted without_zero (take (k + 1) es) n ≡ counted without_zero (take k es) n + 1) (sym (same ∙ target)) (counted_here without_zero es k z within kept) in
          omega (arith, ap (λ n. get_or new n 0) same, less.there, ap (λ n. get_or mid n 0) same, released.counts q, counted_now)
      at q (inr other) = omega (arith, less.elsewhere q other, released.counts q, counted_else without_zero es k z within q (λ same. other (sym (target ∙ same))))

  -- a link that is still to be let go is counted
  pub some_left : (t : ℕ) → AreReleased without_zero (take k es) old mid → is_kept without_zero (get_or es k z) ≡ true → t ≡ (get_or es k z).target → counted without_zero es t ≤ get_or old t 0 → 0 < get_or mid t 0
  some_left t released kept target enough =
      let counted_now = subst (λ n. counted without_zero (take (k + 1) es) n ≡ counted without_zero (take k es) n + 1) (sym target) (counted_here without_zero es k z within kept) in
      omega (arith, released.counts t, counted_now, counted-take without_zero es (k + 1) t, enough)

-- there is room for one transition more
pub room_left : (without_zero : Bool) (es : List Transition) (k t : ℕ) (old mid : List ℕ) → k < length es → AreAdded without_zero (take k es) old mid → t < length old
    → All (λ count. count + length es < 2 ^ 64) old → get_or mid t 0 + 1 < 2 ^ 64
room_left without_zero es k t old mid within added inside room = omega (
  arith,
  added.counts t,
  count_by-le-length (counts without_zero t) (take k es),
  length-take-le k es (omega (arith, within)),
  room t 0 inside,
  within,
)
