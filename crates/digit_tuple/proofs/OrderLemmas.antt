-- Lists in order.
use Rattle.std.proofs.Common.{◌≡◌, ℕ, ◌+◌, ◌-◌, ◌<◌, suc, zero, List, length, get_or, arith, subst, refl}
use Rattle.std.specs.List.{AllPairs, AllAdjacentBelow}

far : {X : Type 0} (R : X → X → Type 0) → ((x y z : X) → R x y → R y z → R x z) → (xs : List X) → AllAdjacentBelow R xs (length xs) → (n i j : ℕ) (d : X) → j ≡ i + suc n → j < length xs → R (get_or xs i d) (get_or xs j d)
far R trans xs adjacent zero i j d e within =
    let at : i + 1 ≡ j = omega arith in
    let below : i + 1 < length xs = omega arith in
    subst (λ k. R (get_or xs i d) (get_or xs k d)) at (adjacent i d below)
far R trans xs adjacent (suc n) i j d e within =
    let m : ℕ = i + suc n in
    let at : m + 1 ≡ j = omega arith in
    let below : m + 1 < length xs = omega arith in
    let before : m < length xs = omega arith in
    trans (get_or xs i d) (get_or xs m d) (get_or xs j d)
    (far R trans xs adjacent n i m d refl before)
    (subst (λ k. R (get_or xs m d) (get_or xs k d)) at (adjacent m d below))

-- what holds of each element and the next, and is transitive, holds of each element and each later one
pub AllPairs-from_adjacent : {X : Type 0} (R : X → X → Type 0) → ((x y z : X) → R x y → R y z → R x z) → (xs : List X) → AllAdjacentBelow R xs (length xs) → AllPairs R xs
AllPairs-from_adjacent R trans xs adjacent i j d below within =
    far R trans xs adjacent (j - i - 1) i j d (omega arith) within
