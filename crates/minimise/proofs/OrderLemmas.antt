-- Lists in order that have the same elements.
use Rattle.std.proofs.Common.{◌≡◌, ℕ, zero, suc, ◌<◌, ◌⊎◌, inl, inr, List, [], ◌∷◌, length, get_or, refl, sym, ap, ◌∙◌, subst, arith}
use Rattle.std.specs.List.{AllPairs, Contains}

-- the element at the head or a later one
cases_of : {X : Type 0} (x : X) (xs : List X) (y : X) → Contains (x ∷ xs) y → (x ≡ y) ⊎ Contains xs y
cases_of x xs y there = by there.0 there.1 there.2
  where
    by : (k : ℕ) → k < length (x ∷ xs) → get_or (x ∷ xs) k y ≡ y → (x ≡ y) ⊎ Contains xs y
    by zero within read = inl read
    by (suc k) within read = inr (k, omega arith, read)

at_head : {X : Type 0} (x : X) (xs : List X) → Contains (x ∷ xs) x
at_head x xs = (0, omega arith, refl)

at_tail : {X : Type 0} (x : X) (xs : List X) (y : X) → Contains xs y → Contains (x ∷ xs) y
at_tail x xs y there = (suc there.0, omega (arith, there.1), there.2)

none_in : {X : Type 0} (y : X) → ¬ Contains [] y
none_in y there = omega (arith, there.1)

module _ {X : Type 0} (R : X → X → Type 0) (shared_direction : (x y : X) → R x y → R y x → ⊥) where
  head_before : (x : X) (xs : List X) (y : X) → AllPairs R (x ∷ xs) → Contains xs y → R x y
  head_before x xs y pairs there = subst (R x) there.2 (pairs 0 (suc there.0) y (omega arith) (omega (arith, there.1)))

  tail_pairs : (x : X) (xs : List X) → AllPairs R (x ∷ xs) → AllPairs R xs
  tail_pairs x xs pairs i j d before within = pairs (suc i) (suc j) d (omega arith) (omega arith)

  -- two lists in order with the same elements are the same
  pub same_in_order : (xs ys : List X) → AllPairs R xs → AllPairs R ys → ((z : X) → Contains xs z → Contains ys z) → ((z : X) → Contains ys z → Contains xs z) → xs ≡ ys
  same_in_order [] [] up vp over back = refl
  same_in_order [] (y ∷ ys) up vp over back = absurd (none_in y (back y (at_head y ys)))
  same_in_order (x ∷ xs) [] up vp over back = absurd (none_in x (over x (at_head x xs)))
  same_in_order (x ∷ xs) (y ∷ ys) up vp over back =
      let same : x ≡ y = first (cases_of y ys x (over x (at_head x xs))) (cases_of x xs y (back y (at_head y ys))) in
      let rest : xs ≡ ys = same_in_order xs ys (tail_pairs x xs up) (tail_pairs y ys vp)
      (λ z there. later x y ys z (head_before x xs z up there) same (cases_of y ys z (over z (at_tail x xs z there))))
      (λ z there. later y x xs z (head_before y ys z vp there) (sym same) (cases_of x xs z (back z (at_tail y ys z there)))) in
      ap (λ z. z ∷ xs) same ∙ ap (λ zs. y ∷ zs) rest
    where
      first : (y ≡ x) ⊎ Contains ys x → (x ≡ y) ⊎ Contains xs y → x ≡ y
      first (inl same) other = sym same
      first (inr there) (inl same) = same
      first (inr there) (inr here) = absurd (shared_direction x y (head_before x xs y up here) (head_before y ys x vp there))

      later : (w v : X) (zs : List X) (z : X) → R w z → w ≡ v → (v ≡ z) ⊎ Contains zs z → Contains zs z
      later w v zs z above same (inl is) =
          let itself : R z z = subst (λ (u : X). R u z) (same ∙ is) above in absurd (shared_direction z z itself itself)
      later w v zs z above same (inr there) = there
