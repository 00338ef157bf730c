-- The laws of zero and of the successor determine addition.
use Rattle.std.proofs.Common.{◌≡◌, ℕ, zero, suc, ◌+◌, ◌↔◌, refl, arith}
use Rattle.adder_check.specs.AdderLaws.{ZeroLaw, SuccessorLaw, IsAddition}

module _ (adds : ℕ → ℕ → ℕ → Type 0) where
  one_more : SuccessorLaw adds → (y : ℕ) → ((x z : ℕ) → adds x y z ↔ (x + y ≡ z)) → (x z : ℕ) → adds x (suc y) z ↔ (x + suc y ≡ z)
  one_more more y so_far x z = (
    (λ a. let found = (more x y z).0 a in omega (arith, (so_far x found.0).0 found.1, found.2)),
    (λ is. (more x y z).1 (x + y, (so_far x (x + y)).1 refl, omega (arith, is))),
  )

  addition_from_laws : ZeroLaw adds → SuccessorLaw adds → (y x z : ℕ) → adds x y z ↔ (x + y ≡ z)
  addition_from_laws none more zero x z = ((λ a. omega (arith, (none x z).0 a)), (λ is. (none x z).1 (omega (arith, is))))
  addition_from_laws none more (suc y) x z = one_more more y (addition_from_laws none more y) x z

  zero_law : IsAddition adds → ZeroLaw adds
  zero_law is x z = (λ a. omega (arith, (is x 0 z).0 a), λ same. (is x 0 z).1 (omega (arith, same)))

  successor_law : IsAddition adds → SuccessorLaw adds
  successor_law is x y z = (
    (λ a. (x + y, (is x y (x + y)).1 refl, omega (arith, (is x (suc y) z).0 a))),
    (λ found. (is x (suc y) z).1 (omega (arith, (is x y found.0).0 found.1, found.2))),
  )

  pub laws_are_addition : (ZeroLaw adds × SuccessorLaw adds) ↔ IsAddition adds
  laws_are_addition = ((λ both x y z. addition_from_laws both.0 both.1 y x z), (λ is. (zero_law is, successor_law is)))
