-- The laws that make a relation of three numbers addition.
use Rattle.std.specs.Prelude.{◌≡◌, ℕ, suc, ◌+◌, Bool, IsTrue, ◌↔◌}

-- with 0 the sum of a number is the number itself, and nothing else
abbrev pub ZeroLaw : (ℕ → ℕ → ℕ → Type 0) → Type 0
ZeroLaw adds = (x z : ℕ) → adds x 0 z ↔ (z ≡ x)

-- with one more the sums are those that are one more
abbrev pub SuccessorLaw : (ℕ → ℕ → ℕ → Type 0) → Type 0
SuccessorLaw adds = (x y z : ℕ) → adds x (suc y) z ↔ ((w : ℕ) × adds x y w × (z ≡ suc w))

-- the third number is the sum of the first two
abbrev pub IsAddition : (ℕ → ℕ → ℕ → Type 0) → Type 0
IsAddition adds = (x y z : ℕ) → adds x y z ↔ (x + y ≡ z)

-- a relation meets both laws if and only if it is addition
abbrev pub LawsDetermineAddition : Type 0
LawsDetermineAddition = (test : ℕ → ℕ → ℕ → Bool) → (ZeroLaw (λ x y z. IsTrue (test x y z)) × SuccessorLaw (λ x y z. IsTrue (test x y z))) ↔ IsAddition (λ x y z. IsTrue (test x y z))
