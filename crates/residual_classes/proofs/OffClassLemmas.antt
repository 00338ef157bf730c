-- States that are not of a class.
use Rattle.std.proofs.Common.{◌≡◌, ◌≢◌, ℕ, ◌+◌, ◌<◌, ◌≤◌, List, [], ◌∷◌, ◌++◌, ◌↔◌, ◌⊎◌, inl, inr, ap, ◌∙◌, subst, arith}
use Rattle.std.specs.List.{Contains}
use Rattle.std.proofs.lemmas.Bool.{cases_lt}
use Rattle.std.proofs.lemmas.List.Elements.{Contains-push_cases, Contains-append_left, Contains-push}
use Rattle.residual_classes.specs.Classes.{class_of}

-- the states below count that are not of the class
abbrev pub AreOffTo : List ℕ → ℕ → List ℕ → ℕ → Type 0
AreOffTo classes class states count = (q : ℕ) → Contains states q ↔ ((q < count) × (class_of classes q ≢ class))

-- one more that is not
pub AreOffTo-take : (classes states : List ℕ) (class state : ℕ) → AreOffTo classes class states state → class_of classes state ≢ class → AreOffTo classes class (states ++ state ∷ []) (state + 1)
AreOffTo-take classes states class state to some q = ((λ there. forth (Contains-push_cases states state q there)), (λ both. back (cases_lt q state) both.0 both.1))
  where
    forth : Contains states q ⊎ (state ≡ q) → (q < state + 1) × (class_of classes q ≢ class)
    forth (inl before) = let both = (to q).0 before in (omega (arith, both.0), both.1)
    forth (inr is) = (omega arith, subst (λ n. class_of classes n ≢ class) is some)

    back : (q < state) ⊎ (state ≤ q) → q < state + 1 → class_of classes q ≢ class → Contains (states ++ state ∷ []) q
    back (inl less) within other = Contains-append_left states (state ∷ []) q ((to q).1 (less, other))
    back (inr more) within other = let is : state ≡ q = omega arith in subst (Contains (states ++ state ∷ [])) is (Contains-push states state)

-- one more that is
pub AreOffTo-skip : (classes states : List ℕ) (class state : ℕ) → AreOffTo classes class states state → class_of classes state ≡ class → AreOffTo classes class states (state + 1)
AreOffTo-skip classes states class state to none q = ((λ there. let both = (to q).0 there in (omega (arith, both.0), both.1)), (λ both. back (cases_lt q state) both.0 both.1))
  where
    back : (q < state) ⊎ (state ≤ q) → q < state + 1 → class_of classes q ≢ class → Contains states q
    back (inl less) within other = (to q).1 (less, other)
    back (inr more) within other = let is : q ≡ state = omega arith in absurd (other (ap (class_of classes) is ∙ none))
