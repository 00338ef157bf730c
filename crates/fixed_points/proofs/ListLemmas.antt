-- Elements of lists that are appended.
use Rattle.std.proofs.Common.{◌≡◌, ℕ, suc, List, [], ◌∷◌, ◌++◌, Some, refl, ◌∙◌, arith}
use Rattle.std.specs.Prelude.{slice_get}
use Rattle.std.specs.List.{AllByRecursion, Contains}
use Rattle.std.proofs.lemmas.Option.{slice_get_within}
use Rattle.morph_words.proofs.AppliedLemmas.{slice_get-before}

-- an element that is in the first list is there in both
pub slice_get-stays : {X : Type 0} (xs ys : List X) (n : ℕ) (x : X) → slice_get xs n ≡ Some x → slice_get (xs ++ ys) n ≡ Some x
slice_get-stays xs ys n x is = slice_get-before xs ys n (slice_get_within xs n x is) ∙ is

-- what holds of each element holds of all
pub AllByRecursion-each : {X : Type 0} (P : X → Type 0) (xs : List X) → ((x : X) → Contains xs x → P x) → AllByRecursion P xs
AllByRecursion-each P [] each = tt
AllByRecursion-each P (x ∷ xs) each = (each x (0, omega arith, refl), AllByRecursion-each P xs (λ y at. each y (suc at.0, omega (arith, at.1), at.2)))
