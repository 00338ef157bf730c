-- The letters of the images of the letters of a word, one after another, where all images have one length.
use Rattle.std.proofs.Common.{◌≡◌, ℕ, zero, suc, ◌+◌, ◌*◌, ◌<◌, List, [], ◌∷◌, ◌++◌, length, ℤ, Some, refl, ap, ◌∙◌, arith}
use Rattle.std.specs.Prelude.{slice_get}
use Rattle.std.specs.List.{AllByRecursion}
use Rattle.std.proofs.lemmas.List.{length-append}
use Rattle.morph_words.specs.Rules.{Rules}
use Rattle.morph_words.specs.Images.{applied, image}
use Rattle.morph_words.specs.Uniform.{AreUniform, HasRule}

-- an element of the first of two lists, and of the second
pub slice_get-before : {X : Type 0} (xs ys : List X) (n : ℕ) → n < length xs → slice_get (xs ++ ys) n ≡ slice_get xs n
slice_get-before [] ys n within = absurd (omega (arith, within))
slice_get-before (x ∷ xs) ys zero within = refl
slice_get-before (x ∷ xs) ys (suc n) within = slice_get-before xs ys n (omega (arith, within))

pub slice_get-suffix : {X : Type 0} (xs ys : List X) (m n : ℕ) → m ≡ length xs + n → slice_get (xs ++ ys) m ≡ slice_get ys n
slice_get-suffix [] ys m n is = ap (slice_get ys) (omega (arith, is))
slice_get-suffix (x ∷ xs) ys zero n is = absurd (omega (arith, is))
slice_get-suffix (x ∷ xs) ys (suc m) n is = slice_get-suffix xs ys m n (omega (arith, is))

module _ (rules : Rules) (k : ℕ) (uniform : AreUniform rules k) where
  -- the letter at a place of the image of a letter
  pub slice_get-applied : (word : List ℤ) (q r : ℕ) (letter : ℤ) → AllByRecursion (HasRule rules) word → slice_get word q ≡ Some letter → r < k → slice_get (applied rules word) (q * k + r) ≡ slice_get (image rules letter) r
  slice_get-applied [] q r letter ruled is small = absurd cc
  slice_get-applied (a ∷ word) zero r letter ruled is small =
      let same : a ≡ letter = cc in
      ap (slice_get (image rules a ++ applied rules word)) (let at : 0 * k + r ≡ r = omega arith in at)
      ∙ slice_get-before (image rules a) (applied rules word) r (omega (arith, uniform a ruled.0, small))
      ∙ ap (λ b. slice_get (image rules b) r) same
  slice_get-applied (a ∷ word) (suc q) r letter ruled is small =
      slice_get-suffix (image rules a) (applied rules word) (suc q * k + r) (q * k + r) (omega (arith, uniform a ruled.0))
      ∙ slice_get-applied word q r letter ruled.1 is small

  -- how long the images are together
  pub length-applied : (word : List ℤ) → AllByRecursion (HasRule rules) word → length (applied rules word) ≡ length word * k
  length-applied [] ruled = omega arith
  length-applied (a ∷ word) ruled = length-append (image rules a) (applied rules word) ∙ omega (arith, uniform a ruled.0, length-applied word ruled.1)
