-- The words that a morphism makes of the word 0, one after another, and the letter of the fixed point at each place.
use Rattle.std.proofs.Common.{◌≡◌, ℕ, zero, suc, ◌+◌, ◌-◌, ◌*◌, ◌^◌, ◌<◌, ◌≤◌, ℤ, pos, List, [], ◌∷◌, ◌++◌, length, get_or, Option, Some, ◌⊎◌, inl, inr, refl, sym, ap, ◌∙◌, arith}
use Rattle.std.specs.Prelude.{slice_get, unwrap_or}
use Rattle.std.specs.List.{AllByRecursion}
use Rattle.std.proofs.Math.Nat.{add-mul, pow-suc, pow-zero}
use Rattle.std.proofs.lemmas.Bool.{cases_lt, cases_order}
use Rattle.std.proofs.lemmas.Grind.{flat_map-append}
use Rattle.std.proofs.lemmas.List.{length-append}
use Rattle.std.proofs.lemmas.Option.{same_Some, slice_get-get_or, slice_get_within}
use Rattle.digit_tuple.specs.Letters.{IsWord}
use Rattle.base_k.specs.Positional.{value}
use Rattle.morph_words.specs.Rules.{Rules}
use Rattle.digit_tuple.proofs.AllLemmas.{all_append}
use Rattle.morph_words.specs.Images.{applied, image}
use Rattle.morph_words.specs.Uniform.{HasRule}
use Rattle.morph_words.specs.FixedPoint.{IsLetterAt, power}
use Rattle.fixed_points.specs.LetterGraph.{letter_by, reached}
use Rattle.fixed_points.specs.LetterGraphLaws.{digit_ruled, zero_ruled}
use Rattle.morph_words.specs.MorphismKinds.{BeginsItself, HasFixedPoint}
use Rattle.morph_words.proofs.AppliedLemmas.{slice_get-applied}
use Rattle.fixed_points.proofs.ListLemmas.{AllByRecursion-each, slice_get-stays}

-- a place is in one word alone
pub one_letter : (rules : Rules) (place : ℕ) (letter other : ℤ) → IsLetterAt rules place letter → IsLetterAt rules place other → letter ≡ other
one_letter rules place letter other one two = by (cases_order one.times two.times)
  where
    by : (one.times ≡ two.times) ⊎ ((one.times < two.times) ⊎ (two.times < one.times)) → letter ≡ other
    by (inl same) = same_Some letter other (sym one.letter_is ∙ ap (λ t. slice_get (power rules t) place) same ∙ two.letter_is)
    by (inr (inl less)) = absurd (omega (arith, two.first one.times less, slice_get_within (power rules one.times) place letter one.letter_is))
    by (inr (inr more)) = absurd (omega (arith, one.first two.times more, slice_get_within (power rules two.times) place other two.letter_is))

module _ (rules : Rules) (begins : BeginsItself rules) where
  image_zero : image rules (pos 0) ≡ pos 0 ∷ begins.0
  image_zero = ap (λ (o : Option (List ℤ)). unwrap_or o []) begins.1

  -- each word begins the next one
  pub grows : (t : ℕ) → (rest : List ℤ) × (power rules (suc t) ≡ power rules t ++ rest)
  grows zero = (begins.0 ++ [], ap (λ (w : List ℤ). w ++ []) image_zero)
  grows (suc t) =
      let before = grows t in
      (applied rules before.0, ap (applied rules) before.1 ∙ flat_map-append (image rules) (power rules t) before.0)

  -- a letter stays at its place
  pub stays : (t more place : ℕ) (letter : ℤ) → slice_get (power rules t) place ≡ Some letter → slice_get (power rules (t + more)) place ≡ Some letter
  stays t zero place letter is = ap (λ n. slice_get (power rules n) place) (let same : t + 0 ≡ t = omega arith in same) ∙ is
  stays t (suc more) place letter is =
      let next = grows (t + more) in
      ap (λ n. slice_get (power rules n) place) (let same : t + suc more ≡ suc (t + more) = omega arith in same)
      ∙ ap (λ (w : List ℤ). slice_get w place) next.1
      ∙ slice_get-stays (power rules (t + more)) next.0 place letter (stays t more place letter is)

  -- words do not become shorter
  longer : (t more : ℕ) → length (power rules t) ≤ length (power rules (t + more))
  longer t zero = let same : length (power rules (t + 0)) ≡ length (power rules t) = ap (λ n. length (power rules n)) (let at : t + 0 ≡ t = omega arith in at) in omega (arith, same)
  longer t (suc more) =
      let next = grows (t + more) in
      let same : length (power rules (t + suc more)) ≡ length (power rules (suc (t + more))) = ap (λ n. length (power rules n)) (let at : t + suc more ≡ suc (t + more) = omega arith in at) in
      let size : length (power rules (suc (t + more))) ≡ length (power rules (t + more) ++ next.0) = ap length next.1 in
      omega (arith, same, size, length-append (power rules (t + more)) next.0, longer t more)

  -- the first word that is longer than a place
  record IsFirst (place t : ℕ) : Type 0 where
    times : ℕ
    before : times ≤ t
    inside : place < length (power rules times)
    first : (fewer : ℕ) → fewer < times → length (power rules fewer) ≤ place

  first_of : (place t : ℕ) → place < length (power rules t) → IsFirst place t
  first_of place zero within = record { times = 0; before = omega arith; inside = within; first = λ fewer less. absurd (omega (arith, less)) }
  first_of place (suc t) within = by (λ less. first_of place t less) (cases_lt place (length (power rules t)))
    where
      by : (place < length (power rules t) → IsFirst place t) → (place < length (power rules t)) ⊎ (length (power rules t) ≤ place) → IsFirst place (suc t)
      by earlier (inl less) = let rest = earlier less in record { times = rest.times; before = omega (arith, rest.before); inside = rest.inside; first = rest.first }
      by earlier (inr past) = record { times = suc t; before = omega arith; inside = within; first = λ fewer less. short fewer less (longer fewer (t - fewer)) }
        where
          short : (fewer : ℕ) → fewer < suc t → length (power rules fewer) ≤ length (power rules (fewer + (t - fewer))) → length (power rules fewer) ≤ place
          short fewer less up =
              let same : length (power rules (fewer + (t - fewer))) ≡ length (power rules t) = ap (λ n. length (power rules n)) (let at : fewer + (t - fewer) ≡ t = omega (arith, less) in at) in
              omega (arith, up, same, past)

  -- each letter of such a word is that of the fixed point at its place
  pub letter_at : (t place : ℕ) (letter : ℤ) → slice_get (power rules t) place ≡ Some letter → IsLetterAt rules place letter
  letter_at t place letter is = from (first_of place t (slice_get_within (power rules t) place letter is))
    where
      from : IsFirst place t → IsLetterAt rules place letter
      from found =
          let there : slice_get (power rules found.times) place ≡ Some (get_or (power rules found.times) place letter) = slice_get-get_or (power rules found.times) place letter found.inside in
          let later : slice_get (power rules (found.times + (t - found.times))) place ≡ Some (get_or (power rules found.times) place letter) = stays found.times (t - found.times) place (get_or (power rules found.times) place letter) there in
          let time : found.times + (t - found.times) ≡ t = omega (arith, found.before) in
          let same : get_or (power rules found.times) place letter ≡ letter = same_Some (get_or (power rules found.times) place letter) letter (sym later ∙ ap (λ n. slice_get (power rules n) place) time ∙ is) in
          record { times = found.times; first = found.first; letter_is = there ∙ ap Some same }

module _ (rules : Rules) (k : ℕ) (has : HasFixedPoint rules k) where
  -- the letter that a digit leads to is in the image
  by_digit : (letter : ℤ) (digit : ℕ) → HasRule rules letter → digit < k → slice_get (image rules letter) digit ≡ Some (letter_by rules letter digit)
  by_digit letter digit ruled small = slice_get-get_or (image rules letter) digit (pos 0) (omega (arith, has.uniform letter ruled, small))

  -- the letter that a word leads to has a rule
  pub reached_ruled : (w : List ℕ) (letter : ℤ) → IsWord k w → HasRule rules letter → HasRule rules (reached rules letter w)
  reached_ruled [] letter over ruled = ruled
  reached_ruled (digit ∷ w) letter over ruled = reached_ruled w (letter_by rules letter digit) over.1 (digit_ruled rules k letter digit has ruled over.0)

  applied_ruled : (word : List ℤ) → AllByRecursion (HasRule rules) word → AllByRecursion (HasRule rules) (applied rules word)
  applied_ruled [] ruled = tt
  applied_ruled (a ∷ word) ruled =
      all_append (HasRule rules) (image rules a) (applied rules word)
      (AllByRecursion-each (HasRule rules) (image rules a) (λ letter at. has.closed a letter ruled.0 at))
      (applied_ruled word ruled.1)

  -- all letters of the words have rules
  power_ruled : (t : ℕ) → AllByRecursion (HasRule rules) (power rules t)
  power_ruled zero = (zero_ruled rules k has, tt)
  power_ruled (suc t) = applied_ruled (power rules t) (power_ruled t)

  -- where the digits of a word lead from a letter of one of the words
  reached_from : (w : List ℕ) (t q : ℕ) (letter : ℤ) → IsWord k w → HasRule rules letter → slice_get (power rules t) q ≡ Some letter
      → slice_get (power rules (t + length w)) (q * k ^ length w + value k w) ≡ Some (reached rules letter w)
  reached_from [] t q letter over ruled is =
      let time : t + 0 ≡ t = omega arith in
      let unit : q * k ^ 0 ≡ q * 1 = ap (λ n. q * n) (pow-zero k) in
      let place : q * k ^ 0 + 0 ≡ q = omega (arith, unit) in
      ap (λ n. slice_get (power rules n) (q * k ^ 0 + 0)) time ∙ ap (slice_get (power rules t)) place ∙ is
  reached_from (digit ∷ w) t q letter over ruled is =
      let m : ℕ = length w in
      let time : t + suc m ≡ suc t + m = omega arith in
      let power_is : q * k ^ suc m ≡ q * (k ^ m * k) = ap (λ n. q * n) (pow-suc k m) in
      let split : (q * k + digit) * k ^ m ≡ q * k * k ^ m + digit * k ^ m = add-mul (q * k) digit (k ^ m) in
      let place : q * k ^ suc m + (digit * k ^ m + value k w) ≡ (q * k + digit) * k ^ m + value k w = omega (arith, power_is, split) in
      let step : slice_get (power rules (suc t)) (q * k + digit) ≡ Some (letter_by rules letter digit) = slice_get-applied rules k has.uniform (power rules t) q digit letter (power_ruled t) is over.0 ∙ by_digit letter digit ruled over.0 in
      ap (λ n. slice_get (power rules n) (q * k ^ suc m + (digit * k ^ m + value k w))) time
      ∙ ap (slice_get (power rules (suc t + m))) place
      ∙ reached_from w (suc t) (q * k + digit) (letter_by rules letter digit) over.1 (digit_ruled rules k letter digit has ruled over.0) step

  -- the letter of the fixed point at the value of a word is the one that its digits lead to from 0
  pub letter_of_word : (w : List ℕ) → IsWord k w → IsLetterAt rules (value k w) (reached rules (pos 0) w)
  letter_of_word w over =
      letter_at rules has.begins (0 + length w) (value k w) (reached rules (pos 0) w)
      (ap (slice_get (power rules (0 + length w))) (let at : value k w ≡ 0 * k ^ length w + value k w = omega arith in at) ∙ reached_from w 0 0 (pos 0) over (zero_ruled rules k has) refl)

  -- the image of a letter of the fixed point is in it, k times as far
  pub image_letter_at : (place digit : ℕ) (letter other : ℤ) → IsLetterAt rules place letter → digit < k → slice_get (image rules letter) digit ≡ Some other → IsLetterAt rules (place * k + digit) other
  image_letter_at place digit letter other at small is =
      letter_at rules has.begins (suc at.times) (place * k + digit) other (slice_get-applied rules k has.uniform (power rules at.times) place digit letter (power_ruled at.times) at.letter_is small ∙ is)
