-- The letter of the image at k*q + r is that at place r of the image of the word's letter at q.
use Rattle.std.proofs.Common.{◌≡◌, ℕ, zero, suc, ◌+◌, ◌*◌, ◌/◌, ◌%◌, mod-lt, ◌<◌, ◌≤◌, List, [], ◌∷◌, ◌++◌, length, get_or, ℤ, pos, Option, None, Some, ◌⊎◌, inl, inr, refl, sym, ap, ◌∙◌, subst, arith}
use Rattle.std.specs.Prelude.{IsSome, slice_get, unwrap_or}
use Rattle.std.specs.List.{AllByRecursion}
use Rattle.std.proofs.lemmas.Bool.{cases_lt}
use Rattle.std.proofs.lemmas.List.{get_or_append_left, get_or_push, length_push}
use Rattle.std.proofs.lemmas.Nat.{div-add-mod', div-mul-add, mod-mul-add, mul-le}
use Rattle.std.proofs.lemmas.Option.{same_Some, slice_get-get_or, slice_get_within}
use Rattle.morph_words.specs.Rules.{Rules, image_of}
use Rattle.morph_words.specs.Images.{applied, image}
use Rattle.morph_words.specs.ImageLetters.{IsImageLetter, IsJoinedLetter}
use Rattle.morph_words.specs.Uniform.{AreUniform, HasRule}
use Rattle.morph_words.proofs.AppliedLemmas.{length-applied, slice_get-applied}

-- a letter whose image is not empty has a rule
pub ruled_image : (rules : Rules) (a : ℤ) (r : ℕ) (b : ℤ) → slice_get (image rules a) r ≡ Some b → HasRule rules a
ruled_image rules a r b is = by (image_of rules a) is
  where
    by : (o : Option (List ℤ)) → slice_get (unwrap_or o []) r ≡ Some b → IsSome o
    by None none = absurd cc
    by (Some xs) some = refl

-- images have one length, where a letter has one
pub one_length : (rules : Rules) (j k : ℕ) (a : ℤ) → AreUniform rules j → AreUniform rules k → HasRule rules a → j ≡ k
one_length rules j k a first second ruled = sym (first a ruled) ∙ second a ruled

module _ (rules : Rules) (LetterOf : ℕ → ℤ → Type 0) (one : (place : ℕ) (a b : ℤ) → LetterOf place a → LetterOf place b → a ≡ b) (n : ℕ) (a b : ℤ) (h : IsImageLetter rules LetterOf n a) (g : IsImageLetter rules LetterOf n b) where
  lengths : h.k ≡ g.k
  lengths = one_length rules h.k g.k h.of_word h.uniform g.uniform (ruled_image rules h.of_word h.r a h.letter_is)

  small : h.r < g.k
  small = omega (arith, h.small, lengths)

  places : h.q * g.k + h.r ≡ g.q * g.k + g.r
  places = ap (λ k. h.q * k + h.r) (sym lengths) ∙ sym h.place_is ∙ g.place_is

  qs : h.q ≡ g.q
  qs = sym (div-mul-add h.q g.k h.r small) ∙ ap (λ m. m / g.k) places ∙ div-mul-add g.q g.k g.r g.small

  rs : h.r ≡ g.r
  rs = sym (mod-mul-add h.q g.k h.r small) ∙ ap (λ m. m % g.k) places ∙ mod-mul-add g.q g.k g.r g.small

  letters : h.of_word ≡ g.of_word
  letters = one g.q h.of_word g.of_word (subst (λ m. LetterOf m h.of_word) qs h.has) g.has

  -- where a word has one letter at most at each place, so has its image
  pub one_image_letter : a ≡ b
  one_image_letter = same_Some a b (sym h.letter_is ∙ (λ i. slice_get (image rules (letters i)) (rs i)) ∙ g.letter_is)

-- one letter at each place, and each has a rule
pub record IsRuledWord (rules : Rules) (LetterOf : ℕ → ℤ → Type 0) : Type 0 where
  pub some : (place : ℕ) → (letter : ℤ) × LetterOf place letter
  pub one : (place : ℕ) (a b : ℤ) → LetterOf place a → LetterOf place b → a ≡ b
  pub ruled : (place : ℕ) (letter : ℤ) → LetterOf place letter → HasRule rules letter

module _ (rules : Rules) (LetterOf : ℕ → ℤ → Type 0) (k : ℕ) (uniform : AreUniform rules k) (word : IsRuledWord rules LetterOf) where
  -- the first so many letters of the word
  prefix : (n : ℕ) → (letters : List ℤ) × (length letters ≡ n) × ((i : ℕ) → i < n → LetterOf i (get_or letters i (pos 0)))
  prefix zero = ([], refl, λ i less. absurd (omega (arith, less)))
  prefix (suc n) =
      let before = prefix n in
      let last = word.some n in
      (before.0 ++ last.0 ∷ [], length_push before.0 last.0 ∙ omega (arith, before.1), λ i less. at before last i less (cases_lt i n))
    where
      at : (before : (letters : List ℤ) × (length letters ≡ n) × ((i : ℕ) → i < n → LetterOf i (get_or letters i (pos 0)))) (last : (a : ℤ) × LetterOf n a) (i : ℕ) → i < suc n → (i < n) ⊎ (n ≤ i)
          → LetterOf i (get_or (before.0 ++ last.0 ∷ []) i (pos 0))
      at before last i less (inl early) = subst (LetterOf i) (sym (get_or_append_left before.0 (last.0 ∷ []) (pos 0) i (omega (arith, before.1, early)))) (before.2 i early)
      at before last i less (inr late) =
          let same : n ≡ i = omega (arith, less, late) in
          subst (LetterOf i) (sym (get_or_push before.0 last.0 (pos 0) i (before.1 ∙ same))) (subst (λ m. LetterOf m last.0) same last.1)

  -- letters of the word have rules
  all_ruled : (letters : List ℤ) (from : ℕ) → ((i : ℕ) → i < length letters → LetterOf (from + i) (get_or letters i (pos 0))) → AllByRecursion (HasRule rules) letters
  all_ruled [] from are = tt
  all_ruled (a ∷ letters) from are =
      (word.ruled (from + 0) a (are 0 (omega arith)), all_ruled letters (suc from) (λ i less. subst (λ m. LetterOf m (get_or letters i (pos 0))) (let at : from + suc i ≡ suc from + i = omega arith in at) (are (suc i) (omega (arith, less)))))

  prefix_ruled : (letters : List ℤ) → ((i : ℕ) → i < length letters → LetterOf i (get_or letters i (pos 0))) → AllByRecursion (HasRule rules) letters
  prefix_ruled letters are = all_ruled letters 0 (λ i less. subst (λ m. LetterOf m (get_or letters i (pos 0))) (let at : i ≡ 0 + i = omega arith in at) (are i less))

  -- a letter of the image is one of the images
  pub joined : (n : ℕ) (b : ℤ) → IsImageLetter rules LetterOf n b → IsJoinedLetter rules LetterOf n b
  joined n b h = record {
    prefix = first.0;
    letters = λ i less. first.2 i (omega (arith, less, first.1));
    letter_is = ap (slice_get (applied rules first.0)) (h.place_is ∙ ap (λ m. h.q * m + h.r) lengths)
        ∙ slice_get-applied rules k uniform first.0 h.q h.r (get_or first.0 h.q (pos 0)) (prefix_ruled first.0 (λ i less. first.2 i (omega (arith, less, first.1)))) (slice_get-get_or first.0 h.q (pos 0) (omega (arith, first.1))) (omega (arith, h.small, lengths))
        ∙ ap (λ a. slice_get (image rules a) h.r) (word.one h.q (get_or first.0 h.q (pos 0)) h.of_word (first.2 h.q (omega arith)) h.has)
        ∙ h.letter_is;
  }
    where
      first : (letters : List ℤ) × (length letters ≡ suc h.q) × ((i : ℕ) → i < suc h.q → LetterOf i (get_or letters i (pos 0)))
      first = prefix (suc h.q)

      lengths : h.k ≡ k
      lengths = one_length rules h.k k h.of_word h.uniform uniform (word.ruled h.q h.of_word h.has)

  -- and each letter of the images is so
  pub from_joined : (n : ℕ) (b : ℤ) → IsJoinedLetter rules LetterOf n b → IsImageLetter rules LetterOf n b
  from_joined n b h = record {
    k = k;
    uniform = uniform;
    q = q;
    r = r;
    small = small;
    place_is = place;
    of_word = get_or h.prefix q (pos 0);
    has = h.letters q inside;
    letter_is = sym (slice_get-applied rules k uniform h.prefix q r (get_or h.prefix q (pos 0)) all (slice_get-get_or h.prefix q (pos 0) inside) small) ∙ ap (slice_get (applied rules h.prefix)) (sym place) ∙ h.letter_is;
  }
    where
      q : ℕ
      q = n / k

      r : ℕ
      r = n % k

      all : AllByRecursion (HasRule rules) h.prefix
      all = prefix_ruled h.prefix h.letters

      within : n < length h.prefix * k
      within = omega (arith, slice_get_within (applied rules h.prefix) n b h.letter_is, length-applied rules k uniform h.prefix all)

      positive : 0 < k
      positive = by k within
        where
          by : (m : ℕ) → n < length h.prefix * m → 0 < m
          by zero less = absurd (omega (arith, less))
          by (suc m) less = omega arith

      small : r < k
      small = mod-lt n positive

      place : n ≡ q * k + r
      place = sym (div-add-mod' n k)

      inside : q < length h.prefix
      inside = by (cases_lt q (length h.prefix))
        where
          by : (q < length h.prefix) ⊎ (length h.prefix ≤ q) → q < length h.prefix
          by (inl less) = less
          by (inr past) = absurd (omega (arith, within, place, mul-le (length h.prefix) k q k past (omega arith)))
