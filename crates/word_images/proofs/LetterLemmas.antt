-- The letters of a word that lack rules, and the letters that are in images.
use Rattle.std.proofs.Common.{Bor, ◌≡◌, ℕ, ◌+◌, ◌<◌, ◌≤◌, List, [], ◌∷◌, ◌++◌, length, map, get_or, take, ℤ, pos, ◌≤ℤ◌, ◌⊎◌, inl, inr, Bool, Option, None, Some, refl, sym, ap, ◌∙◌, subst, arith}
use Rattle.std.specs.List.{Contains, dedup}
use Rattle.std.specs.List.Sorted.{IsPermutation, IsSorted}
use Rattle.std.specs.Option.{option_copied}
use Rattle.std.specs.Prelude.{is_some}
use Rattle.std.specs.Ordering.{int_cmp, int_eq}
use Rattle.std.proofs.lemmas.Bool.{cases_lt}
use Rattle.std.proofs.lemmas.Int.{ints}
use Rattle.std.proofs.lemmas.List.{append-nil, get_or_default, take_more}
use Rattle.std.proofs.lemmas.List.Concat.{flat_map-append}
use Rattle.std.proofs.lemmas.Option.{same_Some}
use Rattle.digit_tuple.proofs.MemberLemmas.{Contains-flat_map, Contains-from_flat_map, Contains-from_map, Contains-map}
use Rattle.morph_words.specs.Rules.{Rules, has, image_of}
use Rattle.morph_words.specs.Images.{applied, image}
use Rattle.morph_words.specs.Uniform.{HasRule, IsLeast}
use Rattle.word_output.specs.StateLetters.{AreLettersOf}
use Rattle.word_output.specs.Words.{IsWordValue, WordValue}
use Rattle.word_output.proofs.StateLetterLemmas.{AreLettersOf-sorted, letters_there}
use Rattle.word_images.specs.ImageWords.{AreOutputs, IsMissing, IsOutput}

module _ (rules : Rules) (word : WordValue) where
  -- a letter that occurs is one of those before, or this one, or one after
  place_of : (letter : ℤ) → Contains word.function.letters letter → (j : ℕ) × (j < length word.function.letters) × (get_or word.function.letters j (pos 0) ≡ letter)
  place_of letter at = (at.0, at.1, get_or_default word.function.letters at.0 (pos 0) letter at.1 ∙ at.2)

  -- the first letter that lacks a rule is the least
  pub first_missing : (n : ℕ) → IsWordValue word → n < length word.function.letters → ((i : ℕ) → i < n → HasRule rules (get_or word.function.letters i (pos 0))) → ¬ HasRule rules (get_or word.function.letters n (pos 0))
      → IsLeast (IsMissing rules word) (get_or word.function.letters n (pos 0))
  first_missing n is within before lacks = record {
    holds = record { occurs = (n, within, get_or_default word.function.letters n _ (pos 0) within); lacks = lacks };
    least = λ other missing. by other missing (place_of other missing.occurs);
  }
    where
      by : (other : ℤ) → IsMissing rules word other → (j : ℕ) × (j < length word.function.letters) × (get_or word.function.letters j (pos 0) ≡ other) → get_or word.function.letters n (pos 0) ≤ℤ other
      by other missing (j, inside, at) = order (cases_lt j n) (cases_lt n j)
        where
          order : (j < n) ⊎ (n ≤ j) → (n < j) ⊎ (j ≤ n) → get_or word.function.letters n (pos 0) ≤ℤ other
          order (inl early) later = absurd (missing.lacks (subst (HasRule rules) at (before j early)))
          order (inr late) (inl less) = omega (arith, ints, is.function.ascending n j (pos 0) less inside, at)
          order (inr late) (inr same) = omega (arith, ints, ap (λ m. get_or word.function.letters m (pos 0)) (let here : n ≡ j = omega (arith, late, same) in here), at)

  -- where all have rules, none lacks one
  pub none_missing : (n : ℕ) → length word.function.letters ≤ n → ((i : ℕ) → i < n → HasRule rules (get_or word.function.letters i (pos 0))) → (letter : ℤ) → ¬ IsMissing rules word letter
  none_missing n whole all letter missing = let at = place_of letter missing.occurs in missing.lacks (subst (HasRule rules) at.2 (all at.0 (omega (arith, at.1, whole))))

-- the images of one letter more
pub applied_more : (rules : Rules) (letters : List ℤ) (n : ℕ) → n < length letters → applied rules (take (n + 1) letters) ≡ applied rules (take n letters) ++ image rules (get_or letters n (pos 0))
applied_more rules letters n within =
    ap (applied rules) (take_more letters n (pos 0) within) ∙ flat_map-append (image rules) (take n letters) (get_or letters n (pos 0) ∷ [])
    ∙ ap (λ xs. applied rules (take n letters) ++ xs) (append-nil (image rules (get_or letters n (pos 0))))

there_of_some : (xs : List ℤ) → xs ≡ letters_there (map (λ x. Some x) xs)
there_of_some [] = refl
there_of_some (x ∷ xs) = ap (λ ys. x ∷ ys) (there_of_some xs)

-- sorted, each once
pub outputs_sorted : (rules : Rules) (word : WordValue) (found sorted left : List ℤ) → found ≡ applied rules word.function.letters → IsPermutation found sorted → IsSorted int_cmp sorted → left ≡ dedup int_eq sorted → AreOutputs rules word left
outputs_sorted rules word found sorted left all moved up is = record {
  ascending = are.ascending;
  members = λ b. (
    (λ at. let some = Contains-from_map (λ x. Some x) found (Some b) ((are.members b).0 at) in from b (subst (Contains found) (same_Some some.0 b some.2) some.1)),
    (λ output. (are.members b).1 (Contains-map (λ x. Some x) found b (subst (λ xs. Contains xs b) (sym all) (Contains-flat_map (image rules) word.function.letters output.from b output.occurs output.within)))),
  );
}
  where
    are : AreLettersOf (map (λ x. Some x) found) left
    are = AreLettersOf-sorted (map (λ x. Some x) found) found sorted left (there_of_some found) moved up is

    from : (b : ℤ) → Contains found b → IsOutput rules word b
    from b at = let there = Contains-from_flat_map (image rules) word.function.letters b (subst (λ xs. Contains xs b) all at) in record { from = there.0; occurs = there.1; within = there.2 }

-- the same of a list that is that of the letters
pub first_missing_in : (rules : Rules) (word : WordValue) (letters : List ℤ) (n : ℕ) → letters ≡ word.function.letters → IsWordValue word → n < length letters → ((i : ℕ) → i < n → HasRule rules (get_or letters i (pos 0))) → ¬ HasRule rules (get_or letters n (pos 0))
    → IsLeast (IsMissing rules word) (get_or letters n (pos 0))
first_missing_in rules word letters n are is =
    subst (λ (ls : List ℤ). n < length ls → ((i : ℕ) → i < n → HasRule rules (get_or ls i (pos 0))) → ¬ HasRule rules (get_or ls n (pos 0)) → IsLeast (IsMissing rules word) (get_or ls n (pos 0))) (sym are) (first_missing rules word n is)

pub none_missing_in : (rules : Rules) (word : WordValue) (letters : List ℤ) (n : ℕ) → letters ≡ word.function.letters → length letters ≤ n → ((i : ℕ) → i < n → HasRule rules (get_or letters i (pos 0))) → (letter : ℤ) → ¬ IsMissing rules word letter
none_missing_in rules word letters n are =
    subst (λ (ls : List ℤ). length ls ≤ n → ((i : ℕ) → i < n → HasRule rules (get_or ls i (pos 0))) → (letter : ℤ) → ¬ IsMissing rules word letter) (sym are) (none_missing rules word n)

-- an image that is found says that the letter has a rule
copied_there : {X : Type 0} (o : Option (Bor X)) → is_some (option_copied o) ≡ is_some o
copied_there None = refl
copied_there (Some x) = refl

pub copied_has : (o : Option (Bor (List ℤ))) (rules : Rules) (z letter : ℤ) (b : Bool) → option_copied o ≡ image_of rules z → z ≡ letter → is_some o ≡ b → has rules letter ≡ b
copied_has o rules z letter b copied same is = sym (ap is_some (copied ∙ ap (image_of rules) same)) ∙ copied_there o ∙ is

-- one letter more that has a rule
pub ruled_more : (rules : Rules) (letters : List ℤ) (n : ℕ) → ((i : ℕ) → i < n → HasRule rules (get_or letters i (pos 0))) → HasRule rules (get_or letters n (pos 0)) → (i : ℕ) → i < n + 1 → HasRule rules (get_or letters i (pos 0))
ruled_more rules letters n before here i less = by (cases_lt i n)
  where
    by : (i < n) ⊎ (n ≤ i) → HasRule rules (get_or letters i (pos 0))
    by (inl early) = before i early
    by (inr late) = subst (λ m. HasRule rules (get_or letters m (pos 0))) (let same : n ≡ i = omega (arith, less, late) in same) here
