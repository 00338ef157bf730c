-- The letters of states, and their classes.
use Rattle.std.proofs.Common.{◌≡◌, ℕ, ℤ, zero, suc, ◌+◌, ◌<◌, ◌≤◌, ◌<ℤ◌, true, List, [], ◌∷◌, ◌++◌, length, map, get_or, take, Option, None, Some, ◌⊎◌, inl, inr, refl, sym, ap, ◌∙◌, subst, arith}
use Rattle.std.specs.List.{All, AllByRecursion, Contains, dedup, flat_map}
use Rattle.std.specs.List.Sorted.{IsPermutation, IsSorted, IsStrictlySortedBy}
use Rattle.std.specs.Option.{option_to_list}
use Rattle.std.specs.Ordering.{int_cmp, int_eq}
use Rattle.std.specs.Cmp.{int_cmp_total}
use Rattle.std.specs.declared.cmp.Ordering.TheVariants.{Less}
use Rattle.std.proofs.lemmas.Bool.{cases_lt}
use Rattle.std.proofs.lemmas.Bool.Decides.{Decides-int_eq}
use Rattle.std.proofs.lemmas.Cmp.{int_eq_equiv, int_ranked}
use Rattle.std.proofs.lemmas.List.{append-nil, map-append, get_or_past, get_or_push, get_or_append_left, length_push, take_more}
use Rattle.std.proofs.lemmas.List.Concat.{flat_map-append}
use Rattle.std.proofs.lemmas.List.Elements.{All-nil, All-push}
use Rattle.std.proofs.lemmas.List.Kept.{AllPairs-cons, Contains-dedup, Contains-from_dedup, IsStrictlySortedBy-dedup}
use Rattle.std.proofs.lemmas.List.Sorted.{Contains-permutation, IsPermutation-sym}
use Rattle.digit_tuple.proofs.MemberLemmas.{Contains-flat_map, Contains-from_flat_map, Contains-head}
use Rattle.digit_tuple.specs.Sets.{IsAscending}
use Rattle.residual_classes.specs.Classes.{class_of}
use Rattle.word_output.specs.LetterFunctions.{letter_in}
use Rattle.word_output.specs.StateLetters.{AreLettersOf, letter_at}

-- the letters that states have, in the order of the states
abbrev pub letters_there : List (Option ℤ) → List ℤ
letters_there letters = flat_map option_to_list letters

-- those of one state more
pub letters_there_more : (letters : List (Option ℤ)) (count : ℕ) → count < length letters → letters_there (take (count + 1) letters) ≡ letters_there (take count letters) ++ option_to_list (get_or letters count None)
letters_there_more letters count inside =
    ap letters_there (take_more letters count None inside)
    ∙ flat_map-append option_to_list (take count letters) (get_or letters count None ∷ [])
    ∙ ap (λ xs. letters_there (take count letters) ++ xs) (append-nil (option_to_list (get_or letters count None)))

all_from_each : (P : ℤ → Type 0) (xs : List ℤ) → AllByRecursion P xs → All P xs
all_from_each P [] each k d within = absurd (omega arith)
all_from_each P (x ∷ xs) each zero d within = each.0
all_from_each P (x ∷ xs) each (suc k) d within = all_from_each P xs each.1 k d (omega (arith, within))

IsAscending-strict : (xs : List ℤ) → IsStrictlySortedBy int_cmp xs → IsAscending xs
unfolding IsStrictlySortedBy
IsAscending-strict [] strict = λ i j d before within. absurd (omega arith)
IsAscending-strict (x ∷ xs) strict =
    AllPairs-cons (λ a b. a <ℤ b) x xs (λ k d within. int_ranked x (get_or xs k d) Less (sym (all_from_each (λ y. int_cmp x y ≡ Less) xs strict.0 k d within))) (IsAscending-strict xs strict.1)

same_letter : (x y : ℤ) → int_eq x y ≡ true → x ≡ y
same_letter x y same = (Decides-int_eq x y).0 same

Contains-there : (letters : List (Option ℤ)) (b : ℤ) → Contains letters (Some b) → Contains (letters_there letters) b
Contains-there letters b there = Contains-flat_map option_to_list letters (Some b) b there (Contains-head b [])

Contains-from_there : (letters : List (Option ℤ)) (b : ℤ) → Contains (letters_there letters) b → Contains letters (Some b)
Contains-from_there letters b there = let found = Contains-from_flat_map option_to_list letters b there in by found.0 found.1 found.2
  where
    by : (o : Option ℤ) → Contains letters o → Contains (option_to_list o) b → Contains letters (Some b)
    by None at none = absurd (omega (arith, none.1))
    by (Some x) at one = subst (λ y. Contains letters (Some y)) (only one.0 one.1 one.2) at
      where
        only : (k : ℕ) → k < 1 → get_or (x ∷ []) k b ≡ b → x ≡ b
        only zero inside is = is
        only (suc k) inside is = absurd (omega (arith, inside))

-- sorted, each once
pub AreLettersOf-sorted : (letters : List (Option ℤ)) (found sorted left : List ℤ) → found ≡ letters_there letters → IsPermutation found sorted → IsSorted int_cmp sorted → left ≡ dedup int_eq sorted → AreLettersOf letters left
AreLettersOf-sorted letters found sorted left all moved up is = record {
  ascending = subst IsAscending (sym is) (IsAscending-strict (dedup int_eq sorted) (IsStrictlySortedBy-dedup int_cmp_total (λ x y. refl) sorted up));
  members = λ b. (
    (λ there. Contains-from_there letters b (subst (λ xs. Contains xs b) all (Contains-permutation sorted found b (IsPermutation-sym found sorted moved) (Contains-from_dedup int_eq sorted b (subst (λ xs. Contains xs b) is there))))),
    (λ there. subst (λ xs. Contains xs b) (sym is) (Contains-dedup int_eq_equiv same_letter sorted b (Contains-permutation found sorted b moved (subst (λ xs. Contains xs b) (sym all) (Contains-there letters b there))))),
  );
}

-- the first so many states have these classes
pub record AreClassesTo (letters : List (Option ℤ)) (found : List ℤ) (classes : List ℕ) (count : ℕ) : Type 0 where
  pub count_is : length classes ≡ count
  pub within : All (λ class. class ≤ length found) classes
  pub are : (q : ℕ) → q < count → letter_in found (class_of classes q) ≡ letter_at letters q

module _ (letters : List (Option ℤ)) (found : List ℤ) where
  pub AreClassesTo-none : AreClassesTo letters found [] 0
  AreClassesTo-none = record { count_is = refl; within = All-nil (λ class. class ≤ length found); are = λ q inside. absurd (omega (arith, inside)) }

  pub AreClassesTo-more : (classes new : List ℕ) (count class : ℕ) → AreClassesTo letters found classes count → new ≡ classes ++ class ∷ [] → class ≤ length found → letter_in found class ≡ letter_at letters count
      → AreClassesTo letters found new (count + 1)
  AreClassesTo-more classes new count class before pushed small is = subst (λ cs. AreClassesTo letters found cs (count + 1)) (sym pushed) (record {
    count_is = length_push classes class ∙ ap (λ n. n + 1) before.count_is;
    within = All-push (λ c. c ≤ length found) classes class before.within small;
    are = λ q inside. by q inside (cases_lt q count);
  })
    where
      by : (q : ℕ) → q < count + 1 → (q < count) ⊎ (count ≤ q) → letter_in found (class_of (classes ++ class ∷ []) q) ≡ letter_at letters q
      by q inside (inl less) = ap (letter_in found) (get_or_append_left classes (class ∷ []) 0 q (omega (arith, before.count_is, less))) ∙ before.are q less
      by q inside (inr more) =
          let same : count ≡ q = omega (arith, inside, more) in
          ap (letter_in found) (get_or_push classes class 0 q (before.count_is ∙ same)) ∙ is ∙ ap (letter_at letters) same

  pub AreClassesTo-all : (classes : List ℕ) (count : ℕ) → length letters ≤ count → AreClassesTo letters found classes count → count ≤ length letters → (q : ℕ) → letter_in found (class_of classes q) ≡ letter_at letters q
  AreClassesTo-all classes count whole done few q = by (cases_lt q count)
    where
      by : (q < count) ⊎ (count ≤ q) → letter_in found (class_of classes q) ≡ letter_at letters q
      by (inl less) = done.are q less
      by (inr past) = ap (letter_in found) (get_or_past classes q 0 (omega (arith, done.count_is, past))) ∙ sym (get_or_past letters q None (omega (arith, past, whole)))

-- one key more
pub letters_more : (g : List ℕ → Option ℤ) (keys : List (List ℕ)) (n : ℕ) (new old : List (Option ℤ)) (letter : Option ℤ) → n < length keys → new ≡ old ++ letter ∷ [] → old ≡ map g (take n keys) → letter ≡ g (get_or keys n [])
    → new ≡ map g (take (n + 1) keys)
letters_more g keys n new old letter inside pushed before is =
    pushed ∙ ap (λ ls. ls ++ letter ∷ []) before ∙ ap (λ o. map g (take n keys) ++ o ∷ []) is
    ∙ sym (ap (map g) (take_more keys n [] inside) ∙ map-append g (take n keys) (get_or keys n [] ∷ []))
