-- All words of a length, from those that are one letter shorter.
use Rattle.std.proofs.Common.{◌≡◌, ℕ, zero, suc, ◌+◌, ◌-◌, ◌<◌, ◌≤◌, List, [], ◌∷◌, ◌++◌, length, get_or, All, AllPairs, Contains, flat_map, inl, inr, refl, sym, ap, ◌∙◌, subst, arith, append-nil, add-one}
use Rattle.std.specs.List.{range_with_len}
use Rattle.std.proofs.lemmas.Bool.{cases_lt}
use Rattle.std.proofs.lemmas.Grind.{flat_map-append}
use Rattle.std.proofs.lemmas.List.{length-map, get_or-map}
use Rattle.std.proofs.lemmas.List.Elements.{All-head, All-tail, All-append, All-map, All-from_get_or, All-weaker, Contains-append_left, Contains-append_right}
use Rattle.std.proofs.lemmas.List.Kept.{AllPairs-cons}
use Rattle.digit_tuple.specs.Letters.{IsWord}
use Rattle.digit_tuple.specs.Shortlex.{IsLetterwiseBefore}
use Rattle.reference.specs.Words.{AreAllWords, after_letter}

-- the words after each of so many letters, from one on
abbrev pub longer_from : ℕ → ℕ → List (List ℕ) → List (List ℕ)
longer_from a n words = flat_map (after_letter words) (range_with_len a n)

-- the words after each of so many letters
abbrev pub longer : ℕ → List (List ℕ) → List (List ℕ)
longer letters words = longer_from 0 letters words

range_more : (a n : ℕ) → range_with_len a (suc n) ≡ range_with_len a n ++ (a + n) ∷ []
range_more a zero = let same : a + 0 ≡ a = omega arith in rw same refl
range_more a (suc n) = let same : a + 1 + n ≡ a + suc n = omega arith in ap (λ (xs : List ℕ). a ∷ xs) (rw same at (range_more (a + 1) n))

pub longer_more : (words : List (List ℕ)) (n : ℕ) → longer n words ++ after_letter words n ≡ longer (n + 1) words
longer_more words n =
    let more : range_with_len 0 (n + 1) ≡ range_with_len 0 n ++ n ∷ [] = let same : 0 + n ≡ n = omega arith in rw add-one (rw same at (range_more 0 n)) in
    sym (ap (flat_map (after_letter words)) more ∙ flat_map-append (after_letter words) (range_with_len 0 n) (n ∷ []) ∙ ap (λ (ws : List (List ℕ)). longer n words ++ ws) (append-nil (after_letter words n)))

-- what holds of each word after each of the letters
all_from : (P : List ℕ → Type 0) (a n : ℕ) (words : List (List ℕ)) → ((b : ℕ) → a ≤ b → b < a + n → All (λ w. P (b ∷ w)) words) → All P (longer_from a n words)
all_from P a zero words each = All-from_get_or P [] [] (λ i less. absurd (omega arith))
all_from P a (suc n) words each = All-append P (after_letter words a) (longer_from (a + 1) n words)
    (All-map P (λ w. a ∷ w) words (each a (omega arith) (omega arith)))
    (all_from P (a + 1) n words (λ b low high. each b (omega arith) (omega arith)))

rest_in_order : {X : Type 0} (R : X → X → Type 0) (x : X) (xs : List X) → AllPairs R (x ∷ xs) → AllPairs R xs
rest_in_order R x xs pairs i j d less within = pairs (suc i) (suc j) d (omega arith) (omega arith)

first_in_order : {X : Type 0} (R : X → X → Type 0) (x : X) (xs : List X) → AllPairs R (x ∷ xs) → All (R x) xs
first_in_order R x xs pairs = All-from_get_or (R x) xs x (λ i less. pairs 0 (suc i) x (omega arith) (omega arith))

joined_in_order : {X : Type 0} (R : X → X → Type 0) (xs ys : List X) → AllPairs R xs → AllPairs R ys → All (λ x. All (R x) ys) xs → AllPairs R (xs ++ ys)
joined_in_order R [] ys prefix back across = back
joined_in_order R (x ∷ xs) ys prefix back across = AllPairs-cons R x (xs ++ ys)
    (All-append (R x) xs ys (first_in_order R x xs prefix) (All-head (λ y. All (R y) ys) x xs across))
    (joined_in_order R xs ys (rest_in_order R x xs prefix) back (All-tail (λ y. All (R y) ys) x xs across))

after_in_order : (a : ℕ) (words : List (List ℕ)) → AllPairs IsLetterwiseBefore words → AllPairs IsLetterwiseBefore (after_letter words a)
after_in_order a words pairs i j d less within =
    let j_within : j < length words = rw length-map at within in
    let i_within : i < length words = omega arith in
    rw (get_or-map (λ (w : List ℕ). a ∷ w) words i [] d i_within, get_or-map (λ (w : List ℕ). a ∷ w) words j [] d j_within) (inr (refl, pairs i j [] less j_within))

from_in_order : (a n : ℕ) (words : List (List ℕ)) → AllPairs IsLetterwiseBefore words → AllPairs IsLetterwiseBefore (longer_from a n words)
from_in_order a zero words pairs = λ i j d less within. absurd (omega arith)
from_in_order a (suc n) words pairs = joined_in_order IsLetterwiseBefore (after_letter words a) (longer_from (a + 1) n words) (after_in_order a words pairs) (from_in_order (a + 1) n words pairs)
    (All-map (λ w. All (IsLetterwiseBefore w) (longer_from (a + 1) n words)) (λ w. a ∷ w) words
    (All-from_get_or (λ w. All (IsLetterwiseBefore (a ∷ w)) (longer_from (a + 1) n words)) words [] (λ i less.
    all_from (IsLetterwiseBefore (a ∷ get_or words i [])) (a + 1) n words (λ b low high. All-from_get_or (λ v. IsLetterwiseBefore (a ∷ get_or words i []) (b ∷ v)) words [] (λ k within. inl (omega arith))))))

after_has : (a : ℕ) (words : List (List ℕ)) (w : List ℕ) → Contains words w → Contains (after_letter words a) (a ∷ w)
after_has a words w (k, within, is) = (k, rw length-map within, get_or-map (λ (v : List ℕ). a ∷ v) words k w (a ∷ w) within ∙ ap (λ (v : List ℕ). a ∷ v) is)

from_has : (a n b : ℕ) (words : List (List ℕ)) (w : List ℕ) → a ≤ b → b < a + n → Contains words w → Contains (longer_from a n words) (b ∷ w)
from_has a zero b words w low high has = absurd (omega arith)
from_has a (suc n) b words w low high has = elim (cases_lt a b) [
  | inl later ↦ Contains-append_right (after_letter words a) (longer_from (a + 1) n words) (b ∷ w) (from_has (a + 1) n b words w (omega arith) (omega arith) has)
  | inr first ↦ let same : a ≡ b = omega arith in Contains-append_left (after_letter words a) (longer_from (a + 1) n words) (b ∷ w) (subst (λ (x : ℕ). Contains (after_letter words a) (x ∷ w)) same (after_has a words w has))
]

longer_whole : (letters n : ℕ) (words : List (List ℕ)) → (n ≡ 0 → ⊥) → AreAllWords letters (n - 1) words → (w : List ℕ) → IsWord letters w → length w ≡ n → Contains (longer letters words) w
longer_whole letters n words some h [] word len = absurd (some (sym len))
longer_whole letters n words some h (a ∷ w) word len = from_has 0 letters a words w (omega arith) (omega (arith, word.0)) (h.whole w word.1 (omega arith))

-- the words of a length are those that are shorter by one, after each letter
pub longer_words : (letters n : ℕ) (words : List (List ℕ)) → (n ≡ 0 → ⊥) → AreAllWords letters (n - 1) words → AreAllWords letters n (longer letters words)
longer_words letters n words some h = record {
  over = all_from (IsWord letters) 0 letters words (λ b low high. All-weaker (IsWord letters) (λ w. IsWord letters (b ∷ w)) (λ w word. (omega arith, word)) words h.over);
  long = all_from (λ w. length w ≡ n) 0 letters words (λ b low high. All-weaker (λ w. length w ≡ n - 1) (λ w. length (b ∷ w) ≡ n) (λ w len. omega arith) words h.long);
  whole = longer_whole letters n words some h;
  ordered = from_in_order 0 letters words h.ordered;
}
