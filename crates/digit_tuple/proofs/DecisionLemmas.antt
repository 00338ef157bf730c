-- One more digit on a track, at the end of the last list or in a list of its own.
use Rattle.std.proofs.Common.{◌≡◌, ℕ, zero, suc, ◌+◌, ◌<◌, ◌≤◌, ◌⊎◌, inl, inr, List, [], ◌∷◌, ◌++◌, length, get_or, Some, Result, Ok, Err, refl, length-append, arith}
use Rattle.std.specs.List.{sum_by, AllPairs, AllByRecursion}
use Rattle.std.specs.Result.{OnOk}
use Rattle.std.proofs.lemmas.Bool.{cases_order}
use Rattle.std.proofs.lemmas.List.Elements.{All-push}
use Rattle.std.proofs.lemmas.List.Quantifiers.{all_pairs_push}
use Rattle.std.proofs.lemmas.List.Sums.{sum_by-cons, sum_by_push}
use Rattle.digit_tuple.specs.NumberLists.{extended, last_of, last_number}
use Rattle.digit_tuple.specs.Decisions.{AreDigitsBelow, HasTransition, IsTrack}
use Rattle.digit_tuple.specs.declared.transitions.Transition.{Transition}
use Rattle.digit_tuple.specs.declared.decisions.Track.{Track}

pub all_push : {A : Type 0} (P : A → Type 0) (xs : List A) (x : A) → AllByRecursion P xs → P x → AllByRecursion P (xs ++ x ∷ [])
all_push P [] x all here = (here, tt)
all_push P (y ∷ xs) x all here = (all.0, all_push P xs x all.1 here)

pub all_extended : {A : Type 0} (P : List A → Type 0) (xs : List (List A)) (more : List A) → AllByRecursion P xs → P (last_of xs [] ++ more) → AllByRecursion P (extended xs more)
all_extended P [] more all here = tt
all_extended P (x ∷ []) more all here = (here, tt)
all_extended P (x ∷ (y ∷ xs)) more all here = (all.0, all_extended P (y ∷ xs) more all.1 here)

pub all_last : {A : Type 0} (P : A → Type 0) (xs : List A) (d : A) → AllByRecursion P xs → P d → P (last_of xs d)
all_last P [] d all here = here
all_last P (x ∷ xs) d all here = all_last P xs x all.1 all.0

sum-extended : (xs : List (List ℕ)) (d : ℕ) → 0 < length xs → sum_by length (extended xs (d ∷ [])) ≡ sum_by length xs + 1
sum-extended [] d some = absurd (omega arith)
sum-extended (x ∷ []) d some = omega (arith, sum_by-cons length x [], sum_by-cons length (x ++ d ∷ []) [], length-append x (d ∷ []))
sum-extended (x ∷ (y ∷ xs)) d some = omega (arith, sum-extended (y ∷ xs) d (omega arith), sum_by-cons length x (y ∷ xs), sum_by-cons length x (extended (y ∷ xs) (d ∷ [])))

number-at-end : (ns : List ℕ) (n k d : ℕ) → k ≡ length ns → get_or (n ∷ ns) k d ≡ last_of ns n
number-at-end [] n zero d same = refl
number-at-end [] n (suc k) d same = absurd (omega arith)
number-at-end (m ∷ ns) n zero d same = absurd (omega arith)
number-at-end (m ∷ ns) n (suc k) d same = number-at-end ns m k d (omega arith)

-- no digit is above the last
below_last : (n : ℕ) (ns : List ℕ) → AllPairs (λ d e. d < e) (n ∷ ns) → (k d : ℕ) → k < length (n ∷ ns) → get_or (n ∷ ns) k d ≤ last_of ns n
below_last n ns ascending k d within = by (cases_order k (length ns))
  where
    by : (k ≡ length ns) ⊎ ((k < length ns) ⊎ (length ns < k)) → get_or (n ∷ ns) k d ≤ last_of ns n
    by (inl same) = let at = number-at-end ns n k d same in omega (arith, at)
    by (inr (inl less)) =
        let at = number-at-end ns n (length ns) d refl in
        let low = ascending k (length ns) d less (omega arith) in
        omega (arith, at, low)
    by (inr (inr more)) = absurd (omega arith)

pub AreDigitsBelow-one : (size d : ℕ) → d < size → AreDigitsBelow size (d ∷ [])
AreDigitsBelow-one size d less = record {
  below = λ k z within. at k z within;
  ascending = λ i j z before within. absurd (omega arith);
}
  where
    at : (k z : ℕ) → k < 1 → get_or (d ∷ []) k z < size
    at zero z within = less
    at (suc k) z within = absurd (omega arith)

-- one more digit above the last
pub AreDigitsBelow-more : (size d : ℕ) (ns : List ℕ) → AreDigitsBelow size ns → d < size → ((l : ℕ) → last_number ns ≡ Some l → l < d) → AreDigitsBelow size (ns ++ d ∷ [])
AreDigitsBelow-more size d [] are less above = AreDigitsBelow-one size d less
AreDigitsBelow-more size d (n ∷ ns) are less above = record {
  below = All-push (λ digit. digit < size) (n ∷ ns) d are.below less;
  ascending = all_pairs_push (λ e f. e < f) (n ∷ ns) d are.ascending (λ k z within. let low = below_last n ns are.ascending k z within in let high = above (last_of ns n) refl in omega (arith, low, high));
}

-- one more empty list
pub IsTrack-begin : (track : Track) (letters : ℕ) (rows : List (List Transition)) → IsTrack track letters rows → IsTrack (record { size = track.size; weight = track.weight; digits = track.digits ++ [] ∷ [] }) letters rows
IsTrack-begin track letters rows is = record {
  weight = is.weight;
  count = omega (arith, is.count, sum_by_push length track.digits []);
  digits = all_push (AreDigitsBelow track.size) track.digits [] is.digits (record { below = λ k z within. absurd (omega arith); ascending = λ i j z before within. absurd (omega arith) });
  filled = is.filled;
}

-- one more digit at the end of the last list, and a row after it
pub IsTrack-more : (track : Track) (letters d : ℕ) (rows : List (List Transition)) (row : List Transition) → IsTrack track letters rows → d < track.size → 0 < length track.digits → HasTransition row
    → ((l : ℕ) → last_number (last_of track.digits []) ≡ Some l → l < d)
    → IsTrack (record { size = track.size; weight = track.weight; digits = extended track.digits (d ∷ []) }) letters (rows ++ row ∷ [])
IsTrack-more track letters d rows row is less some transition above = record {
  weight = is.weight;
  count = omega (arith, is.count, sum-extended track.digits d some, length-append rows (row ∷ []));
  digits = all_extended (AreDigitsBelow track.size) track.digits (d ∷ []) is.digits
      (AreDigitsBelow-more track.size d (last_of track.digits []) (all_last (AreDigitsBelow track.size) track.digits [] is.digits (record { below = λ k z within. absurd (omega arith); ascending = λ i j z before within. absurd (omega arith) })) less above);
  filled = all_push HasTransition rows row is.filled transition;
}

-- what holds on Ok gives what follows from it
pub on_ok : {T E : Type 0} (r : Result T E) (P Q R S : Type 0) → OnOk r P → OnOk r Q → OnOk r R → (P → Q → R → S) → OnOk r S
on_ok (Ok x) P Q R S p q r next = next p q r
on_ok (Err e) P Q R S p q r next = tt
