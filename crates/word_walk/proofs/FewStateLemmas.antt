-- States in a list, and their flags.
use Rattle.std.proofs.Common.{◌≡◌, ◌==◌, ℕ, ◌+◌, ◌<◌, ◌≤◌, ◌||◌, Bool, true, false, not, cond, nat_cmp, List, [], ◌∷◌, ◌++◌, length, get_or, set, take, filter, ◌⊎◌, inl, inr, refl, sym, ap, ◌∙◌, subst, arith, Result, Ok, Err, MatchResult}
use Rattle.std.specs.List.{All, Contains, dedup, list_any, range_with_len}
use Rattle.std.specs.List.Sorted.{IsBinarySearchResult, IsPermutation, IsSorted, IsStrictlyIncreasing}
use Rattle.std.specs.Result.{is_ok}
use Rattle.std.proofs.lemmas.Bool.{cases_Bool, cases_lt, eq-eqb, eqb-true, ne_eqb, true≢false}
use Rattle.std.proofs.lemmas.List.{append-nil, ext_get_or, get_or_default, get_or-set_other, get_or-set_same}
use Rattle.std.proofs.lemmas.List.Elements.{All-contains_itself, All-weaker}
use Rattle.std.proofs.lemmas.List.Folds.{list_any_at, list_any_more, list_any_none}
use Rattle.std.proofs.lemmas.List.FromFn.{get_or-map-range_with_len, get_or-range_with_len, length-map-range_with_len, length-range_with_len}
use Rattle.std.proofs.lemmas.List.Kept.{AllPairs-from_increasing, Contains-dedup_nat, Contains-from_dedup, IsStrictlyIncreasing-filter}
use Rattle.std.proofs.lemmas.List.Sorted.{Contains-permutation, IsPermutation-sym, searched}
use Rattle.std.proofs.lemmas.Map.Keys.{IsStrictlyIncreasing-dedup}
use Rattle.determinise.proofs.BitRowLemmas.{filter-range_more}
use Rattle.determinise.proofs.ReversalLemmas.{same_bool}
use Rattle.digit_tuple.proofs.MemberLemmas.{Contains-filter, Contains-from_filter, Contains-head, contains_from_list_any, list_any-contains}
use Rattle.digit_tuple.proofs.RangeLemmas.{Contains-from_range, Contains-range}
use Rattle.word_walk.specs.FewStates.{AreStates, flags_of, has_state}

pub has_state-contains : (states : List ℕ) (q : ℕ) → Contains states q → has_state states q ≡ true
has_state-contains states q there = list_any-contains (λ p. p == q) states q there (eq-eqb q q refl)

pub contains_from_has_state : (states : List ℕ) (q : ℕ) → has_state states q ≡ true → Contains states q
contains_from_has_state states q has =
    let found = contains_from_list_any (λ p. p == q) states has in
    subst (Contains states) (eqb-true found.0 q found.2) found.1

pub length-flags_of : (count : ℕ) (states : List ℕ) → length (flags_of count states) ≡ count
length-flags_of count states = length-map-range_with_len (has_state states) 0 count

pub flag_at : (count : ℕ) (states : List ℕ) (q : ℕ) → q < count → get_or (flags_of count states) q false ≡ has_state states q
flag_at count states q within = get_or-map-range_with_len (has_state states) 0 count q q false within (omega arith)

-- flags that say of each state whether it is in the list
pub flags_of-flags : (count : ℕ) (states : List ℕ) (flags : List Bool) → length flags ≡ count → ((q : ℕ) → q < count → get_or flags q false ≡ has_state states q) → flags_of count states ≡ flags
flags_of-flags count states flags width flag_is =
    ext_get_or false (flags_of count states) flags (length-flags_of count states ∙ sym width)
    (λ q inside. let within : q < count = omega (arith, inside, length-flags_of count states) in flag_at count states q within ∙ sym (flag_is q within))

-- lists with the same states have the same flags
pub flags_of-same : (count : ℕ) (xs ys : List ℕ) → ((q : ℕ) → Contains xs q → Contains ys q) → ((q : ℕ) → Contains ys q → Contains xs q) → flags_of count xs ≡ flags_of count ys
flags_of-same count xs ys forth back =
    flags_of-flags count xs (flags_of count ys) (length-flags_of count ys)
    (λ q within. flag_at count ys q within ∙ same_bool (has_state ys q) (has_state xs q)
    (λ has. has_state-contains xs q (back q (contains_from_has_state ys q has)))
    (λ has. has_state-contains ys q (forth q (contains_from_has_state xs q has))))

-- a list, sorted, with each state once
module _ (count : ℕ) (found sorted left : List ℕ) (moved : IsPermutation found sorted) (up : IsSorted nat_cmp sorted) (is : left ≡ dedup (λ a b. a == b) sorted) where
  there_before : (q : ℕ) → Contains left q → Contains found q
  there_before q there = Contains-permutation sorted found q (IsPermutation-sym found sorted moved) (Contains-from_dedup (λ a b. a == b) sorted q (subst (λ xs. Contains xs q) is there))

  there_after : (q : ℕ) → Contains found q → Contains left q
  there_after q there = subst (λ xs. Contains xs q) (sym is) (Contains-dedup_nat sorted q (Contains-permutation found sorted q moved there))

  pub AreStates-sorted : All (λ q. q < count) found → AreStates count left
  AreStates-sorted within = record {
    ascending = subst IsStrictlyIncreasing (sym is) (IsStrictlyIncreasing-dedup sorted up);
    within = All-weaker (Contains left) (λ q. q < count) (λ q there. let at = there_before q there in omega (arith, within at.0 q at.1, at.2)) left (All-contains_itself left);
  }

  pub flags_of-sorted : flags_of count left ≡ flags_of count found
  flags_of-sorted = flags_of-same count left found there_before there_after

-- the states with a flag
abbrev pub states_with : ℕ → List Bool → List ℕ
states_with count flags = filter (λ q. get_or flags q false) (range_with_len 0 count)

pub states_with_more : (n : ℕ) (flags : List Bool) → get_or flags n false ≡ true → states_with (n + 1) flags ≡ states_with n flags ++ n ∷ []
states_with_more n flags has = filter-range_more (λ q. get_or flags q false) n ∙ ap (λ b. states_with n flags ++ cond b (n ∷ []) []) has

pub states_with_left : (n : ℕ) (flags : List Bool) → get_or flags n false ≡ false → states_with (n + 1) flags ≡ states_with n flags
states_with_left n flags left = filter-range_more (λ q. get_or flags q false) n ∙ ap (λ b. states_with n flags ++ cond b (n ∷ []) []) left ∙ append-nil (states_with n flags)

pub AreStates-with : (count : ℕ) (flags : List Bool) → AreStates count (states_with count flags)
AreStates-with count flags = record {
  ascending = IsStrictlyIncreasing-filter (λ q. get_or flags q false) (range_with_len 0 count) up;
  within = All-weaker (Contains (states_with count flags)) (λ q. q < count)
      (λ q there. Contains-from_range count q (Contains-from_filter (λ p. get_or flags p false) (range_with_len 0 count) q there).0)
      (states_with count flags) (All-contains_itself (states_with count flags));
}
  where
    up : IsStrictlyIncreasing (range_with_len 0 count)
    up k inside =
        let more : k + 1 < count = omega (arith, inside, length-range_with_len 0 count) in
        omega (arith, get_or-range_with_len 0 count k 0 (omega (arith, more)), get_or-range_with_len 0 count (k + 1) 0 more)

pub flags_of-with : (count : ℕ) (flags : List Bool) → length flags ≡ count → flags_of count (states_with count flags) ≡ flags
flags_of-with count flags width = flags_of-flags count (states_with count flags) flags width
    (λ q within. same_bool (get_or flags q false) (has_state (states_with count flags) q)
    (λ has. has_state-contains (states_with count flags) q (Contains-filter (λ p. get_or flags p false) (range_with_len 0 count) q (Contains-range count q within) has))
    (λ has. (Contains-from_filter (λ p. get_or flags p false) (range_with_len 0 count) q (contains_from_has_state (states_with count flags) q has)).1))

-- the flag of one state more
pub flags_more : (count : ℕ) (states : List ℕ) (i : ℕ) (flags : List Bool) → i < length states → length flags ≡ count → ((q : ℕ) → q < count → get_or flags q false ≡ has_state (take i states) q)
    → (q : ℕ) → q < count → get_or (set flags (get_or states i 0) true) q false ≡ has_state (take (i + 1) states) q
flags_more count states i flags inside width flag_is q within = by (cases_Bool (get_or states i 0 == q)) ∙ sym (list_any_more (λ p. p == q) states i 0 inside)
  where
    by : ((get_or states i 0 == q) ≡ true) ⊎ ((get_or states i 0 == q) ≡ false) → get_or (set flags (get_or states i 0) true) q false ≡ (has_state (take i states) q || (get_or states i 0 == q))
    by (inl is) =
        let same : get_or states i 0 ≡ q = eqb-true (get_or states i 0) q is in
        subst (λ (p : ℕ). get_or (set flags p true) q false ≡ true) (sym same) (get_or-set_same flags q true false (omega (arith, within, width)))
        ∙ sym (or_true (has_state (take i states) q) (get_or states i 0 == q) is)
      where
        or_true : (a b : Bool) → b ≡ true → (a || b) ≡ true
        or_true true b is_true = refl
        or_true false b is_true = is_true
    by (inr isnt) =
        get_or-set_other flags (get_or states i 0) q true false (λ same. true≢false (sym (eq-eqb (get_or states i 0) q (sym same)) ∙ isnt))
        ∙ flag_is q within ∙ sym (or_false (has_state (take i states) q) (get_or states i 0 == q) isnt)
      where
        or_false : (a b : Bool) → b ≡ false → (a || b) ≡ a
        or_false true b is_false = refl
        or_false false b is_false = is_false

module _ (count : ℕ) (states : List ℕ) (are : AreStates count states) where
  -- what a search says of a state
  pub flag_searched : (q : ℕ) → q < count → (r : Result ℕ ℕ) → IsBinarySearchResult (λ p. nat_cmp p q) states r → is_ok r ≡ get_or (flags_of count states) q false
  flag_searched q within r search = by r (searched states q r search rising) ∙ sym (flag_at count states q within)
    where
      rising : (i j : ℕ) → i ≤ j → j < length states → get_or states i 0 ≤ get_or states j 0
      rising i j before inside = at (cases_lt i j)
        where
          at : (i < j) ⊎ (j ≤ i) → get_or states i 0 ≤ get_or states j 0
          at (inl less) = omega (arith, AllPairs-from_increasing states are.ascending i j 0 less inside)
          at (inr more) = let same : i ≡ j = omega (arith, before, more) in omega (arith, ap (λ (n : ℕ). get_or states n 0) same)

      by : (s : Result ℕ ℕ) → MatchResult s (λ i. (i < length states) × (get_or states i 0 ≡ q)) (λ i. (i ≤ length states) × ((k : ℕ) → k < i → get_or states k 0 < q) × ((k : ℕ) → i ≤ k → k < length states → q < get_or states k 0)) → is_ok s ≡ has_state states q
      by (Ok i) found = sym (has_state-contains states q (i, found.0, sym (get_or_default states i 0 q found.0) ∙ found.1))
      by (Err i) parted = sym (none (cases_Bool (has_state states q)))
        where
          nowhere : Contains states q → ⊥
          nowhere there = at (cases_lt there.0 i)
            where
              here : get_or states there.0 0 ≡ q
              here = get_or_default states there.0 0 q there.1 ∙ there.2

              at : (there.0 < i) ⊎ (i ≤ there.0) → ⊥
              at (inl less) = omega (arith, parted.1 there.0 less, here)
              at (inr more) = omega (arith, parted.2 there.0 more there.1, here)

          none : (has_state states q ≡ true) ⊎ (has_state states q ≡ false) → has_state states q ≡ false
          none (inl has) = absurd (nowhere (contains_from_has_state states q has))
          none (inr not_there) = not_there

-- a flag is there if a state is
pub any_flag : (count : ℕ) (states : List ℕ) → AreStates count states → not (length states == 0) ≡ list_any (λ has. has) (flags_of count states)
any_flag count [] are = sym (list_any_none (λ has. has) (flags_of count [])
    (λ k z inside. get_or_default (flags_of count []) k z false inside ∙ flag_at count [] k (omega (arith, inside, length-flags_of count []))))
any_flag count (p ∷ states) are =
    let within : p < count = are.within 0 p (omega arith) in
    ap not (ne_eqb (length (p ∷ states)) 0 (omega arith))
    ∙ sym (list_any_at (λ has. has) (flags_of count (p ∷ states)) p false (omega (arith, within, length-flags_of count (p ∷ states))) (flag_at count (p ∷ states) p within ∙ has_state-contains (p ∷ states) p (Contains-head p states)))
