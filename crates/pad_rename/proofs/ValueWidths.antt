-- Widths of relations that a number says: words are alike if and only if they have one value.
use Rattle.std.proofs.Common.{◌≡◌, ◌<◌, ◌≤◌, ℕ, List, [], map, length, get_or, ◌⊎◌, inl, inr, sym, subst, arith}
use Rattle.std.specs.List.{All, AllPairs, range_with_len}
use Rattle.std.proofs.lemmas.Bool.{cases_lt}
use Rattle.std.proofs.lemmas.List.FromFn.{get_or-map-range_with_len, length-map-range_with_len}
use Rattle.digit_tuple.specs.Letters.{IsWord}
use Rattle.digit_tuple.specs.Width.{HasApart, HasWidth}

module _ (R : List ℕ → List ℕ → Type 0) (letters k : ℕ) (value : List ℕ → ℕ)
    (alike_value : (w v : List ℕ) → IsWord letters w → IsWord letters v → R w v → value w ≡ value v)
    (some : (j : ℕ) → j < k → (w : List ℕ) × IsWord letters w × (value w ≡ j)) where
  -- a word of the value, if it is below k
  pick : (j : ℕ) → (w : List ℕ) × (j < k → IsWord letters w × (value w ≡ j))
  pick j = by (cases_lt j k)
    where
      by : (j < k) ⊎ (k ≤ j) → (w : List ℕ) × (j < k → IsWord letters w × (value w ≡ j))
      by (inl less) = let found = some j less in (found.0, λ small. (found.1, found.2))
      by (inr past) = ([], λ small. absurd (omega arith))

  abbrev words : ℕ → List (List ℕ)
  words n = map (λ j. (pick j).0) (range_with_len 0 n)

  length-words : (n : ℕ) → length (words n) ≡ n
  length-words n = length-map-range_with_len (λ j. (pick j).0) 0 n

  word_at : (n j : ℕ) (d : List ℕ) → j < n → get_or (words n) j d ≡ (pick j).0
  word_at n j d less = get_or-map-range_with_len (λ i. (pick i).0) 0 n j j d less (omega arith)

  over_words : (n : ℕ) → n ≤ k → All (IsWord letters) (words n)
  over_words n few j d within =
      let less : j < n = omega (arith, within, length-words n) in
      subst (IsWord letters) (sym (word_at n j d less)) ((pick j).1 (omega (arith, less, few))).0

  apart_words : (n : ℕ) → n ≤ k → AllPairs (λ w v. ¬ R w v) (words n)
  apart_words n few i j d before within alike =
      let less : j < n = omega (arith, within, length-words n) in
      let first : i < n = omega (arith, before, less) in
      let one = (pick i).1 (omega (arith, first, few)) in
      let two = (pick j).1 (omega (arith, less, few)) in
      let moved : R (pick i).0 (pick j).0 = subst (λ w. R w (pick j).0) (word_at n i d first) (subst (λ v. R (get_or (words n) i d) v) (word_at n j d less) alike) in
      let same = alike_value (pick i).0 (pick j).0 one.0 two.0 moved in
      omega (arith, before, one.1, two.1, same)

  -- words of the first values are apart
  pub HasApart-values : (n : ℕ) → n ≤ k → HasApart R letters n
  HasApart-values n few = record { words = words n; count = length-words n; over = over_words n few; apart = apart_words n few }

  -- where each value is below k, and words of one value are alike
  pub HasWidth-values : ((w : List ℕ) → IsWord letters w → value w < k) → ((w v : List ℕ) → IsWord letters w → IsWord letters v → value w ≡ value v → R w v) → HasWidth R letters k
  HasWidth-values below alike = record {
    some = record { words = words k; count = length-words k; over = over_words k (omega arith); apart = apart_words k (omega arith) };
    whole = λ w over.
        let small = below w over in
        let found = (pick (value w)).1 small in
        (value w, (pick (value w)).0, omega (arith, small, length-words k), word_at k (value w) (pick (value w)).0 small, alike w (pick (value w)).0 over found.0 (sym found.1));
  }
