-- Groups of digits.
use Rattle.std.proofs.Common.{◌≡◌, ℕ, zero, suc, ◌+◌, ◌-◌, ◌*◌, ◌/◌, ◌^◌, ◌<◌, ◌≤◌, ◌⊎◌, inl, inr, List, [], ◌∷◌, ◌++◌, length, take, drop, refl, sym, ap, ◌∙◌, subst, arith}
use Rattle.std.proofs.Math.Nat.{pow-zero, pow-succ'}
use Rattle.std.proofs.lemmas.Bool.{cases_lt}
use Rattle.std.proofs.lemmas.List.{append-nil, append_assoc, drop-drop, length-drop, length-take-le, nil_from_length, take-append-drop, take_at, drop_at}
use Rattle.std.proofs.lemmas.Nat.{mul-le}
use Rattle.digit_tuple.specs.Letters.{IsAlphabet, IsWord}
use Rattle.digit_tuple.specs.Paddings.{zeros}
use Rattle.digit_tuple.proofs.WordLemmas.{IsWord-append}
use Rattle.base_change.specs.Digits.{WordsArePaddedGroups, expanded, first_groups, lowest_digits, value_lsd}
use Rattle.base_change.proofs.DigitLemmas.{digits-value, drop-over, expanded-append, length-digits, take-over, value-digits, value-small}
use Rattle.base_change.proofs.RootLemmas.{pow-up}

-- each whole group is a digit
pub groups-over : (r b n : ℕ) (w : List ℕ) → IsWord r w → n * b ≤ length w → IsWord (r ^ b) (first_groups r b n w)
groups-over r b zero w over long = tt
groups-over r b (suc n) w over long =
    let group : List ℕ = take b w in
    let count : length group ≡ b = length-take-le b w (omega (arith, long)) in (
      subst (λ k. value_lsd r group < r ^ k) count (value-small r group (take-over r b w over)),
      groups-over r b n (drop b w) (drop-over r b w over) (omega (arith, long, length-drop b w)),
    )

-- the groups of an expanded word are its digits
pub groups-expanded : (r b : ℕ) (v : List ℕ) → 1 ≤ r → IsWord (r ^ b) v → first_groups r b (length v) (expanded r b v) ≡ v
groups-expanded r b [] some over = refl
groups-expanded r b (a ∷ v) some over =
    let digits : List ℕ = lowest_digits r b a in
    ap (λ u. value_lsd r u ∷ first_groups r b (length v) (drop b (digits ++ expanded r b v))) (take_at digits (expanded r b v) b (length-digits r b a))
    ∙ ap (λ u. value_lsd r digits ∷ first_groups r b (length v) u) (drop_at digits (expanded r b v) b (length-digits r b a))
    ∙ ap (λ n. n ∷ first_groups r b (length v) (expanded r b v)) (value-digits r b a some over.0)
    ∙ ap (λ u. a ∷ u) (groups-expanded r b v some over.1)

-- a word is its groups, expanded, and the digits after them
pub groups-split : (r b n : ℕ) (w : List ℕ) → 1 ≤ r → IsWord r w → n * b ≤ length w → w ≡ expanded r b (first_groups r b n w) ++ drop (n * b) w
groups-split r b zero w some over long = ap (λ k. drop k w) (let none : 0 ≡ 0 * b = omega arith in none)
groups-split r b (suc n) w some over long =
    let group : List ℕ = take b w in
    let count : length group ≡ b = length-take-le b w (omega (arith, long)) in
    let digits : lowest_digits r b (value_lsd r group) ≡ group =
    ap (λ k. lowest_digits r k (value_lsd r group)) (let at : b ≡ length group + 0 = omega (arith, count) in at) ∙ digits-value r 0 group (take-over r b w over) some ∙ append-nil group in
    let rest = groups-split r b n (drop b w) some (drop-over r b w over) (omega (arith, long, length-drop b w)) in
    sym (take-append-drop b w)
    ∙ ap (λ u. group ++ u) rest
    ∙ ap (λ k. group ++ (expanded r b (first_groups r b n (drop b w)) ++ k)) (drop-drop (n * b) b w ∙ ap (λ k. drop k w) (let at : b + n * b ≡ suc n * b = omega arith in at))
    ∙ ap (λ u. u ++ (expanded r b (first_groups r b n (drop b w)) ++ drop (suc n * b) w)) (sym digits)
    ∙ sym (append_assoc (lowest_digits r b (value_lsd r group)) (expanded r b (first_groups r b n (drop b w))) (drop (suc n * b) w))

module _ (b : ℕ) (some : 1 ≤ b) where
  -- the whole groups of a word, and what is left
  pub groups-inside : (n : ℕ) → n / b * b ≤ n
  groups-inside n = omega (arith, some)

  pub groups-most : (n : ℕ) → n < n / b * b + b
  groups-most n = omega (arith, some)

  -- what is left of a word that fewer zeros than a group has fill up to whole groups is nothing, or fills up to one group
  pub padding-one : (n m long more : ℕ) → n * b ≤ long → long < n * b + b → more < b → long + more ≡ m * b → (long - n * b + more ≡ 0) ⊎ (long - n * b + more ≡ b)
  padding-one n m long more inside most few whole = by (cases_lt n m) (cases_lt (n + 1) m)
    where
      by : (n < m) ⊎ (m ≤ n) → (n + 1 < m) ⊎ (m ≤ n + 1) → (long - n * b + more ≡ 0) ⊎ (long - n * b + more ≡ b)
      by (inr small) other = inl (let up : m * b ≤ n * b = mul-le m b n b small (omega arith) in omega (arith, inside, whole, up))
      by (inl big) (inl bigger) = absurd (let up : (n + 2) * b ≤ m * b = mul-le (n + 2) b m b (omega (arith, bigger)) (omega arith) in omega (arith, most, few, whole, up))
      by (inl big) (inr small) = inr (let same : m * b ≡ (n + 1) * b = ap (λ k. k * b) (let at : m ≡ n + 1 = omega (arith, big, small) in at) in omega (arith, inside, whole, same))

-- each word is expanded from one, but for fewer zeros after it than a group has
module _ (r b : ℕ) (some : 1 ≤ r) (many : 1 ≤ b) (w : List ℕ) (over : IsWord r w) where
  abbrev n : ℕ
  n = length w / b

  abbrev groups : List ℕ
  groups = first_groups r b n w

  abbrev rest : List ℕ
  rest = drop (n * b) w

  few : length rest < b
  few = omega (arith, length-drop (n * b) w, groups-inside b many (length w), groups-most b many (length w))

  digits : IsWord (r ^ b) groups
  digits = groups-over r b n w over (groups-inside b many (length w))

  split : w ≡ expanded r b groups ++ rest
  split = groups-split r b n w some over (groups-inside b many (length w))

  pub padded_word : (v : List ℕ) × (more : ℕ) × IsWord (r ^ b) v × (expanded r b v ≡ w ++ zeros more) × (more < b)
  padded_word = by (cases_lt 0 (length rest))
    where
      by : (0 < length rest) ⊎ (length rest ≤ 0) → (v : List ℕ) × (more : ℕ) × IsWord (r ^ b) v × (expanded r b v ≡ w ++ zeros more) × (more < b)
      by (inr none) =
          let empty : rest ≡ [] = nil_from_length rest (omega (arith, none)) in
          let whole : w ≡ expanded r b groups = split ∙ ap (λ u. expanded r b groups ++ u) empty ∙ append-nil (expanded r b groups) in
          (groups, 0, digits, sym whole ∙ sym (append-nil w), omega (arith, many))
      by (inl left) =
          let more : ℕ = b - length rest in
          let last : ℕ = value_lsd r rest in
          let low : IsWord r rest = drop-over r (n * b) w over in
          let small : last < r ^ b = omega (arith, value-small r rest low, pow-up r (length rest) b some (omega (arith, few))) in
          let full : lowest_digits r b last ≡ rest ++ zeros more = ap (λ k. lowest_digits r k last) (let at : b ≡ length rest + (b - length rest) = omega (arith, few) in at) ∙ digits-value r more rest low some in (
            groups ++ last ∷ [],
            more,
            IsWord-append (r ^ b) groups (last ∷ []) digits (small, tt),
            expanded-append r b groups (last ∷ [])
                ∙ ap (λ u. expanded r b groups ++ u) (append-nil (lowest_digits r b last) ∙ full)
                ∙ sym (append_assoc (expanded r b groups) rest (zeros more))
                ∙ ap (λ u. u ++ zeros more) (sym split),
            omega (arith, left, few),
          )

pub words_are_padded_groups : WordsArePaddedGroups
words_are_padded_groups r b w low some over = padded_word r b (omega (arith, low)) some w over

-- alphabets of one track
pub letters_few : (k : ℕ) → IsAlphabet (k ∷ []) → k ≤ 65536
letters_few k is = omega (arith, is.letters)

pub one_alphabet : (k : ℕ) → k ≤ 65536 → IsAlphabet (k ∷ [])
one_alphabet k few = record { tracks = omega arith; letters = omega (arith, few) }

-- a base is at most its powers
pub root_few : (r b : ℕ) → 2 ≤ r → 1 ≤ b → r ^ b ≤ 65536 → r ≤ 65536
root_few r b low some few =
    let unit : r * r ^ 0 ≡ r * 1 = ap (λ n. r * n) (pow-zero r) in
    omega (arith, few, pow-succ' r 0, unit, pow-up r 1 b (omega (arith, low)) some)

-- and so the root has an alphabet where a power has one
pub root_alphabet : (r b : ℕ) → 2 ≤ r → 1 ≤ b → IsAlphabet (r ^ b ∷ []) → IsAlphabet (r ∷ [])
root_alphabet r b low some is = one_alphabet r (root_few r b low some (letters_few (r ^ b) is))
