-- Rows of bits that are set for the members of a set.
use Rattle.std.proofs.Common.{◌≡◌, ◌≢◌, ℕ, suc, ◌+◌, ◌*◌, ◌/◌, ◌%◌, ◌^◌, ◌-◌, ◌<◌, ◌≤◌, Bool, cond, filter, List, [], ◌∷◌, ◌++◌, take, length, get_or, map, min, ◌↔◌, ◌⊎◌, inl, inr, refl, sym, ap, ◌∙◌, subst, arith}
use Rattle.std.specs.Prelude.{bit_and, Vec}
use Rattle.std.specs.Int.{bit_at, bit_not}
use Rattle.std.specs.List.{All, Contains, range_with_len}
use Rattle.std.proofs.lemmas.List.FromFn.{filter_of_map_range_with_len_more}
use Rattle.std.specs.declared.alloc.Global.{Global}
use Rattle.std.proofs.lemmas.Bool.{cases_eq, cases_lt}
use Rattle.std.proofs.lemmas.List.{take_more, get_or-map, length-map, map-append, get_or_push, get_or_append_left}
use Rattle.std.proofs.lemmas.List.Elements.{All-map, Contains-append_left, Contains-push, Contains-push_cases}
use Rattle.std.proofs.Math.Nat.{pow-suc}
use Rattle.std.proofs.lemmas.Nat.{and_le_l, pow_pos, div-mul-add, mod-mul-add, div-add-mod', mod_below, div_below, mul-add-lt}
use Rattle.std.proofs.lemmas.Nat.Bits.{bit_at_and, bit_at-lt, bit_at-zero, bit_at_above, bit_at_cat_low, bit_at_cat_high, bit_at_clear_same, bit_at_clear_other, bit_at_ones_above, bit_at-pow_same, bit_at-pow_other, same_from_bits_below}
use mir.Syntax.{w32}
use Rattle.digit_tuple.specs.declared.transitions.Transition.{Transition}
use Rattle.determinise.specs.BitRows.{word_of}
use Rattle.determinise.specs.declared.bit_words.BitWord.{BitWord}
use Rattle.determinise.specs.Bits.{HasBit, HasMember, RowHas, AreSet, AreRowsSet, AreGathered, AreUnited, row_at, rows_in}
use Rattle.determinise.proofs.BitLemmas.{HasBit-within}

-- a number of 32 bits without one of them
abbrev pub without_bit : ℕ → ℕ → ℕ
without_bit n k = bit_and n (bit_not w32 (1 * 2 ^ k % 2 ^ 32))

pub without_bit-below : (n k : ℕ) → k < 32 → bit_at n k ≡ 1 → without_bit n k < n
without_bit-below n k small is =
    let less = and_le_l n (bit_not w32 (1 * 2 ^ k % 2 ^ 32)) in
    let other : without_bit n k ≢ n = λ same. omega (arith, sym (bit_at_clear_same w32 n k small) ∙ ap (λ m. bit_at m k) same ∙ is) in
    omega (arith, less, other)

pub without_bit-part : (n k i : ℕ) → bit_at (without_bit n k) i ≡ 1 → bit_at n i ≡ 1
without_bit-part n k i is = omega (arith, bit_at-lt n i, sym (bit_at_and n (bit_not w32 (1 * 2 ^ k % 2 ^ 32)) i) ∙ is)

pub without_bit-same : (n k : ℕ) → k < 32 → bit_at (without_bit n k) k ≡ 0
without_bit-same n k within = bit_at_clear_same w32 n k within

pub without_bit-none : (n k i : ℕ) → bit_at n i ≡ 0 → bit_at (without_bit n k) i ≡ 0
without_bit-none n k i none = omega (arith, bit_at_and n (bit_not w32 (1 * 2 ^ k % 2 ^ 32)) i, none)

-- the number less one has all bits above the lowest one, and not that one
pub without_bit-lowest : (n k : ℕ) → n < 2 ^ 32 → k < 32 → bit_at n k ≡ 1 → ((i : ℕ) → i < k → bit_at n i ≡ 0) → bit_and n (n - 1) ≡ without_bit n k
without_bit-lowest n k small within is low =
    let left = and_le_l n (n - 1) in
    let right = and_le_l n (bit_not w32 (1 * 2 ^ k % 2 ^ 32)) in
    same_from_bits_below 32 (bit_and n (n - 1)) (without_bit n k) (omega (arith, left, small)) (omega (arith, right, small)) (λ i below. bit_at_and n (n - 1) i ∙ by i below (cases_lt i k) (cases_eq i k))
  where
    q : ℕ
    q = n / 2 ^ (k + 1)

    halves : 2 ^ (k + 1) ≡ 2 ^ k + 2 ^ k
    halves = let next : k + 1 ≡ suc k = omega arith in omega (arith, ap (λ m. 2 ^ m) next, pow-suc 2 k)

    some : 0 < 2 ^ k
    some = pow_pos k

    split : n ≡ q * 2 ^ (k + 1) + n % 2 ^ (k + 1)
    split = sym (div-add-mod' n (2 ^ (k + 1)))

    rest : n % 2 ^ (k + 1) ≡ 2 ^ k
    rest = same_from_bits_below (k + 1) (n % 2 ^ (k + 1)) (2 ^ k) (mod_below n (2 ^ (k + 1)) (omega (arith, halves, some))) (omega (arith, halves, some))
        (λ i below. sym (bit_at_cat_low q (k + 1) (n % 2 ^ (k + 1)) i below) ∙ ap (λ m. bit_at m i) (sym split) ∙ each i below (cases_eq i k))
      where
        each : (i : ℕ) → i < k + 1 → (i ≡ k) ⊎ (i ≡ k → ⊥) → bit_at n i ≡ bit_at (2 ^ k) i
        each i below (inl same) = ap (bit_at n) same ∙ is ∙ sym (ap (bit_at (2 ^ k)) same ∙ bit_at-pow_same k)
        each i below (inr other) = low i (omega (arith, below, other)) ∙ sym (bit_at-pow_other k i other)

    whole : n ≡ q * 2 ^ (k + 1) + 2 ^ k
    whole = split ∙ ap (λ r. q * 2 ^ (k + 1) + r) rest

    less : n - 1 ≡ q * 2 ^ (k + 1) + (2 ^ k - 1)
    less = omega (arith, whole, some)

    by : (i : ℕ) → i < 32 → (i < k) ⊎ (k ≤ i) → (i ≡ k) ⊎ (i ≡ k → ⊥) → min (bit_at n i) (bit_at (n - 1) i) ≡ bit_at (without_bit n k) i
    by i below where_i (inl same) =
        omega (arith, ap (bit_at (n - 1)) same ∙ ap (λ m. bit_at m k) less ∙ bit_at_cat_low q (k + 1) (2 ^ k - 1) k (omega arith) ∙ bit_at_ones_above k k (omega arith), ap (bit_at (without_bit n k)) same ∙ without_bit-same n k within)
    by i below (inl before) (inr other) = omega (arith, low i before, bit_at_clear_other w32 n k within i below other)
    by i below (inr after) (inr other) =
        let above : bit_at (n - 1) i ≡ bit_at n i =
        ap (λ m. bit_at m i) less ∙ bit_at_cat_high q (k + 1) (2 ^ k - 1) i (omega (arith, halves, some)) (omega (arith, after, other))
        ∙ sym (ap (λ m. bit_at m i) whole ∙ bit_at_cat_high q (k + 1) (2 ^ k) i (omega (arith, halves, some)) (omega (arith, after, other))) in
        omega (arith, above, bit_at_clear_other w32 n k within i below other)

-- no other bit is lost
pub without_bit-other : (n k i : ℕ) → n < 2 ^ 32 → k < 32 → i ≢ k → bit_at (without_bit n k) i ≡ 0 → bit_at n i ≡ 0
without_bit-other n k i small within other none = by (cases_lt i 32)
  where
    by : (i < 32) ⊎ (32 ≤ i) → bit_at n i ≡ 0
    by (inl low) = sym (bit_at_clear_other w32 n k within i low other) ∙ none
    by (inr high) = bit_at_above n 32 i small high

pub below_32 : (n k : ℕ) → n < 2 ^ 32 → bit_at n k ≡ 1 → k < 32
below_32 n k small is = by (cases_lt k 32)
  where
    by : (k < 32) ⊎ (32 ≤ k) → k < 32
    by (inl low) = low
    by (inr high) = absurd (omega (arith, is, bit_at_above n 32 k small high))

-- a member is in one of the words
pub member_below : (set : List ℕ) (count q : ℕ) → length set ≤ count → HasMember set q → q < count * 32
member_below set count q whole has =
    let within = HasBit-within set (q / 32) (q % 32) has in
    omega (arith, within, whole, div-add-mod' q 32, mod_below q 32 (omega arith))

pub member_at : (set : List ℕ) (place bit : ℕ) → get_or set place 0 < 2 ^ 32 → bit_at (get_or set place 0) bit ≡ 1 → HasMember set (place * 32 + bit)
member_at set place bit small is =
    let low : bit < 32 = below_32 (get_or set place 0) bit small is in
    subst (λ p. HasBit set p ((place * 32 + bit) % 32)) (sym (div-mul-add place 32 bit low)) (subst (λ b. HasBit set place b) (sym (mod-mul-add place 32 bit low)) is)

-- the rows of the members but those that are left
abbrev pub RowsHave : List (List BitWord) → ℕ → ℕ → ℕ → ℕ → ℕ → Type 0
RowsHave rows first members rest place bit = (k : ℕ) × (bit_at members k ≡ 1) × (bit_at rest k ≡ 0) × RowHas (row_at rows (first + k)) place bit

module _ (old : List ℕ) (rows : List (List BitWord)) (first members : ℕ) where
  pub RowsHave-none : (place bit : ℕ) → HasBit old place bit ↔ (HasBit old place bit ⊎ RowsHave rows first members members place bit)
  RowsHave-none place bit = ((λ is. inl is), back)
    where
      back : HasBit old place bit ⊎ RowsHave rows first members members place bit → HasBit old place bit
      back (inl is) = is
      back (inr there) = absurd (omega (arith, there.1, there.2))

  pub RowsHave-more : (words new : List ℕ) (rest low : ℕ) → rest < 2 ^ 32 → low < 32 → bit_at rest low ≡ 1 → ((k : ℕ) → bit_at rest k ≡ 1 → bit_at members k ≡ 1)
      → ((place bit : ℕ) → HasBit words place bit ↔ (HasBit old place bit ⊎ RowsHave rows first members rest place bit))
      → AreSet words (row_at rows (first + low)) new
      → (place bit : ℕ) → HasBit new place bit ↔ (HasBit old place bit ⊎ RowsHave rows first members (without_bit rest low) place bit)
  RowsHave-more words new rest low small within is part are one place bit = ((λ has. forth ((one place bit).0 has)), back)
    where
      forth : HasBit words place bit ⊎ RowHas (row_at rows (first + low)) place bit → HasBit old place bit ⊎ RowsHave rows first members (without_bit rest low) place bit
      forth (inr here) = inr (low, part low is, bit_at_clear_same w32 rest low within, here)
      forth (inl before) = by ((are place bit).0 before)
        where
          by : HasBit old place bit ⊎ RowsHave rows first members rest place bit → HasBit old place bit ⊎ RowsHave rows first members (without_bit rest low) place bit
          by (inl was) = inl was
          by (inr there) = inr (there.0, there.1, without_bit-none rest low there.0 there.2, there.3)

      back : HasBit old place bit ⊎ RowsHave rows first members (without_bit rest low) place bit → HasBit new place bit
      back (inl was) = (one place bit).1 (inl ((are place bit).1 (inl was)))
      back (inr there) = by (cases_eq there.0 low)
        where
          by : (there.0 ≡ low) ⊎ (there.0 ≡ low → ⊥) → HasBit new place bit
          by (inl same) = (one place bit).1 (inr (subst (λ k. RowHas (row_at rows (first + k)) place bit) same there.3))
          by (inr other) = (one place bit).1 (inl ((are place bit).1 (inr (there.0, there.1, without_bit-other rest low there.0 small within other there.2, there.3))))

  pub RowsHave-all : (words : List ℕ) (rest : ℕ) → rest ≡ 0 → ((place bit : ℕ) → HasBit words place bit ↔ (HasBit old place bit ⊎ RowsHave rows first members rest place bit)) → AreRowsSet old rows first members words
  RowsHave-all words rest none are place bit = ((λ has. forth ((are place bit).0 has)), back)
    where
      forth : HasBit old place bit ⊎ RowsHave rows first members rest place bit → HasBit old place bit ⊎ ((k : ℕ) × (bit_at members k ≡ 1) × RowHas (row_at rows (first + k)) place bit)
      forth (inl was) = inl was
      forth (inr there) = inr (there.0, there.1, there.3)

      back : HasBit old place bit ⊎ ((k : ℕ) × (bit_at members k ≡ 1) × RowHas (row_at rows (first + k)) place bit) → HasBit words place bit
      back (inl was) = (are place bit).1 (inl was)
      back (inr there) = (are place bit).1 (inr (there.0, there.1, ap (λ n. bit_at n there.0) none ∙ bit_at-zero there.0, there.2))

-- the row at a number
pub row_at-in : (rows : List (Vec BitWord Global)) (number : ℕ) (d : Vec BitWord Global) → number < length rows → row_at (rows_in rows) number ≡ (get_or rows number d).items
row_at-in rows number d within = get_or-map (λ (row : Vec BitWord Global). row.items) rows number d [] within

-- the rows of the members among the first words' bits
abbrev pub MembersHave : List (List BitWord) → List ℕ → ℕ → ℕ → ℕ → Type 0
MembersHave rows set count place bit = (q : ℕ) × (q < count * 32) × HasMember set q × RowHas (row_at rows q) place bit

module _ (rows : List (List BitWord)) (set : List ℕ) where
  pub MembersHave-more : (words new : List ℕ) (count : ℕ) → get_or set count 0 < 2 ^ 32 → ((place bit : ℕ) → HasBit words place bit ↔ MembersHave rows set count place bit)
      → AreRowsSet words rows (count * 32) (get_or set count 0) new → (place bit : ℕ) → HasBit new place bit ↔ MembersHave rows set (count + 1) place bit
  MembersHave-more words new count small are one place bit = ((λ has. forth ((one place bit).0 has)), (λ there. back there (cases_lt there.0 (count * 32))))
    where
      forth : HasBit words place bit ⊎ ((k : ℕ) × (bit_at (get_or set count 0) k ≡ 1) × RowHas (row_at rows (count * 32 + k)) place bit) → MembersHave rows set (count + 1) place bit
      forth (inl before) = let there = (are place bit).0 before in (there.0, omega (arith, there.1), there.2, there.3)
      forth (inr here) =
          let low : here.0 < 32 = below_32 (get_or set count 0) here.0 small here.1 in
          (count * 32 + here.0, omega (arith, low), member_at set count here.0 small here.1, here.2)

      back : (there : MembersHave rows set (count + 1) place bit) → (there.0 < count * 32) ⊎ (count * 32 ≤ there.0) → HasBit new place bit
      back there (inl early) = (one place bit).1 (inl ((are place bit).1 (there.0, early, there.2, there.3)))
      back there (inr late) =
          let k : ℕ = there.0 - count * 32 in
          let small : k < 32 = omega (arith, there.1, late) in
          let is : there.0 ≡ count * 32 + k = omega (arith, late) in
          let row : there.0 / 32 ≡ count = ap (λ q. q / 32) is ∙ div-mul-add count 32 k small in
          let column : there.0 % 32 ≡ k = ap (λ q. q % 32) is ∙ mod-mul-add count 32 k small in
          (one place bit).1 (inr (k, subst (λ b. HasBit set count b) column (subst (λ p. HasBit set p (there.0 % 32)) row there.2), subst (λ q. RowHas (row_at rows q) place bit) is there.3))

  pub MembersHave-all : (words : List ℕ) (count : ℕ) → length set ≤ count → ((place bit : ℕ) → HasBit words place bit ↔ MembersHave rows set count place bit) → AreUnited rows set words
  MembersHave-all words count whole are place bit = (
    (λ has. let there = (are place bit).0 has in (there.0, there.2, there.3)),
    (λ there. (are place bit).1 (there.0, member_below set count there.0 whole there.1, there.1, there.2)),
  )

-- the numbers of a test below one more
pub filter-range_more : (p : ℕ → Bool) (n : ℕ) → filter p (range_with_len 0 (n + 1)) ≡ filter p (range_with_len 0 n) ++ cond (p n) (n ∷ []) []
filter-range_more p n =
    ap (filter p) (sym (map-same (range_with_len 0 (n + 1)))) ∙ filter_of_map_range_with_len_more p (λ q. q) 0 n n (omega arith) ∙ ap (λ xs. filter p xs ++ cond (p n) (n ∷ []) []) (map-same (range_with_len 0 n))
  where
    map-same : (xs : List ℕ) → map (λ q. q) xs ≡ xs
    map-same [] = refl
    map-same (x ∷ xs) = ap (λ ys. x ∷ ys) (map-same xs)

-- a row more
pub rows_push : (rows : List (Vec BitWord Global)) (row : Vec BitWord Global) (f : ℕ → List BitWord) (k : ℕ) → length rows ≡ k → ((q : ℕ) → q < k → row_at (rows_in rows) q ≡ f q) → row.items ≡ f k
    → (q : ℕ) → q < k + 1 → row_at (rows_in (rows ++ row ∷ [])) q ≡ f q
rows_push rows row f k count are last q small = by (cases_eq q k)
  where
    size : length (rows_in rows) ≡ k
    size = length-map rows (λ (r : Vec BitWord Global). r.items) ∙ count

    pushed : rows_in (rows ++ row ∷ []) ≡ rows_in rows ++ row.items ∷ []
    pushed = map-append (λ (r : Vec BitWord Global). r.items) rows (row ∷ [])

    by : (q ≡ k) ⊎ (q ≡ k → ⊥) → row_at (rows_in (rows ++ row ∷ [])) q ≡ f q
    by (inl same) = ap (λ rs. row_at rs q) pushed ∙ get_or_push (rows_in rows) row.items [] q (size ∙ sym same) ∙ last ∙ ap f (sym same)
    by (inr other) = let below : q < length (rows_in rows) = omega (arith, size, small, other) in
        ap (λ rs. row_at rs q) pushed ∙ get_or_append_left (rows_in rows) (row.items ∷ []) [] q below ∙ are q (omega (arith, small, other))

-- the words of transitions by letters of the alphabet
pub words_within : (letters states width : ℕ) (transitions : List Transition) → states ≤ 32 * width → All (λ transition. (transition.letter < letters) × (transition.target < states)) transitions → All (λ word. word.place < letters * width) (map (word_of width) transitions)
words_within letters states width transitions wide inside =
    All-map (λ (word : BitWord). word.place < letters * width) (word_of width) transitions
    (λ k d within. let one = inside k d within in
    let column : (get_or transitions k d).target / 32 < width = div_below (get_or transitions k d).target 32 width (omega arith) (omega (arith, one.1, wide)) in
    omega (arith, mul-add-lt (get_or transitions k d).letter width ((get_or transitions k d).target / 32) letters one.0 column))

-- the rows of one more member of a list
pub AreGathered-more : (rows : List (List BitWord)) (set : List ℕ) (k : ℕ) (words new : List ℕ) → k < length set → AreGathered rows (take k set) words → AreSet words (row_at rows (get_or set k 0)) new → AreGathered rows (take (k + 1) set) new
AreGathered-more rows set k words new within are one place bit = ((λ has. forth ((one place bit).0 has)), (λ there. (one place bit).1 (back there (Contains-push_cases (take k set) (get_or set k 0) there.0 (subst (λ xs. Contains xs there.0) (take_more set k 0 within) there.1)))))
  where
    forth : HasBit words place bit ⊎ RowHas (row_at rows (get_or set k 0)) place bit → (q : ℕ) × Contains (take (k + 1) set) q × RowHas (row_at rows q) place bit
    forth (inl before) = let there = (are place bit).0 before in (there.0, subst (λ xs. Contains xs there.0) (sym (take_more set k 0 within)) (Contains-append_left (take k set) (get_or set k 0 ∷ []) there.0 there.1), there.2)
    forth (inr here) = (get_or set k 0, subst (λ xs. Contains xs (get_or set k 0)) (sym (take_more set k 0 within)) (Contains-push (take k set) (get_or set k 0)), here)

    back : (there : (q : ℕ) × Contains (take (k + 1) set) q × RowHas (row_at rows q) place bit) → Contains (take k set) there.0 ⊎ (get_or set k 0 ≡ there.0) → HasBit words place bit ⊎ RowHas (row_at rows (get_or set k 0)) place bit
    back there (inl early) = inl ((are place bit).1 (there.0, early, there.2))
    back there (inr last) = inr (subst (λ q. RowHas (row_at rows q) place bit) (sym last) there.2)
