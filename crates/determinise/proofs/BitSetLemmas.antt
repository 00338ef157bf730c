-- Sets of numbers as bits.
use Rattle.std.proofs.Common.{◌≡◌, ℕ, zero, suc, ◌*◌, ◌/◌, ◌%◌, ◌^◌, ◌<◌, true, false, List, [], ◌∷◌, replicate, length, set, get_or, None, Some, ◌↔◌, ◌⊎◌, inl, inr, refl, sym, ap, ◌∙◌, subst, eq-eqb, length-set, arith}
use Rattle.std.specs.Prelude.{◌==◌, not, bit_or, if◌then◌else◌}
use Rattle.std.specs.Int.{bit_at}
use Rattle.std.specs.List.{All, AllPairs, Contains, list_any, range_with_len}
use Rattle.std.specs.Option.{option_map}
use Rattle.std.proofs.lemmas.Bool.{cases_eq, eqb-true, ne_eqb}
use Rattle.std.proofs.lemmas.List.{ext_get_or, length-replicate}
use Rattle.std.proofs.lemmas.List.Elements.{All-head, All-tail, All-contains, All-weaker, Contains-get_or}
use Rattle.std.proofs.lemmas.List.Kept.{AllPairs-filter}
use Rattle.std.proofs.lemmas.Nat.{div-add-mod', div_below, mod_below, one_shl}
use Rattle.std.proofs.lemmas.Nat.Bits.{bit_at-lt, bit_at-zero, bit_at-pow_same, bit_at-pow_other, same_from_bits}
use Rattle.digit_tuple.specs.Groups.{some_set}
use Rattle.digit_tuple.proofs.MemberLemmas.{Contains-head, Contains-tail, Contains-cases, Contains-none, Contains-filter, Contains-from_filter, list_any-contains, same_ascending}
use Rattle.digit_tuple.specs.Keys.{some_nonzero}
use Rattle.determinise.specs.Bits.{HasBit, HasMember, with_bit, with_bits, bits_of, members_of}
use Rattle.determinise.specs.SubsetLaws.{All-range, AllPairs-range}
use Rattle.determinise.proofs.BitLemmas.{HasBit-or, HasBit-replicate, HasBit-within}
use Rattle.determinise.proofs.SubsetLemmas.{Contains-range}

-- the bit of a number is at the place
abbrev pub IsBitAt : ℕ → ℕ → ℕ → Type 0
IsBitAt number place bit = (number / 32 ≡ place) × (number % 32 ≡ bit)

same_number : (x y : ℕ) → IsBitAt x (y / 32) (y % 32) → x ≡ y
same_number x y bit_is = omega (arith, bit_is.0, bit_is.1, div-add-mod' x 32, div-add-mod' y 32)

pub only_bit : (k b : ℕ) → (bit_at (2 ^ k) b ≡ 1) ↔ (k ≡ b)
only_bit k b = ((λ is. forth is (cases_eq b k)), (λ same. subst (λ i. bit_at (2 ^ k) i ≡ 1) same (bit_at-pow_same k)))
  where
    forth : bit_at (2 ^ k) b ≡ 1 → (b ≡ k) ⊎ (b ≡ k → ⊥) → k ≡ b
    forth is (inl same) = sym same
    forth is (inr other) = absurd (omega (arith, is, bit_at-pow_other k b other))

HasBit-with_bit : (words : List ℕ) (number : ℕ) → number / 32 < length words → (place bit : ℕ) → HasBit (with_bit words number) place bit ↔ (HasBit words place bit ⊎ IsBitAt number place bit)
HasBit-with_bit words number within place bit = ((λ is. forth (one.0 is)), (λ is. one.1 (back is)))
  where
    one : HasBit (with_bit words number) place bit ↔ (HasBit words place bit ⊎ ((number / 32 ≡ place) × (bit_at (2 ^ (number % 32)) bit ≡ 1)))
    one = HasBit-or words (number / 32) (2 ^ (number % 32)) within place bit

    forth : HasBit words place bit ⊎ ((number / 32 ≡ place) × (bit_at (2 ^ (number % 32)) bit ≡ 1)) → HasBit words place bit ⊎ IsBitAt number place bit
    forth (inl is) = inl is
    forth (inr here) = inr (here.0, (only_bit (number % 32) bit).0 here.1)

    back : HasBit words place bit ⊎ IsBitAt number place bit → HasBit words place bit ⊎ ((number / 32 ≡ place) × (bit_at (2 ^ (number % 32)) bit ≡ 1))
    back (inl is) = inl is
    back (inr here) = inr (here.0, (only_bit (number % 32) bit).1 here.1)

-- the bit of a number set as `|=` sets it
pub with_bit-set : (words : List ℕ) (number word : ℕ) → word ≡ get_or words (number / 32) 0 → set words (number / 32) (bit_or word ((1 * 2 ^ (number % 32)) % 2 ^ 32)) ≡ with_bit words number
with_bit-set words number word read =
    ap (λ w. set words (number / 32) (bit_or w ((1 * 2 ^ (number % 32)) % 2 ^ 32))) read
    ∙ ap (λ b. set words (number / 32) (bit_or (get_or words (number / 32) 0) b)) (one_shl (number % 32) 32 (mod_below number 32 (omega arith)))

pub length-with_bits : (words numbers : List ℕ) → length (with_bits words numbers) ≡ length words
length-with_bits words [] = refl
length-with_bits words (x ∷ xs) = length-with_bits (with_bit words x) xs ∙ length-set words (x / 32) (bit_or (get_or words (x / 32) 0) (2 ^ (x % 32)))

pub length-bits_of : (width : ℕ) (numbers : List ℕ) → length (bits_of width numbers) ≡ width
length-bits_of width numbers = length-with_bits (replicate width 0) numbers ∙ length-replicate {A = ℕ} width 0

HasBit-with_bits : (words numbers : List ℕ) → All (λ x. x / 32 < length words) numbers → (place bit : ℕ)
    → HasBit (with_bits words numbers) place bit ↔ (HasBit words place bit ⊎ ((x : ℕ) × Contains numbers x × IsBitAt x place bit))
HasBit-with_bits words [] inside place bit = ((λ is. inl is), back)
  where
    back : HasBit words place bit ⊎ ((x : ℕ) × Contains [] x × IsBitAt x place bit) → HasBit words place bit
    back (inl is) = is
    back (inr there) = absurd (Contains-none there.0 there.1)
HasBit-with_bits words (x ∷ xs) inside place bit =
    let size : length (with_bit words x) ≡ length words = length-set words (x / 32) (bit_or (get_or words (x / 32) 0) (2 ^ (x % 32))) in
    let rest = HasBit-with_bits (with_bit words x) xs (All-weaker (λ y. y / 32 < length words) (λ y. y / 32 < length (with_bit words x)) (λ y low. subst (λ l. y / 32 < l) (sym size) low) xs (All-tail (λ y. y / 32 < length words) x xs inside)) place bit in
    ((λ is. forth (rest.0 is)), (λ is. rest.1 (back is)))
  where
    one : HasBit (with_bit words x) place bit ↔ (HasBit words place bit ⊎ IsBitAt x place bit)
    one = HasBit-with_bit words x (All-head (λ y. y / 32 < length words) x xs inside) place bit

    forth : HasBit (with_bit words x) place bit ⊎ ((y : ℕ) × Contains xs y × IsBitAt y place bit) → HasBit words place bit ⊎ ((y : ℕ) × Contains (x ∷ xs) y × IsBitAt y place bit)
    forth (inr later) = inr (later.0, Contains-tail x xs later.0 later.1, later.2)
    forth (inl is) = by (one.0 is)
      where
        by : HasBit words place bit ⊎ IsBitAt x place bit → HasBit words place bit ⊎ ((y : ℕ) × Contains (x ∷ xs) y × IsBitAt y place bit)
        by (inl was) = inl was
        by (inr here) = inr (x, Contains-head x xs, here)

    back : HasBit words place bit ⊎ ((y : ℕ) × Contains (x ∷ xs) y × IsBitAt y place bit) → HasBit (with_bit words x) place bit ⊎ ((y : ℕ) × Contains xs y × IsBitAt y place bit)
    back (inl was) = inl (one.1 (inl was))
    back (inr there) = by (Contains-cases x xs there.0 there.1)
      where
        by : (x ≡ there.0) ⊎ Contains xs there.0 → HasBit (with_bit words x) place bit ⊎ ((y : ℕ) × Contains xs y × IsBitAt y place bit)
        by (inl same) = inl (one.1 (inr (subst (λ y. IsBitAt y place bit) (sym same) there.2)))
        by (inr later) = inr (there.0, later, there.2)

-- the members are the numbers whose bits are set
pub members_of-iff : (n : ℕ) (words : List ℕ) (q : ℕ) → Contains (members_of n words) q ↔ ((q < n) × HasMember words q)
members_of-iff n words q = (
  (λ there. let both = Contains-from_filter (λ x. bit_at (get_or words (x / 32) 0) (x % 32) == 1) (range_with_len 0 n) q there in
      (All-contains (λ x. x < n) (range_with_len 0 n) q (All-range n) both.0, eqb-true (bit_at (get_or words (q / 32) 0) (q % 32)) 1 both.1)),
  (λ both. Contains-filter (λ x. bit_at (get_or words (x / 32) 0) (x % 32) == 1) (range_with_len 0 n) q (Contains-range n q both.0) (eq-eqb (bit_at (get_or words (q / 32) 0) (q % 32)) 1 both.1)),
)

module _ (width : ℕ) (numbers : List ℕ) (small : All (λ x. x < 32 * width) numbers) where
  -- the bits are those of the numbers
  pub HasBit-bits_of : (place bit : ℕ) → HasBit (bits_of width numbers) place bit ↔ ((x : ℕ) × Contains numbers x × IsBitAt x place bit)
  HasBit-bits_of place bit = ((λ is. forth (all.0 is)), (λ there. all.1 (inr there)))
    where
      all : HasBit (bits_of width numbers) place bit ↔ (HasBit (replicate width 0) place bit ⊎ ((x : ℕ) × Contains numbers x × IsBitAt x place bit))
      all = HasBit-with_bits (replicate width 0) numbers
          (All-weaker (λ x. x < 32 * width) (λ x. x / 32 < length {A = ℕ} (replicate width 0)) (λ x low. let below = div_below x 32 width (omega arith) (omega (arith, low)) in omega (arith, below, length-replicate {A = ℕ} width 0)) numbers small) place bit

      forth : HasBit (replicate width 0) place bit ⊎ ((x : ℕ) × Contains numbers x × IsBitAt x place bit) → (x : ℕ) × Contains numbers x × IsBitAt x place bit
      forth (inl none) = absurd (HasBit-replicate width place bit none)
      forth (inr there) = there

  -- the members are the numbers
  pub HasMember-bits_of : (q : ℕ) → HasMember (bits_of width numbers) q ↔ Contains numbers q
  HasMember-bits_of q = (
    (λ is. let there = (HasBit-bits_of (q / 32) (q % 32)).0 is in subst (Contains numbers) (same_number there.0 q there.2) there.1),
    (λ there. (HasBit-bits_of (q / 32) (q % 32)).1 (q, there, (refl, refl))),
  )

  pub members_of-bits_of : (n : ℕ) → All (λ x. x < n) numbers → AllPairs (λ x y. x < y) numbers → members_of n (bits_of width numbers) ≡ numbers
  members_of-bits_of n below ascending = same_ascending (members_of n (bits_of width numbers)) numbers
      (AllPairs-filter (λ x y. x < y) (λ q. bit_at (get_or (bits_of width numbers) (q / 32) 0) (q % 32) == 1) (range_with_len 0 n) (AllPairs-range n)) ascending
      (λ q there. (HasMember-bits_of q).0 ((members_of-iff n (bits_of width numbers) q).0 there).1)
      (λ q there. (members_of-iff n (bits_of width numbers) q).1 (All-contains (λ x. x < n) numbers q below there, (HasMember-bits_of q).1 there))

-- words with the same bits are the same
pub same_bits : (words others : List ℕ) → length words ≡ length others → ((place bit : ℕ) → HasBit words place bit ↔ HasBit others place bit) → words ≡ others
same_bits words others size iff = ext_get_or 0 words others size
    (λ place within. same_from_bits (get_or words place 0) (get_or others place 0) (λ bit. same (bit_at (get_or words place 0) bit) (bit_at (get_or others place 0) bit) (bit_at-lt (get_or words place 0) bit) (bit_at-lt (get_or others place 0) bit) (iff place bit)))
  where
    same : (x y : ℕ) → x < 2 → y < 2 → (x ≡ 1) ↔ (y ≡ 1) → x ≡ y
    same x y small few both = by (cases_eq x 1) (cases_eq y 1)
      where
        by : (x ≡ 1) ⊎ (x ≡ 1 → ⊥) → (y ≡ 1) ⊎ (y ≡ 1 → ⊥) → x ≡ y
        by (inl one) other = one ∙ sym (both.0 one)
        by (inr none) (inl one) = absurd (none (both.1 one))
        by (inr none) (inr other) = omega (arith, none, other)

-- bits of a set that is not empty are some
pub some_nonzero-bits_of : (width : ℕ) (numbers : List ℕ) → All (λ x. x < 32 * width) numbers → some_nonzero (bits_of width numbers) ≡ option_map (bits_of width) (some_set numbers)
some_nonzero-bits_of width [] small = ap (λ b. if b then Some (replicate width 0) else None) (none width)
  where
    none : (w : ℕ) → list_any (λ word. not (word == 0)) (replicate w 0) ≡ false
    none zero = refl
    none (suc w) = none w
some_nonzero-bits_of width (x ∷ xs) small = ap (λ b. if b then Some (bits_of width (x ∷ xs)) else None) some
  where
    some : list_any (λ word. not (word == 0)) (bits_of width (x ∷ xs)) ≡ true
    some = by (get_or (bits_of width (x ∷ xs)) (x / 32) 0) refl
      where
        has : HasMember (bits_of width (x ∷ xs)) x
        has = (HasMember-bits_of width (x ∷ xs) small x).1 (Contains-head x xs)

        by : (word : ℕ) → get_or (bits_of width (x ∷ xs)) (x / 32) 0 ≡ word → list_any (λ word. not (word == 0)) (bits_of width (x ∷ xs)) ≡ true
        by zero is = absurd (omega (arith, sym has ∙ ap (λ w. bit_at w (x % 32)) is ∙ bit_at-zero (x % 32)))
        by (suc word) is = list_any-contains (λ word. not (word == 0)) (bits_of width (x ∷ xs)) (get_or (bits_of width (x ∷ xs)) (x / 32) 0)
            (Contains-get_or (bits_of width (x ∷ xs)) (x / 32) 0 (HasBit-within (bits_of width (x ∷ xs)) (x / 32) (x % 32) has)) (ap (λ w. not (w == 0)) is ∙ ap not (ne_eqb (suc word) 0 (λ same. omega (arith, same))))
