-- Transductions are runs over the letters that places have.
use Rattle.std.proofs.Common.{◌≡◌, ◌↔◌, ℕ, ℤ, zero, suc, ◌+◌, ◌*◌, ◌/◌, ◌%◌, ◌^◌, ◌<◌, ◌≤◌, List, [], ◌∷◌, ◌++◌, length, Option, None, Some, refl, sym, ap, ◌∙◌, subst, length-append, arith}
use Rattle.std.specs.Option.{option_and_then, option_map}
use Rattle.std.proofs.Math.Nat.{pow-zero, pow-suc}
use Rattle.std.proofs.lemmas.Nat.{div-add-mod', div_below, mod_below, same_from_place}
use Rattle.std.proofs.lemmas.Option.{none-some, same_Some}
use Rattle.digit_tuple.specs.Letters.{IsWord}
use Rattle.digit_tuple.specs.Paddings.{zeros}
use Rattle.digit_tuple.proofs.PaddingLemmas.{IsWord-zeros}
use Rattle.digit_tuple.proofs.WordLemmas.{IsWord-append}
use Rattle.base_k.specs.Positional.{value}
use Rattle.transducer_reading.specs.LetterRuns.{Makes, RunsTo}
use Rattle.transducer_reading.specs.Transducers.{Transducer, target_of, output_of}
use Rattle.word_output.specs.LetterFunctions.{LetterFunctionValue, letter_after}
use Rattle.word_transduce.specs.Blocks.{base_of, block, numeral, place_of}
use Rattle.word_transduce.specs.LetterRuns.{HasLetterAt, IgnoresZeros, TransductionsAreRuns}
use Rattle.word_transduce.specs.Runs.{made_of, output_at, run}
use Rattle.word_transduce.proofs.BlockLemmas.{place_below, value_below}
use Rattle.word_transduce.proofs.RunLemmas.{make, next_state}

-- where there are words of a digit more, there are words
below_positive : (k j n : ℕ) → n < k ^ suc j → 0 < k ^ j
below_positive k j n small = by (k ^ j) refl
  where
    by : (p : ℕ) → k ^ j ≡ p → 0 < k ^ j
    by zero none = let all : k ^ j * k ≡ 0 * k = ap (λ p. p * k) none in absurd (omega (arith, small, pow-suc k j, all))
    by (suc p) is = omega (arith, is)

-- numerals are words, with their values
pub numeral_over : (k j n : ℕ) → n < k ^ j → IsWord k (numeral k j n)
numeral_over k zero n small = tt
numeral_over k (suc j) n small =
    let positive = below_positive k j n small in
    (div_below n (k ^ j) k positive (omega (arith, small, pow-suc k j)), numeral_over k j (n % k ^ j) (mod_below n (k ^ j) positive))

length-numeral : (k j n : ℕ) → length (numeral k j n) ≡ j
length-numeral k zero n = refl
length-numeral k (suc j) n = ap suc (length-numeral k j (n % k ^ j))

pub numeral_value : (k j n : ℕ) → n < k ^ j → value k (numeral k j n) ≡ n
numeral_value k zero n small = omega (arith, small, pow-zero k)
numeral_value k (suc j) n small =
    let positive = below_positive k j n small in
    let rest = numeral_value k j (n % k ^ j) (mod_below n (k ^ j) positive) in
    ap (λ m. n / k ^ j * k ^ m + value k (numeral k j (n % k ^ j))) (length-numeral k j (n % k ^ j)) ∙ ap (λ m. n / k ^ j * k ^ j + m) rest ∙ div-add-mod' n (k ^ j)

-- words of one length with one value are equal
same_value : (k : ℕ) (w v : List ℕ) → IsWord k w → IsWord k v → length w ≡ length v → value k w ≡ value k v → w ≡ v
same_value k [] [] over there long same = refl
same_value k [] (b ∷ v) over there long same = absurd (omega (arith, long))
same_value k (a ∷ w) [] over there long same = absurd (omega (arith, long))
same_value k (a ∷ w) (b ∷ v) over there long same =
    let tails : length w ≡ length v = omega (arith, long) in
    let less : value k v < k ^ length w = subst (λ n. value k v < k ^ n) (sym tails) (value_below k v there.1) in
    let heads : a * k ^ length w + value k w ≡ b * k ^ length w + value k v = same ∙ ap (λ n. b * k ^ n + value k v) (sym tails) in
    let both = same_from_place a (value k w) b (value k v) (k ^ length w) (value_below k w over.1) less heads in
    ap (λ (x : ℕ). x ∷ w) both.0 ∙ ap (λ (u : List ℕ). b ∷ u) (same_value k w v over.1 there.1 tails both.1)

zeros_value : (k m : ℕ) (w : List ℕ) → value k (zeros m ++ w) ≡ value k w
zeros_value k zero w = refl
zeros_value k (suc m) w = let rest = zeros_value k m w in omega (arith, rest)

length-zeros : (m : ℕ) → length (zeros m) ≡ m
length-zeros zero = refl
length-zeros (suc m) = ap suc (length-zeros m)

module _ (f : LetterFunctionValue) (ignores : IgnoresZeros f) where
  zeros_letter : (m : ℕ) (w : List ℕ) → 0 < base_of f → IsWord (base_of f) w → letter_after f (zeros m ++ w) ≡ letter_after f w
  zeros_letter zero w some over = refl
  zeros_letter (suc m) w some over = ignores (zeros m ++ w) (IsWord-append (base_of f) (zeros m) w (IsWord-zeros (base_of f) m some) over) ∙ zeros_letter m w some over

  -- words of one value have one letter
  same_letter : (w v : List ℕ) → 0 < base_of f → IsWord (base_of f) w → IsWord (base_of f) v → value (base_of f) w ≡ value (base_of f) v → letter_after f w ≡ letter_after f v
  same_letter w v some over there same =
      sym (zeros_letter (length v) w some over)
      ∙ ap (letter_after f) (same_value (base_of f) (zeros (length v) ++ w) (zeros (length w) ++ v)
      (IsWord-append (base_of f) (zeros (length v)) w (IsWord-zeros (base_of f) (length v) some) over) (IsWord-append (base_of f) (zeros (length w)) v (IsWord-zeros (base_of f) (length w) some) there)
      (omega (arith, length-append (zeros (length v)) w, length-append (zeros (length w)) v, length-zeros (length v), length-zeros (length w)))
      (zeros_value (base_of f) (length v) w ∙ same ∙ sym (zeros_value (base_of f) (length w) v)))
      ∙ zeros_letter (length w) v some there

  one_letter : (w v : List ℕ) → IsWord (base_of f) w → IsWord (base_of f) v → value (base_of f) w ≡ value (base_of f) v → letter_after f w ≡ letter_after f v
  one_letter [] [] over there same = refl
  one_letter [] (b ∷ v) over there same = same_letter [] (b ∷ v) (omega (arith, there.0)) over there same
  one_letter (a ∷ w) v over there same = same_letter (a ∷ w) v (omega (arith, over.0)) over there same

  module _ (t : Transducer) (j : ℕ) where
    -- the letters of the first block are those that places have
    at_place : (i : ℕ) (a : ℤ) → i < base_of f ^ j → (block f j [] i ≡ Some a) ↔ HasLetterAt f i a
    at_place i a small = (
      (λ is. (numeral (base_of f) j i, numeral_over (base_of f) j i small, numeral_value (base_of f) j i small, is)),
      (λ has. one_letter (numeral (base_of f) j i) has.0 (numeral_over (base_of f) j i small) has.1 (numeral_value (base_of f) j i small ∙ sym has.2) ∙ has.3),
    )

    -- and the runs over them lead to the same states
    runs_to : (n q : ℕ) → n ≤ base_of f ^ j → (run t (block f j []) n (Some 0) ≡ Some q) ↔ RunsTo t (HasLetterAt f) n q
    runs_to zero q small = ((λ is. sym (same_Some 0 q is)), (λ is. ap Some (sym is)))
    runs_to (suc n) q small = (forth (run t (block f j []) n (Some 0)) (block f j [] n) (λ p. (runs_to n p (omega (arith, small))).0) (λ a. (at_place n a (omega (arith, small))).0), back (λ p. (runs_to n p (omega (arith, small))).1))
      where
        forth : (o : Option ℕ) (l : Option ℤ) → ((p : ℕ) → o ≡ Some p → RunsTo t (HasLetterAt f) n p) → ((a : ℤ) → l ≡ Some a → HasLetterAt f n a) → next_state t l o ≡ Some q → RunsTo t (HasLetterAt f) (suc n) q
        forth None l runs has is = absurd (none-some q is)
        forth (Some p) None runs has is = absurd (none-some q is)
        forth (Some p) (Some a) runs has is = (p, a, runs p refl, has a refl, is)

        back : ((p : ℕ) → RunsTo t (HasLetterAt f) n p → run t (block f j []) n (Some 0) ≡ Some p) → RunsTo t (HasLetterAt f) (suc n) q → run t (block f j []) (suc n) (Some 0) ≡ Some q
        back runs (p, a, to, has, is) = ap (next_state t (block f j [] n)) (runs p to) ∙ ap (option_and_then (λ a. target_of t p a)) ((at_place n a (omega (arith, small))).1 has) ∙ is

    -- so they make the same outputs
    makes : (n : ℕ) (b : ℤ) → n < base_of f ^ j → (output_at t (block f j []) n ≡ Some b) ↔ Makes t (HasLetterAt f) n b
    makes n b small = (
      forth (run t (block f j []) n (Some 0)) (block f j [] n) (λ p. (runs_to n p (omega (arith, small))).0) (λ a. (at_place n a small).0),
      (λ made. back made.0 made.1 ((runs_to n made.0 (omega (arith, small))).1 made.2) ((at_place n made.1 small).1 made.3) made.4),
    )
      where
        output : (p : ℕ) (o : Option ℤ) → option_map (λ (x : ℕ × ℤ). x.1) (option_map (λ b. (p, b)) o) ≡ o
        output p None = refl
        output p (Some c) = refl

        forth : (o : Option ℕ) (l : Option ℤ) → ((p : ℕ) → o ≡ Some p → RunsTo t (HasLetterAt f) n p) → ((a : ℤ) → l ≡ Some a → HasLetterAt f n a) → option_map (λ (x : ℕ × ℤ). x.1) (make t l o) ≡ Some b → Makes t (HasLetterAt f) n b
        forth None l runs has is = absurd (none-some b is)
        forth (Some p) None runs has is = absurd (none-some b is)
        forth (Some p) (Some a) runs has is = (p, a, runs p refl, has a refl, sym (output p (output_of t p a)) ∙ is)

        back : (p : ℕ) (a : ℤ) → run t (block f j []) n (Some 0) ≡ Some p → block f j [] n ≡ Some a → output_of t p a ≡ Some b → output_at t (block f j []) n ≡ Some b
        back p a leads letter is =
            ap (λ o. option_map (λ (x : ℕ × ℤ). x.1) (make t (block f j [] n) o)) leads
            ∙ ap (λ l. option_map (λ (x : ℕ × ℤ). x.1) (made_of t p l)) letter
            ∙ output p (output_of t p a) ∙ is

-- a word represents a place of the first block of as many digits
pub transductions_are_runs : TransductionsAreRuns
transductions_are_runs t f transduced is ignores w b over =
    let made = makes f ignores t (length w) (place_of (base_of f) w) b (place_below (base_of f) w over) in
    ((λ has. made.0 (sym (is.letters w over) ∙ has)), (λ has. is.letters w over ∙ made.1 has))
