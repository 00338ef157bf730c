-- Decimal digits, read again.
use Rattle.std.proofs.Common.{◌≡◌, ℕ, suc, ◌+◌, ◌-◌, ◌*◌, ◌/◌, ◌%◌, ◌^◌, ◌<◌, Bool, true, false, eqb, List, [], ◌∷◌, ◌++◌, length, drop, decimal, ℤ, pos, negsuc, neg_ℤ, refl, ap, ◌∙◌, arith, not, ◌==◌, ◌&&◌}
use Rattle.std.specs.Prelude.{if◌then◌else◌}
use Rattle.std.specs.Fmt.{signed_decimal}
use Rattle.std.specs.List.{AllByRecursion}
use Rattle.std.proofs.lemmas.Bool.Decides.{nat_tests}
use Rattle.std.proofs.lemmas.List.{length-append}
use Rattle.std.proofs.lemmas.Fmt.{decimal_by_steps}
use Rattle.text_grammar.specs.declared.class.Class.TheVariants.{Digit}
use Rattle.text_grammar.specs.Bytes.{is_digit}
use Rattle.text_grammar.specs.Prefixes.{prefix_len}
use Rattle.text_grammar.specs.Numbers.{begins_with, value_after, value_of, signed, is_short, are_digits, is_number, number_of}

is_digit-glyph : (d : ℕ) → d < 10 → is_digit (48 + d) ≡ true
is_digit-glyph d h = grind (arith, nat_tests)

value_after-append : (n : ℕ) (xs ys : List ℕ) → value_after n (xs ++ ys) ≡ value_after (value_after n xs) ys
value_after-append n [] ys = refl
value_after-append n (x ∷ xs) ys = value_after-append (10 * n + (x - 48)) xs ys

all_append : (P : ℕ → Type 0) (xs ys : List ℕ) → AllByRecursion P xs → AllByRecursion P ys → AllByRecursion P (xs ++ ys)
all_append P [] ys h k = k
all_append P (x ∷ xs) ys h k = (h.0, all_append P xs ys h.1 k)

-- digits that denote a number
pub record AreDigitsOf (n : ℕ) (ds : List ℕ) : Type 0 where
  pub value : value_of ds ≡ n
  pub some : 0 < length ds
  pub digits : AllByRecursion (λ b. is_digit b ≡ true) ds

pub digits_of : (n : ℕ) → n < 2 ^ 64 → AreDigitsOf n (decimal n)
digits_of = decimal_by_steps AreDigitsOf
    (λ n h. record { value = let e : 10 * 0 + (48 + n - 48) ≡ n = omega arith in e; some = omega arith; digits = (is_digit-glyph n h, tt) })
    (λ n ds h p. let below : n % 10 < 10 = omega arith in let before = p.value in record {
      value = value_after-append 0 ds ((48 + n % 10) ∷ []) ∙ (ap (λ k. 10 * k + (48 + n % 10 - 48)) before ∙ (let e : 10 * (n / 10) + (48 + n % 10 - 48) ≡ n = omega arith in e));
      some = omega (arith, length-append ds ((48 + n % 10) ∷ []));
      digits = all_append (λ b. is_digit b ≡ true) ds ((48 + n % 10) ∷ []) p.digits (is_digit-glyph (n % 10) below, tt);
    })

-- digits have no sign
pub no_sign : (ds : List ℕ) → AllByRecursion (λ b. is_digit b ≡ true) ds → begins_with 45 ds ≡ false
no_sign [] h = refl
no_sign (d ∷ ds) h = let digit = h.0 in grind (arith, nat_tests)

pub all_digits : (ds : List ℕ) → AllByRecursion (λ b. is_digit b ≡ true) ds → prefix_len Digit ds ≡ length ds
all_digits [] all = refl
all_digits (d ∷ ds) all = ap (λ (b : Bool). if b then suc (prefix_len Digit ds) else 0) all.0 ∙ ap suc (all_digits ds all.1)

pub digits_are : (n : ℕ) (ds : List ℕ) → AreDigitsOf n ds → are_digits ds ≡ true
digits_are n ds p =
    let some : 0 < length ds = p.some in
    let nonzero : eqb (length ds) 0 ≡ false = grind (arith, nat_tests) in
    let whole : eqb (length ds) (length ds) ≡ true = grind (arith, nat_tests) in
    ap (λ (b : Bool). not b && (prefix_len Digit ds == length ds)) nonzero ∙ (ap (λ k. eqb k (length ds)) (all_digits ds p.digits) ∙ whole)

-- a printed number is one
pub record IsNumberOf (z : ℤ) (text : List ℕ) : Type 0 where
  pub is : is_number text ≡ true
  pub value : number_of text ≡ z
  pub some : 0 < length text

pub plain_number : (n : ℕ) (ds : List ℕ) → AreDigitsOf n ds → IsNumberOf (pos n) ds
plain_number n ds p = record {
  is = ap (λ (b : Bool). are_digits (if b then drop 1 ds else ds)) (no_sign ds p.digits) ∙ digits_are n ds p;
  value = ap (λ (b : Bool). signed b (value_of (if b then drop 1 ds else ds))) (no_sign ds p.digits) ∙ ap pos p.value;
  some = p.some;
}

pub negative_number : (n : ℕ) (ds : List ℕ) → AreDigitsOf (suc n) ds → IsNumberOf (negsuc n) (45 ∷ ds)
negative_number n ds p = record { is = digits_are (suc n) ds p; value = ap (λ k. neg_ℤ (pos k)) p.value; some = omega arith }

pub printed_number : (z : ℤ) → is_short (2 ^ 31) z ≡ true → IsNumberOf z (signed_decimal z)
printed_number (pos n) h = let fits : n < 2147483648 = grind (arith, nat_tests) in plain_number n (decimal n) (digits_of n (omega arith))
printed_number (negsuc n) h = let fits : n < 2147483648 = grind (arith, nat_tests) in negative_number n (decimal (suc n)) (digits_of (suc n) (omega arith))
