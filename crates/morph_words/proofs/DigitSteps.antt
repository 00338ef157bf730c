-- Printed numbers, read again.
use Rattle.std.proofs.Common.{◌≡◌, ℕ, suc, ◌+◌, ◌^◌, ◌<◌, Bool, true, false, eqb, List, [], ◌∷◌, ◌++◌, length, take, drop, decimal, ℤ, pos, negsuc, refl, ap, ◌∙◌, arith}
use Rattle.std.specs.Prelude.{if◌then◌else◌}
use Rattle.std.specs.Fmt.{signed_decimal}
use Rattle.std.specs.List.{AllByRecursion}
use Rattle.std.proofs.lemmas.Bool.Decides.{nat_tests}
use Rattle.std.proofs.Math.Seq.{take-append_seam, drop-append_seam}
use Rattle.text_grammar.specs.declared.class.Class.TheVariants.{Digit}
use Rattle.text_grammar.specs.Bytes.{is_digit}
use Rattle.text_grammar.specs.Prefixes.{prefix_len}
use Rattle.text_grammar.specs.Numbers.{begins_with, is_short, unsigned, number_of, number_len}
use Rattle.text_grammar.proofs.Decimals.{AreDigitsOf, digits_of, no_sign, printed_number}
use Rattle.text_grammar.specs.Spots.{lexeme_of}
use Rattle.text_grammar.specs.Spots as spots
use Rattle.morph_words.specs.declared.lexeme.Lexeme.{Lexeme}
use Rattle.morph_words.specs.declared.lexeme.Lexeme.TheVariants.{Letter, Long, Broken}
use Rattle.morph_words.specs.Lexemes.{bracket}

-- the digits before a bracket
prefix_before : (ds rest : List ℕ) → AllByRecursion (λ b. is_digit b ≡ true) ds → prefix_len Digit (ds ++ 93 ∷ rest) ≡ length ds
prefix_before [] rest h = refl
prefix_before (d ∷ ds) rest h = ap (λ (b : Bool). if b then suc (prefix_len Digit (ds ++ 93 ∷ rest)) else 0) h.0 ∙ ap suc (prefix_before ds rest h.1)

no_sign_before : (ds rest : List ℕ) → AllByRecursion (λ b. is_digit b ≡ true) ds → begins_with 45 (ds ++ 93 ∷ rest) ≡ false
no_sign_before [] rest h = refl
no_sign_before (d ∷ ds) rest h = no_sign (d ∷ ds) h

-- a number before a bracket
record IsNumberBefore (z : ℤ) (text rest : List ℕ) : Type 0 where
  len : number_len (text ++ 93 ∷ rest) ≡ length text
  some : 0 < length text

abbrev len_from : ℕ → ℕ → ℕ
len_from sign digits = if eqb digits 0 then 0 else sign + digits

positive : (n : ℕ) (ds rest : List ℕ) → AreDigitsOf n ds → IsNumberBefore (pos n) ds rest
positive n ds rest p =
    let text = ds ++ 93 ∷ rest in
    let plain : begins_with 45 text ≡ false = no_sign_before ds rest p.digits in
    let some : 0 < length ds = p.some in
    let nonzero : eqb (length ds) 0 ≡ false = grind (arith, nat_tests) in
    let prefix : prefix_len Digit (unsigned text) ≡ length ds = ap (λ (b : Bool). prefix_len Digit (if b then drop 1 text else text)) plain ∙ prefix_before ds rest p.digits in
    record {
      len =
          ap (len_from (if begins_with 45 text then 1 else 0)) prefix
          ∙ (ap (λ (b : Bool). len_from (if b then 1 else 0) (length ds)) plain
          ∙ (ap (λ (b : Bool). if b then 0 else 0 + length ds) nonzero ∙ (let e : 0 + length ds ≡ length ds = omega arith in e)));
      some = some;
    }

negative : (n : ℕ) (ds rest : List ℕ) → AreDigitsOf (suc n) ds → IsNumberBefore (negsuc n) (45 ∷ ds) rest
negative n ds rest p =
    let prefix : prefix_len Digit (ds ++ 93 ∷ rest) ≡ length ds = prefix_before ds rest p.digits in
    let some : 0 < length ds = p.some in
    let nonzero : eqb (length ds) 0 ≡ false = grind (arith, nat_tests) in
    record {
      len = ap (len_from 1) prefix ∙ (ap (λ (b : Bool). if b then 0 else 1 + length ds) nonzero ∙ (let e : 1 + length ds ≡ suc (length ds) = omega arith in e));
      some = omega arith;
    }

-- a letter of 32 bits, signed, as a number before a bracket
number_before : (z : ℤ) (rest : List ℕ) → is_short (2 ^ 31) z ≡ true → IsNumberBefore z (signed_decimal z) rest
number_before (pos n) rest h = let fits : n < 2147483648 = grind (arith, nat_tests) in positive n (decimal n) rest (digits_of n (omega arith))
number_before (negsuc n) rest h = let fits : n < 2147483648 = grind (arith, nat_tests) in negative n (decimal (suc n)) rest (digits_of (suc n) (omega arith))

-- what a bracket is, by its number's length and value
abbrev bracket_by : ℕ → ℤ → List ℕ → spots.Lexeme Lexeme
bracket_by len z bytes =
    if eqb len 0
    then lexeme_of Broken 1
    else if is_short (2 ^ 31) z then (if begins_with 93 (drop len bytes) then lexeme_of (Letter z) (len + 2) else lexeme_of Broken (len + 1)) else lexeme_of Long (len + 1)

-- in brackets it is a letter
pub printed_bracket : (z : ℤ) (rest : List ℕ) → is_short (2 ^ 31) z ≡ true → bracket (signed_decimal z ++ 93 ∷ rest) ≡ lexeme_of (Letter z) (length (signed_decimal z) + 2)
printed_bracket z rest h =
    let text = signed_decimal z ++ 93 ∷ rest in
    let is = number_before z rest h in
    let number = printed_number z h in
    let len = length (signed_decimal z) in
    let some : 0 < len = is.some in
    let nonzero : eqb len 0 ≡ false = grind (arith, nat_tests) in
    let closed : begins_with 93 (drop len text) ≡ true = ap (begins_with 93) (drop-append_seam (signed_decimal z) (93 ∷ rest)) in
    let letter = if begins_with 93 (drop len text) then lexeme_of (Letter z) (len + 2) else lexeme_of Broken (len + 1) in
    ap (λ k. bracket_by k (number_of (take k text)) text) is.len
    ∙ (ap (λ (y : ℤ). bracket_by len y text) (ap number_of (take-append_seam (signed_decimal z) (93 ∷ rest)) ∙ number.value)
    ∙ (ap (λ (b : Bool). if b then lexeme_of Broken 1 else if is_short (2 ^ 31) z then letter else lexeme_of Long (len + 1)) nonzero
    ∙ (ap (λ (b : Bool). if b then letter else lexeme_of Long (len + 1)) h
    ∙ ap (λ (b : Bool). if b then lexeme_of (Letter z) (len + 2) else lexeme_of Broken (len + 1)) closed)))
