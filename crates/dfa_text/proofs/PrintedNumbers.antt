-- Printed numbers, read again.
use Rattle.std.proofs.Common.{◌≡◌, ℕ, suc, ◌^◌, ◌<◌, Bool, true, ltb, length, decimal, ℤ, pos, negsuc, None, Some, ap, ◌∙◌, arith, ◌&&◌}
use Rattle.std.specs.Prelude.{if◌then◌else◌, Option}
use Rattle.std.specs.Fmt.{signed_decimal}
use Rattle.std.proofs.lemmas.Bool.Decides.{nat_tests}
use mir.Val.{SFits}
use mir.Syntax.{w32}
use Rattle.text_grammar.specs.Bytes.{is_digit}
use Rattle.text_grammar.specs.Numbers.{are_digits, is_number, is_short}
use Rattle.text_grammar.proofs.Decimals.{AreDigitsOf, digits_of, digits_are, printed_number}
use Rattle.dfa_reading.specs.Numbers.{number_below, integer_of}

pub printed : (n : ℕ) → n < 2 ^ 64 → AreDigitsOf n (decimal n)
printed n h = digits_of n h

-- what is read, by the tests of its digits and of its value
abbrev kept : {X : Type 0} → Bool → Bool → X → Option X
kept a b x = if a && b then Some x else None

pub number_below-decimal : (limit n : ℕ) → n < limit → n < 2 ^ 64 → number_below limit (decimal n) ≡ Some n
number_below-decimal limit n h fits =
    let p = digits_of n fits in
    let below : ltb n limit ≡ true = grind (arith, nat_tests) in
    ap (λ v. kept (are_digits (decimal n)) (ltb v limit) v) p.value ∙ (ap (λ (b : Bool). kept b (ltb n limit) n) (digits_are n (decimal n) p) ∙ ap (λ (b : Bool). kept true b n) below)

short_is : (z : ℤ) → SFits w32 z → is_short (2 ^ 31) z ≡ true
short_is (pos n) f = let h : n < 2 ^ 31 = f.sfits in grind (arith, nat_tests)
short_is (negsuc n) f = let h : n < 2 ^ 31 = f.sfits in grind (arith, nat_tests)

pub integer_of-signed : (z : ℤ) → SFits w32 z → integer_of (signed_decimal z) ≡ Some z
integer_of-signed z f =
    let short = short_is z f in
    let p = printed_number z short in
    ap (λ (y : ℤ). kept (is_number (signed_decimal z)) (is_short (2 ^ 31) y) y) p.value ∙ (ap (λ (b : Bool). kept b (is_short (2 ^ 31) z) z) p.is ∙ ap (λ (b : Bool). kept true b z) short)
