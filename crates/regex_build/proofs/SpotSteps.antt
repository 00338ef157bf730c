-- The tokens of a text from a byte on.
use Rattle.std.proofs.Common.{◌≡◌, refl, sym, ◌∙◌, ap, subst, ℕ, suc, ◌+◌, ◌-◌, ◌*◌, ◌<◌, ◌≤◌, min, Bool, true, false, cond, ◌==◌, ◌&&◌, ◌||◌, List, [], ◌∷◌, drop, length, get_or, arith}
use Rattle.std.specs.Prelude.{if◌then◌else◌}
use Rattle.std.specs.List.{filter}
use Rattle.std.proofs.Math.Seq.{drop-cons, drop-length}
use Rattle.std.proofs.lemmas.List.{length-drop}
use Rattle.text_grammar.specs.declared.class.Class.TheVariants.{Blank, Digit, DigitOrBlank}
use Rattle.text_grammar.specs.Bytes.{is_blank, is_digit}
use Rattle.text_grammar.specs.Prefixes.{begins_in, after_prefix}
use Rattle.text_grammar.specs.Numbers.{value_after}
use Rattle.text_grammar.specs.Spots.{Lexeme, lexeme_of, spots_from}
use Rattle.text_grammar.specs.Signs.{sign_of}
use Rattle.text_grammar.proofs.PrefixLemmas.{prefix_begins}
use Rattle.text_grammar.proofs.SpotLemmas.{spots_token}
use Rattle.text_grammar.proofs.SignLemmas.{sign_each}
use Rattle.regex_build.specs.Tokens.{Token, digit, other}
use Rattle.regex_build.specs.Spots.{signs, number_lexeme, lexeme, lexing}
use Rattle.regex_build.specs.Reading.{token_view, lexeme_view, IsWritten, IsNext}
use Rattle.regex_build.specs.declared.lexing.Lexeme.{Lexeme as Lexeme'}

-- the values of digits after values that are the same up to a bound
value_capped : (v w : ℕ) (ds : List ℕ) → min v 4294967295 ≡ min w 4294967295 → min (value_after v ds) 4294967295 ≡ min (value_after w ds) 4294967295
value_capped v w [] e = e
value_capped v w (d ∷ ds) e = value_capped (10 * v + (d - 48)) (10 * w + (d - 48)) ds (omega arith)

-- the digits from a byte on
digits_at : (bs : List ℕ) (i : ℕ) (q : Bool) → i < length bs → is_digit (get_or bs i 0) ≡ q → filter is_digit (drop i bs) ≡ cond q (get_or bs i 0 ∷ filter is_digit (drop (i + 1) bs)) (filter is_digit (drop (i + 1) bs))
digits_at bs i q l e =
    let next : suc i ≡ i + 1 = omega arith in
    ap (filter is_digit) (drop-cons bs i 0 l)
    ∙ (ap (λ (p : Bool). cond p (get_or bs i 0 ∷ filter is_digit (drop (suc i) bs)) (filter is_digit (drop (suc i) bs))) e
    ∙ ap (λ k. cond q (get_or bs i 0 ∷ filter is_digit (drop k bs)) (filter is_digit (drop k bs))) next)

pub value_blank : (v i : ℕ) (bs : List ℕ) → i < length bs → is_digit (get_or bs i 0) ≡ false → value_after v (filter is_digit (drop i bs)) ≡ value_after v (filter is_digit (drop (i + 1) bs))
value_blank v i bs l e = ap (value_after v) (digits_at bs i false l e)

pub value_digit : (v w i : ℕ) (bs : List ℕ) → i < length bs → is_digit (get_or bs i 0) ≡ true → w ≡ min (v * 10 + (get_or bs i 0 - 48)) 4294967295 → min (value_after w (filter is_digit (drop (i + 1) bs))) 4294967295 ≡ min (value_after v (filter is_digit (drop i bs))) 4294967295
value_digit v w i bs l e is =
    value_capped w (10 * v + (get_or bs i 0 - 48)) (filter is_digit (drop (i + 1) bs)) (omega arith)
    ∙ ap (λ n. min n 4294967295) (sym (ap (value_after v) (digits_at bs i true l e)))

pub value_end : (v i : ℕ) (bs : List ℕ) → length bs ≤ i → value_after v (filter is_digit (drop i bs)) ≡ v
value_end v i bs l = none (drop i bs) (let e = length-drop i bs in omega (arith, e))
  where
    none : (xs : List ℕ) → length xs ≡ 0 → value_after v (filter is_digit xs) ≡ v
    none [] e = refl
    none (x ∷ xs) e = absurd (omega arith)

-- a token has a byte at least
some_if : (q : Bool) (x y : Lexeme Token) → (q ≡ true → 0 < x.len) → 0 < y.len → 0 < (if q then x else y).len
some_if true x y h k = h refl
some_if false x y h k = k

sign_some : (bytes : List ℕ) → 0 < (sign_of signs other bytes).len
sign_some bytes =
    sign_each (λ (l : Lexeme Token). 0 < l.len) signs other bytes
    (λ e. omega arith, (λ e. omega arith, (λ e. omega arith, (λ e. omega arith, (λ e. omega arith, (λ e. omega arith, (λ e. omega arith, (λ e. omega arith, (λ e. omega arith, (λ e. omega arith, tt))))))))))
    (omega arith)

digit_in : (b : ℕ) → is_digit b ≡ true → (is_digit b || is_blank b) ≡ true
digit_in b e = rw e refl

lexeme_some : (m : Bool) (b : ℕ) (bs : List ℕ) → 0 < (lexeme m (b ∷ bs)).len
lexeme_some true b bs =
    some_if (is_digit b) (number_lexeme false 0 (b ∷ bs)) _ (λ e. let some = prefix_begins DigitOrBlank b bs (digit_in b e) in omega (arith, some))
    (some_if (b == 45 && begins_in Digit (after_prefix Blank bs)) (number_lexeme true 1 bs) _ (λ e. omega arith) (sign_some (b ∷ bs)))
lexeme_some false b bs = some_if (is_digit b) (record { token = digit (b - 48); len = 1 }) _ (λ e. omega arith) (sign_some (b ∷ bs))

pub no_next : (m : Bool) (text : List ℕ) (start at : ℕ) → at ≡ length text → spots_from lexing m start 0 (drop start text) ≡ spots_from lexing m at 0 (drop at text) → spots_from lexing m start 0 (drop start text) ≡ []
no_next m text start at e h =
    let all : drop at text ≡ [] = ap (λ k. drop k text) e ∙ drop-length text in
    h ∙ ap (spots_from lexing m at 0) all

-- the rest of a text from a byte on
pub rest_cons : (text : List ℕ) (at : ℕ) → at < length text → drop at text ≡ get_or text at 0 ∷ drop (at + 1) text
rest_cons text at h = let next : suc at ≡ at + 1 = omega arith in drop-cons text at 0 h ∙ ap (λ k. get_or text at 0 ∷ drop k text) next

pub next_token : (m : Bool) (text : List ℕ) (start at : ℕ) (l : Lexeme') → start ≤ at → at < length text → spots_from lexing m start 0 (drop start text) ≡ spots_from lexing m at 0 (drop at text) → is_blank (get_or text at 0) ≡ false
    → lexeme_view l ≡ lexeme m (get_or text at 0 ∷ drop (at + 1) text) → l.len ≤ length (drop (at + 1) text) + 1 → IsWritten (token_view l.token) → IsNext m text start (record { token = l.token; at = at; end = at + l.len })
next_token m text start at l from less h b is within written =
    let some : 0 < l.len = subst (λ (x : Lexeme Token). 0 < x.len) (sym is) (lexeme_some m (get_or text at 0) (drop (at + 1) text)) in
    let left = length-drop (at + 1) text in
    let fits : at + l.len ≤ length text = omega (arith, within, left, less) in
    record {
      within = fits;
      moves = omega (arith, from, some);
      written = written;
      spots_are = h ∙ spots_token lexing m text at (lexeme_view l) less b is some fits;
    }

-- a byte that begins no number is a sign, or begins no token
pub sign_inside : (b : ℕ) (bs : List ℕ) (t : Token) → is_digit b ≡ false → (b == 45 && begins_in Digit (after_prefix Blank bs)) ≡ false → sign_of signs other (b ∷ bs) ≡ lexeme_of t 1 → lexeme_of t 1 ≡ lexeme true (b ∷ bs)
sign_inside b bs t d n e = rw (d, n) (sym e)

pub sign_outside : (b : ℕ) (bs : List ℕ) (t : Token) → is_digit b ≡ false → sign_of signs other (b ∷ bs) ≡ lexeme_of t 1 → lexeme_of t 1 ≡ lexeme false (b ∷ bs)
sign_outside b bs t d e = rw d (sym e)
