-- Parts of printed lines.
use Rattle.std.proofs.Common.{◌≡◌, ℕ, suc, ◌^◌, ◌<◌, Bool, true, false, eqb, List, [], ◌∷◌, ◌++◌, map, length, decimal, ℤ, pos, negsuc, None, Some, refl, ap, ◌∙◌, arith}
use Rattle.std.specs.Fmt.{signed_decimal}
use Rattle.std.specs.List.{AllByRecursion, slice_split, onto_first, filter, join_by}
use Rattle.std.proofs.lemmas.Bool.Decides.{nat_tests}
use Rattle.std.proofs.lemmas.List.{append-nil}
use Rattle.std.proofs.Math.Bool.{and-false}
use mir.Val.{SFits}
use mir.Syntax.{w32}
use Rattle.text_grammar.specs.Bytes.{is_digit, is_blank}
use Rattle.dfa_reading.specs.Lines.{has_bytes, parts_of, is_passed, is_passed_by, arrow_at}
use Rattle.dfa_reading.proofs.Splits.{parts_of-append, split-append}
use Rattle.dfa_text.proofs.PrintedNumbers.{printed}

-- no byte passes the test
abbrev pub Avoids : (ℕ → Bool) → List ℕ → Type 0
Avoids p bytes = AllByRecursion (λ b. p b ≡ false) bytes

pub Avoids-append : (p : ℕ → Bool) (xs ys : List ℕ) → Avoids p xs → Avoids p ys → Avoids p (xs ++ ys)
Avoids-append p [] ys h k = k
Avoids-append p (x ∷ xs) ys h k = (h.0, Avoids-append p xs ys h.1 k)

-- a test that passes no byte of a printed number
pub record Spares (p : ℕ → Bool) : Type 0 where
  pub digits : (b : ℕ) → is_digit b ≡ true → p b ≡ false
  pub minus : p 45 ≡ false

avoids_digits : (p : ℕ → Bool) → Spares p → (ds : List ℕ) → AllByRecursion (λ b. is_digit b ≡ true) ds → Avoids p ds
avoids_digits p s [] h = tt
avoids_digits p s (d ∷ ds) h = (s.digits d h.0, avoids_digits p s ds h.1)

pub avoids_decimal : (p : ℕ → Bool) → Spares p → (n : ℕ) → n < 2 ^ 64 → Avoids p (decimal n)
avoids_decimal p s n h = avoids_digits p s (decimal n) (printed n h).digits

pub avoids_signed : (p : ℕ → Bool) → Spares p → (z : ℤ) → SFits w32 z → Avoids p (signed_decimal z)
avoids_signed p s (pos n) f = let h : n < 2 ^ 31 = f.sfits in avoids_decimal p s n (omega arith)
avoids_signed p s (negsuc n) f = let h : n < 2 ^ 31 = f.sfits in (s.minus, avoids_decimal p s (suc n) (omega arith))

pub spares_byte : (c : ℕ) → is_digit c ≡ false → eqb 45 c ≡ false → Spares (λ b. eqb b c)
spares_byte c h k = record { digits = λ b d. grind (arith, nat_tests); minus = k }

pub spares_blank : Spares is_blank
spares_blank = record { digits = λ b d. grind (arith, nat_tests); minus = refl }

pub split-one : (p : ℕ → Bool) (xs : List ℕ) → Avoids p xs → slice_split p xs ≡ xs ∷ []
split-one p [] h = refl
split-one p (x ∷ xs) h = rw (h.0, split-one p xs h.1) refl

-- pieces that come after a first one, each after the byte at which they are split
pub split_joined : {X : Type 0} (p : ℕ → Bool) (f : X → List ℕ) (c : ℕ) (x : X) (xs : List X) → p c ≡ true → AllByRecursion (λ y. Avoids p (f y)) (x ∷ xs) → slice_split p (join_by f (c ∷ []) (x ∷ xs)) ≡ map f (x ∷ xs)
split_joined p f c x [] h a = ap (slice_split p) (append-nil (f x)) ∙ split-one p (f x) a.0
split_joined p f c x (y ∷ ys) h a =
    split-append p (f x) c (join_by f (c ∷ []) (y ∷ ys)) h ∙ ap (λ t. t ++ slice_split p (join_by f (c ∷ []) (y ∷ ys))) (split-one p (f x) a.0) ∙ ap (λ t. f x ∷ t) (split_joined p f c y ys h a.1)

-- a text that is one part of a line
pub record IsPart (bytes : List ℕ) : Type 0 where
  pub some : 0 < length bytes
  pub whole : Avoids is_blank bytes

parts_of-some : (bytes : List ℕ) → 0 < length bytes → filter has_bytes (bytes ∷ []) ≡ bytes ∷ []
parts_of-some [] h = absurd (omega arith)
parts_of-some (b ∷ bytes) h = refl

pub parts_of-one : (bytes : List ℕ) → IsPart bytes → parts_of bytes ≡ bytes ∷ []
parts_of-one bytes p = ap (filter has_bytes) (split-one is_blank bytes p.whole) ∙ parts_of-some bytes p.some

pub parts_of-joined : {X : Type 0} (f : X → List ℕ) (x : X) (xs : List X) → AllByRecursion (λ y. IsPart (f y)) (x ∷ xs) → parts_of (join_by f (32 ∷ []) (x ∷ xs)) ≡ map f (x ∷ xs)
parts_of-joined f x [] a = ap parts_of (append-nil (f x)) ∙ parts_of-one (f x) a.0
parts_of-joined f x (y ∷ ys) a =
    parts_of-append (f x) 32 (join_by f (32 ∷ []) (y ∷ ys)) refl ∙ ap (λ t. t ++ parts_of (join_by f (32 ∷ []) (y ∷ ys))) (parts_of-one (f x) a.0) ∙ ap (λ t. f x ∷ t) (parts_of-joined f y ys a.1)

pub part_decimal : (n : ℕ) → n < 2 ^ 64 → IsPart (decimal n)
part_decimal n h = record { some = (printed n h).some; whole = avoids_decimal is_blank spares_blank n h }

signed_some : (z : ℤ) → SFits w32 z → 0 < length (signed_decimal z)
signed_some (pos n) f = let h : n < 2 ^ 31 = f.sfits in (printed n (omega arith)).some
signed_some (negsuc n) f = omega arith

pub part_signed : (z : ℤ) → SFits w32 z → IsPart (signed_decimal z)
part_signed z f = record { some = signed_some z f; whole = avoids_signed is_blank spares_blank z f }

-- a line is not passed over where its first byte is neither a blank nor `#`
first_part : (b : ℕ) (pieces : List (List ℕ)) → is_passed_by (filter has_bytes (onto_first b pieces)) ≡ eqb b 35
first_part b [] = refl
first_part b (piece ∷ pieces) = refl

pub not_passed : (b : ℕ) (bytes : List ℕ) → is_blank b ≡ false → eqb b 35 ≡ false → is_passed (b ∷ bytes) ≡ false
unfolding is_passed
not_passed b bytes h k = rw h (first_part b (slice_split is_blank bytes) ∙ k)

pub not_passed_part : (bytes rest : List ℕ) → IsPart bytes → Avoids (λ b. eqb b 35) bytes → is_passed (bytes ++ rest) ≡ false
not_passed_part [] rest p a = absurd (omega (arith, p.some))
not_passed_part (b ∷ bytes) rest p a = not_passed b (bytes ++ rest) p.whole.0 a.0

pub passed_empty : is_passed [] ≡ true
unfolding is_passed
passed_empty = refl

-- where `->` is
pub no_arrow : (bytes : List ℕ) → Avoids (λ b. eqb b 62) bytes → arrow_at bytes ≡ None
no_arrow [] h = refl
no_arrow (b ∷ []) h = rw (and-false (eqb b 45)) refl
no_arrow (b ∷ c ∷ bytes) h = rw (h.1.0, and-false (eqb b 45), no_arrow (c ∷ bytes) h.1) refl

pub arrow_after : (xs ys : List ℕ) → Avoids (λ b. eqb b 62) xs → arrow_at (xs ++ 45 ∷ 62 ∷ ys) ≡ Some (xs, ys)
arrow_after [] ys h = refl
arrow_after (x ∷ []) ys h = rw (and-false (eqb x 45)) refl
arrow_after (x ∷ y ∷ xs) ys h = rw (h.1.0, and-false (eqb x 45), arrow_after (y ∷ xs) ys h.1) refl
