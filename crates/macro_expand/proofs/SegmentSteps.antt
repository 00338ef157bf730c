-- The segments of a macro's text, one after another.
use Rattle.std.proofs.Common.{◌≡◌, refl, sym, ap, ◌∙◌, ℕ, zero, suc, ◌+◌, ◌<◌, ◌≤◌, Bool, true, false, cond, List, [], ◌∷◌, ◌++◌, length, take, drop, map, append_assoc, Option, None, Some, arith}
use Rattle.std.specs.Prelude.{◌==◌, nat_lt}
use Rattle.std.specs.Borrow.{Bor}
use Rattle.std.proofs.lemmas.List.{length-take-le, length-drop}
use Rattle.std.proofs.lemmas.Bool.{lt-ltb}
use Rattle.text_grammar.specs.declared.class.Class.TheVariants.{Digit}
use Rattle.text_grammar.specs.Prefixes.{prefix_len, prefix_of}
use Rattle.macro_expand.specs.Filling.{Segment, byte, place, number_of, segments_from, segments, missing, filled}
use Rattle.macro_expand.specs.declared.segment.Segment.TheVariants as segment
use Rattle.macro_expand.specs.declared.segment.Segment.{Segment as Segment'}
use Rattle.macro_expand.specs.Views.{len_before, segment_len, segments_view, IsFirstSegment}
use Rattle.macro_expand.proofs.PrefixSteps.{at_mark}

-- digits of a place are passed over
pub segments_skip : (n : ℕ) (bytes : List ℕ) → segments_from n bytes ≡ segments_from 0 (drop n bytes)
segments_skip zero bytes = refl
segments_skip (suc n) [] = refl
segments_skip (suc n) (b ∷ bs) = segments_skip n bs

-- bytes before a `%` are segments by themselves
pub segments_plain : (bytes : List ℕ) → segments bytes ≡ map byte (take (len_before 37 bytes) bytes) ++ segments (drop (len_before 37 bytes) bytes)
segments_plain [] = refl
segments_plain (b ∷ bs) = by (b == 37) refl (segments_plain bs)
  where
    by : (t : Bool) → (b == 37) ≡ t → segments bs ≡ map byte (take (len_before 37 bs) bs) ++ segments (drop (len_before 37 bs) bs) → segments (b ∷ bs) ≡ map byte (take (cond t 0 (suc (len_before 37 bs))) (b ∷ bs)) ++ segments (drop (cond t 0 (suc (len_before 37 bs))) (b ∷ bs))
    by true h more = refl
    by false h more = rw h (ap (λ rest. byte b ∷ rest) more)

-- a `%` without a digit is a byte
pub segments_sign : (bs : List ℕ) → prefix_len Digit bs ≡ 0 → segments (37 ∷ bs) ≡ byte 37 ∷ segments bs
segments_sign bs h = rw h refl

-- a `%` with digits is a place
pub segments_place : (bs : List ℕ) → 0 < prefix_len Digit bs → segments (37 ∷ bs) ≡ place (number_of (prefix_of Digit bs)) ∷ segments (drop (prefix_len Digit bs) bs)
segments_place bs h = rw (lt-ltb 0 (prefix_len Digit bs) h, segments_skip (prefix_len Digit bs) bs) refl

-- what was missing first, or else what is missing after
abbrev pub or_else : Option ℕ → Option ℕ → Option ℕ
or_else None after = after
or_else (Some n) after = Some n

pub missing-append : (given : ℕ) (ps qs : List Segment) → missing given (ps ++ qs) ≡ or_else (missing given ps) (missing given qs)
missing-append given [] qs = refl
missing-append given (byte b ∷ ps) qs = missing-append given ps qs
missing-append given (place n ∷ ps) qs =
    elim (nat_lt n given) as (λ t. cond t (missing given (ps ++ qs)) (Some n) ≡ or_else (cond t (missing given ps) (Some n)) (missing given qs)) [ true ↦ missing-append given ps qs | false ↦ refl ]

pub filled-append : (arguments : List (List ℕ)) (ps qs : List Segment) → filled arguments (ps ++ qs) ≡ filled arguments ps ++ filled arguments qs
filled-append arguments [] qs = refl
filled-append arguments (byte b ∷ ps) qs = ap (λ more. b ∷ more) (filled-append arguments ps qs)
filled-append arguments (place n ∷ ps) qs = rw (filled-append arguments ps qs) (sym (append_assoc _ (filled arguments ps) (filled arguments qs)))

-- bytes without places stay
pub filled_plain : (arguments : List (List ℕ)) (bytes : List ℕ) → filled arguments (map byte bytes) ≡ bytes
filled_plain arguments [] = refl
filled_plain arguments (b ∷ bs) = ap (λ more. b ∷ more) (filled_plain arguments bs)

pub missing_plain : (given : ℕ) (bytes : List ℕ) → missing given (map byte bytes) ≡ None
missing_plain given [] = refl
missing_plain given (b ∷ bs) = missing_plain given bs

-- the bytes before a `%` come first
pub first_plain : (bytes : List ℕ) (plain : ℕ) (r : Bor (List ℕ)) → plain ≡ len_before 37 bytes → plain ≤ length bytes → 0 < plain → r.now ≡ take plain bytes → IsFirstSegment bytes (segment.Plain r)
first_plain bytes plain r is within some e =
    let n : length r.now ≡ plain = ap length e ∙ length-take-le plain bytes within in
    record {
      some = omega arith;
      within = omega arith;
      segments_are = rw (n, e, is) (segments_plain bytes);
    }

-- a `%` without a digit comes first
pub first_sign : (bytes after : List ℕ) (digits : ℕ) (r : Bor (List ℕ)) → after ≡ drop 1 bytes → len_before 37 bytes ≡ 0 → 0 < length bytes → digits ≡ prefix_len Digit after → digits ≡ 0 → r.now ≡ take 1 bytes → IsFirstSegment bytes (segment.Plain r)
first_sign bytes after digits r follows mark some ahead none e =
    let is : digits ≡ prefix_len Digit (drop 1 bytes) = ahead ∙ ap (prefix_len Digit) follows in
    let b : bytes ≡ 37 ∷ drop 1 bytes = at_mark 37 bytes mark some in
    let n : length r.now ≡ 1 = ap length e ∙ length-take-le 1 bytes (omega arith) in
    let one : take 1 bytes ≡ 37 ∷ [] = ap (take 1) b in
    record {
      some = omega arith;
      within = omega arith;
      segments_are = rw (n, e, one) (ap segments b ∙ segments_sign (drop 1 bytes) (sym is ∙ none));
    }

-- a place comes first
pub first_place : (bytes after : List ℕ) (digits number len : ℕ) → after ≡ drop 1 bytes → len_before 37 bytes ≡ 0 → 0 < length bytes → digits ≡ prefix_len Digit after → digits ≤ length after → 0 < digits → number ≡ number_of (take digits after) → len ≡ digits + 1
    → IsFirstSegment bytes (segment.Place number len)
first_place bytes after digits number len follows mark some ahead inside more derived l =
    let is : digits ≡ prefix_len Digit (drop 1 bytes) = ahead ∙ ap (prefix_len Digit) follows in
    let within : digits ≤ length (drop 1 bytes) = omega (arith, inside, ap length follows) in
    let value : number ≡ number_of (take digits (drop 1 bytes)) = derived ∙ ap (λ bs. number_of (take digits bs)) follows in
    let b : bytes ≡ 37 ∷ drop 1 bytes = at_mark 37 bytes mark some in
    let one : digits + 1 ≡ suc digits = omega arith in
    let left : drop (suc digits) bytes ≡ drop digits (drop 1 bytes) = ap (drop (suc digits)) b in
    record {
      some = omega arith;
      within = omega (arith, length-drop 1 bytes);
      segments_are = rw (l, one, left, value, is) (ap segments b ∙ segments_place (drop 1 bytes) (omega arith));
    }

module _ (rest : List ℕ) (first : Segment') (is : IsFirstSegment rest first) where
  -- what was missing in the first segment, or else after it
  pub missing_first : (given : ℕ) → missing given (segments rest) ≡ or_else (missing given (segments_view first)) (missing given (segments (drop (segment_len first) rest)))
  missing_first given = ap (missing given) is.segments_are ∙ missing-append given (segments_view first) (segments (drop (segment_len first) rest))

  pub missing_here : (given n : ℕ) → missing given (segments_view first) ≡ Some n → missing given (segments rest) ≡ Some n
  missing_here given n h = missing_first given ∙ ap (λ o. or_else o (missing given (segments (drop (segment_len first) rest)))) h

  pub missing_after : (given len : ℕ) (left : List ℕ) → missing given (segments_view first) ≡ None → len ≡ segment_len first → left ≡ drop len rest → missing given (segments left) ≡ missing given (segments rest)
  missing_after given len left h l e = ap (λ bs. missing given (segments bs)) (e ∙ ap (λ k. drop k rest) l) ∙ sym (missing_first given ∙ ap (λ o. or_else o (missing given (segments (drop (segment_len first) rest)))) h)

  -- the first segment with arguments in its place, and what follows it
  pub filled_first : (arguments : List (List ℕ)) → filled arguments (segments rest) ≡ filled arguments (segments_view first) ++ filled arguments (segments (drop (segment_len first) rest))
  filled_first arguments = ap (filled arguments) is.segments_are ∙ filled-append arguments (segments_view first) (segments (drop (segment_len first) rest))
