-- Printed digits of a track, read again.
use Rattle.std.proofs.Common.{◌≡◌, ℕ, zero, suc, ◌+◌, ◌^◌, ◌<◌, ◌≤◌, true, false, cond, eqb, List, [], ◌∷◌, ◌++◌, map, length, get_or, ℤ, pos, negsuc, Option, None, Some, refl, sym, ap, ◌∙◌, arith, append_assoc, codes, decimal}
use Rattle.std.specs.Fmt.{signed_decimal}
use Rattle.std.specs.Prelude.{option_and_then, option_map}
use Rattle.std.specs.List.{AllByRecursion, AllZip, flat_map, join_by, range_with_len}
use Rattle.std.proofs.lemmas.Bool.Decides.{nat_tests}
use Rattle.std.proofs.lemmas.List.FromFn.{length-map-range_with_len, get_or-map-range_with_len}
use mir.Val.{SFits}
use mir.Syntax.{w32}
use Rattle.text_grammar.specs.Bytes.{is_digit}
use Rattle.digit_tuple.specs.Letters.{AreDigits}
use Rattle.digit_tuple.specs.Sets.{sizes_of, members_at}
use Rattle.digit_tuple.specs.Systems.{IsDigitCount, digit_set}
use Rattle.digit_tuple.proofs.AllLemmas.{all_weaker}
use Rattle.dfa_reading.specs.Numbers.{integer_of, number_below}
use Rattle.dfa_reading.specs.Lines.{parts_of, arrow_at}
use Rattle.dfa_reading.specs.Headers.{Digits, Members, Below}
use Rattle.dfa_reading.specs.Entries.{State, Line, place_in, one_digit, digit_of, digits_of, targets_of, state_number, is_dash, output_by, state_of, line_of, entry_by, entry_of}
use Rattle.dfa_reading.proofs.Places.{place_some}
use Rattle.dfa_reading.specs.declared.outputs.Outputs.{Outputs}
use Rattle.dfa_reading.specs.declared.outputs.Outputs.TheVariants.{Numbers, Letters}
use Rattle.dfa_text.specs.Parts.{output_text, state_text}
use Rattle.dfa_text.proofs.PrintedNumbers.{printed, number_below-decimal, integer_of-signed}
use Rattle.dfa_text.proofs.PrintedParts.{Avoids, Avoids-append, spares_byte, avoids_signed, no_arrow, arrow_after}
use Rattle.dfa_text.proofs.PrintedEntries.{IsOutput, target_text, AreNumbers, tuple_text, fits_wide, parts_of-state, state_avoids, no_star, parts_of-targets, parts_of-tuple, tuple_avoids}
use Rattle.dfa_text.proofs.PrintedHeaders.{IsPrintable, each_of-map}

-- a track whose printed digits are read as their places
pub record IsReadable (track : Digits) (set : List ℤ) : Type 0 where
  pub fits : AllByRecursion (SFits w32) set
  pub reads : (place : ℕ) → place < length set → one_digit track (signed_decimal (get_or set place (pos 0))) ≡ Some place

fits_at : (set : List ℤ) (place : ℕ) → AllByRecursion (SFits w32) set → place < length set → SFits w32 (get_or set place (pos 0))
fits_at [] place h lt = absurd (omega arith)
fits_at (m ∷ set) zero h lt = h.0
fits_at (m ∷ set) (suc place) h lt = fits_at set place h.1 (omega arith)

-- a set
pub readable_set : (set : List ℤ) → IsPrintable set → IsReadable (Members set) set
readable_set set p = record {
  fits = p.fits;
  reads = λ place lt. ap (option_and_then (place_in set)) (integer_of-signed (get_or set place (pos 0)) (fits_at set place p.fits lt)) ∙ place_some set (get_or set place (pos 0)) place p.ascending lt refl;
}

-- the digits of a system
pos_fits : (a n : ℕ) → (a + n) ≤ 2 ^ 31 → AllByRecursion (SFits w32) (map pos (range_with_len a n))
pos_fits a zero h = tt
pos_fits a (suc n) h = (record { sfits = omega arith }, pos_fits (a + 1) n (omega arith))

pub readable_system : (count limit : ℕ) → IsDigitCount count → count ≤ limit → IsReadable (Below limit) (digit_set count)
readable_system count limit is within = record {
  fits = pos_fits 0 count (omega (arith, is.small));
  reads = λ place lt.
      let low : place < count = omega (arith, length-map-range_with_len pos 0 count) in
      ap (λ (z : ℤ). number_below limit (signed_decimal z)) (get_or-map-range_with_len pos 0 count place place (pos 0) low (omega arith))
      ∙ number_below-decimal limit place (omega arith) (omega (arith, is.small));
}

-- the digits of a tuple
pub members_fit : (tracks : List Digits) (sets : List (List ℤ)) (places : List ℕ) → AllZip IsReadable tracks sets → AreDigits (sizes_of sets) places → AllByRecursion (SFits w32) (members_at sets places)
members_fit [] [] places h fit = tt
members_fit [] (set ∷ sets) places h fit = absurd h
members_fit (track ∷ tracks) [] places h fit = tt
members_fit (track ∷ tracks) (set ∷ sets) [] h fit = absurd fit
members_fit (track ∷ tracks) (set ∷ sets) (d ∷ ds) h fit = (fits_at set d h.0.fits fit.0, members_fit tracks sets ds h.1 fit.1)

digit_read : (track : Digits) (set : List ℤ) (d : ℕ) → IsReadable track set → d < length set → digit_of track (signed_decimal (get_or set d (pos 0))) ≡ Some (Some d)
digit_read track set d h lt =
    rw (no_star (signed_decimal (get_or set d (pos 0))) (avoids_signed (λ b. eqb b 42) (spares_byte 42 refl refl) (get_or set d (pos 0)) (fits_at set d h.fits lt)))
    (ap (option_map Some) (h.reads d lt))

pub digits_read : (tracks : List Digits) (sets : List (List ℤ)) (places : List ℕ) → AllZip IsReadable tracks sets → AreDigits (sizes_of sets) places → digits_of tracks (map signed_decimal (members_at sets places)) ≡ Some (map Some places)
digits_read [] [] [] h fit = refl
digits_read [] [] (d ∷ ds) h fit = absurd fit
digits_read [] (set ∷ sets) places h fit = absurd h
digits_read (track ∷ tracks) [] places h fit = absurd h
digits_read (track ∷ tracks) (set ∷ sets) [] h fit = absurd fit
digits_read (track ∷ tracks) (set ∷ sets) (d ∷ ds) h fit = rw (digit_read track set d h.0 fit.0, digits_read tracks sets ds h.1 fit.1) refl

-- the line of a state
state_of-printed : (o : Outputs) (q : ℕ) (z : Option ℤ) (output : List ℕ) → q < 2 ^ 32 → output_by o output ≡ Some z → state_of o (decimal q ∷ output ∷ []) ≡ Some (State q z)
state_of-printed o q z output h e = rw (number_below-decimal (2 ^ 32) q h (fits_wide q h), e) refl

-- a printed number is not `-`
no_dash : (z : ℤ) → SFits w32 z → is_dash (signed_decimal z) ≡ false
no_dash (pos n) f = let h : n < 2 ^ 31 = f.sfits in all_digits (decimal n) (printed n (omega arith)).digits
  where
    all_digits : (bytes : List ℕ) → AllByRecursion (λ b. is_digit b ≡ true) bytes → is_dash bytes ≡ false
    all_digits [] h = refl
    all_digits (b ∷ []) h = let digit = h.0 in grind (arith, nat_tests)
    all_digits (b ∷ c ∷ bytes) h = refl
no_dash (negsuc n) f = let h : n < 2 ^ 31 = f.sfits in more (decimal (suc n)) (printed (suc n) (omega arith)).some
  where
    more : (bytes : List ℕ) → 0 < length bytes → is_dash (45 ∷ bytes) ≡ false
    more [] some = absurd (omega arith)
    more (b ∷ bytes) some = refl

output_read : (o : Outputs) (output : Option ℤ) → IsOutput o output → output_by o (output_text output) ≡ Some output
output_read Numbers (Some z) f = ap (option_map Some) (integer_of-signed z f)
output_read Letters (Some z) f = ap (λ b. cond b (Some None) (option_map Some (integer_of (signed_decimal z)))) (no_dash z f) ∙ ap (option_map Some) (integer_of-signed z f)
output_read Numbers None f = absurd f
output_read Letters None f = refl

pub state_read : (o : Outputs) (tracks : List Digits) (q : ℕ) (z : Option ℤ) → q < 2 ^ 32 → IsOutput o z → entry_of o tracks (state_text q z) ≡ Some (State q z)
unfolding entry_of
state_read o tracks q z h f =
    ap (entry_by o tracks (state_text q z)) (no_arrow (state_text q z) (state_avoids (λ c. eqb c 62) (spares_byte 62 refl refl) refl o q z h f))
    ∙ ap (state_of o) (parts_of-state o q z h f) ∙ state_of-printed o q z (output_text z) h (output_read o z f)

-- the line of a tuple
line_of-printed : (tracks : List Digits) (digits targets : List (List ℕ)) (ds : List (Option ℕ)) (ts : List ℕ) → digits_of tracks digits ≡ Some ds → targets_of targets ≡ Some ts → line_of tracks digits targets ≡ Some (Line ds ts)
line_of-printed tracks digits targets ds ts h k = rw (h, k) refl

targets_of-decimal : (t : ℕ) (ts : List ℕ) → AreNumbers (t ∷ ts) → targets_of (map decimal (t ∷ ts)) ≡ Some (t ∷ ts)
targets_of-decimal t ts h = each_of-map decimal state_number (t ∷ ts) (all_weaker (λ n. n < 2 ^ 32) (λ n. state_number (decimal n) ≡ Some n) (λ n k. number_below-decimal (2 ^ 32) n k (fits_wide n k)) (t ∷ ts) h)

tuple_read : (o : Outputs) (tracks : List Digits) (m : ℤ) (ms : List ℤ) (digits : List (Option ℕ)) (t : ℕ) (ts : List ℕ) → AllByRecursion (SFits w32) (m ∷ ms) → digits_of tracks (map signed_decimal (m ∷ ms)) ≡ Some digits → AreNumbers (t ∷ ts) → entry_of o tracks (tuple_text (m ∷ ms) (t ∷ ts)) ≡ Some (Line digits (t ∷ ts))
unfolding entry_of
tuple_read o tracks m ms digits t ts f h k =
    let lead = join_by signed_decimal (codes " ") (m ∷ ms) in
    let suffix = flat_map target_text (t ∷ ts) in
    let clear : Avoids (λ b. eqb b 62) (lead ++ 32 ∷ []) = Avoids-append (λ b. eqb b 62) lead (32 ∷ []) (tuple_avoids (λ b. eqb b 62) (spares_byte 62 refl refl) refl m ms f) (refl, tt) in
    ap (entry_by o tracks (tuple_text (m ∷ ms) (t ∷ ts))) (ap arrow_at (sym (append_assoc lead (32 ∷ []) (45 ∷ 62 ∷ suffix))) ∙ arrow_after (lead ++ 32 ∷ []) suffix clear)
    ∙ ap (λ ps. line_of tracks ps (parts_of suffix)) (parts_of-tuple m ms f)
    ∙ ap (λ ps. line_of tracks (map signed_decimal (m ∷ ms)) ps) (parts_of-targets t ts k)
    ∙ line_of-printed tracks (map signed_decimal (m ∷ ms)) (map decimal (t ∷ ts)) digits (t ∷ ts) h (targets_of-decimal t ts k)

-- a tuple with its digits, which can be printed and read again
pub record IsReadAs (tracks : List Digits) (tuple : List ℤ) (digits : List ℕ) : Type 0 where
  pub some : 0 < length tuple
  pub fits : AllByRecursion (SFits w32) tuple
  pub reads : digits_of tracks (map signed_decimal tuple) ≡ Some (map Some digits)

pub step_read : (o : Outputs) (tracks : List Digits) (m : ℤ) (ms : List ℤ) (digits : List ℕ) (t : ℕ) → IsReadAs tracks (m ∷ ms) digits → t < 2 ^ 32 → entry_of o tracks (tuple_text (m ∷ ms) (t ∷ [])) ≡ Some (Line (map Some digits) (t ∷ []))
step_read o tracks m ms digits t h k = tuple_read o tracks m ms (map Some digits) t [] h.fits h.reads (k, tt)
