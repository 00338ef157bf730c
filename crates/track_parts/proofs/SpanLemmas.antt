-- The digits that letters with a part have on each track.
use Rattle.std.proofs.Common.{◌≡◌, ℕ, zero, suc, ◌+◌, ◌%◌, ◌<◌, ◌≤◌, ◌⊎◌, inl, inr, List, [], ◌∷◌, ◌++◌, length, get_or, take, drop, refl, sym, ap, ◌∙◌, subst, arith}
use Rattle.std.specs.List.{All, AllZip}
use Rattle.std.proofs.lemmas.List.{append-nil, drop_all, take_all, get_or_default, get_or-map, length-map}
use Rattle.std.proofs.lemmas.List.Elements.{AllZip-get_or, length_all_zip}
use Rattle.digit_tuple.specs.Letters.{product, AreDigits}
use Rattle.digit_tuple.specs.Parts.{digits_of, letter_part, picked}
use Rattle.digit_tuple.proofs.PartLemmas.{digits_of-fit, digits_of-letter_part}
use Rattle.track_parts.specs.declared.span.Span.{Span}
use Rattle.track_parts.specs.Spans.{AreSpans, IsInSpan, IsSpan, IsSpanOf}

-- two lists of one length that are related at each index
pub AllZip-from_get_or : {A B : Type 0} (R : A → B → Type 0) (xs : List A) (ys : List B) → length xs ≡ length ys → ((i : ℕ) (d : A) (e : B) → i < length xs → R (get_or xs i d) (get_or ys i e)) → AllZip R xs ys
AllZip-from_get_or R [] [] same each = tt
AllZip-from_get_or R [] (y ∷ ys) same each = absurd (omega (arith, same))
AllZip-from_get_or R (x ∷ xs) [] same each = absurd (omega (arith, same))
AllZip-from_get_or R (x ∷ xs) (y ∷ ys) same each =
    (each zero x y (omega arith), AllZip-from_get_or R xs ys (omega (arith, same)) (λ i d e inside. each (suc i) d e (omega (arith, inside))))

-- spans of the first so many tracks
pub record AreSpansTo (sizes places digits : List ℕ) (spans : List Span) (count : ℕ) : Type 0 where
  pub long : length spans ≡ count
  pub each : (track : ℕ) → track < count → (d : Span) → IsSpanOf places digits track (get_or sizes track 0) (get_or spans track d)

length-digits_of : (ss : List ℕ) (a : ℕ) → length (digits_of ss a) ≡ length ss
length-digits_of [] a = refl
length-digits_of (s ∷ ss) a = ap (λ n. suc n) (length-digits_of ss (a % product ss))

module _ (sizes places digits : List ℕ) (spans : List Span) (within : All (λ place. place < length sizes) places) (are : AreSpansTo sizes places digits spans (length sizes)) where
  -- they are below the sizes, as the part's digits are
  pub AreSpans-all : AreDigits (picked places sizes) digits → AreSpans sizes spans
  AreSpans-all fit = AllZip-from_get_or IsSpan sizes spans (sym are.long) (λ track d e inside. by track d e inside (are.each track inside e))
    where
      by : (track d : ℕ) (e : Span) → track < length sizes → IsSpanOf places digits track (get_or sizes track 0) (get_or spans track e) → IsSpan (get_or sizes track d) (get_or spans track e)
      by track d e inside (inl is) = omega (arith, ap (λ (s : Span). s.from + s.count) is, get_or_default sizes track 0 d inside)
      by track d e inside (inr (i, less, at, is)) =
          let low : get_or digits i 0 < get_or (picked places sizes) i 0 = AllZip-get_or (λ size digit. digit < size) (picked places sizes) digits i 0 0 fit (omega (arith, less, length-map places (λ place. get_or sizes place 0))) in
          let size : get_or (picked places sizes) i 0 ≡ get_or sizes track 0 = get_or-map (λ place. get_or sizes place 0) places i 0 0 less ∙ ap (λ t. get_or sizes t 0) at in
          omega (arith, low, size, ap (λ (s : Span). s.from + s.count) is, get_or_default sizes track 0 d inside)

  -- and the digits of the letters with the part are in them
  pub AllZip-having : (part letter : ℕ) → digits ≡ digits_of (picked places sizes) part → letter < product sizes → letter_part sizes places letter ≡ part → AllZip IsInSpan (digits_of sizes letter) spans
  AllZip-having part letter own below has =
      AllZip-from_get_or IsInSpan (digits_of sizes letter) spans (length-digits_of sizes letter ∙ sym are.long) (λ track d e inside. by track d e (omega (arith, inside, length-digits_of sizes letter)) (are.each track (omega (arith, inside, length-digits_of sizes letter)) e))
    where
      all : List ℕ
      all = digits_of sizes letter

      same : digits ≡ picked places all
      same = own ∙ ap (digits_of (picked places sizes)) (sym has) ∙ digits_of-letter_part sizes places within letter below

      by : (track d : ℕ) (e : Span) → track < length sizes → IsSpanOf places digits track (get_or sizes track 0) (get_or spans track e) → IsInSpan (get_or all track d) (get_or spans track e)
      by track d e inside (inl is) =
          let low : get_or all track d < get_or sizes track 0 = AllZip-get_or (λ size digit. digit < size) sizes all track 0 d (digits_of-fit sizes letter below) inside in
          (omega (arith, ap (λ (s : Span). s.from) is), omega (arith, low, ap (λ (s : Span). s.from + s.count) is))
      by track d e inside (inr (i, less, at, is)) =
          let digit : get_or digits i 0 ≡ get_or all track 0 = ap (λ ds. get_or ds i 0) same ∙ get_or-map (λ place. get_or all place 0) places i 0 0 less ∙ ap (λ t. get_or all t 0) at in
          let plain : get_or all track d ≡ get_or all track 0 = get_or_default all track d 0 (omega (arith, inside, length-digits_of sizes letter)) in
          (omega (arith, digit, plain, ap (λ (s : Span). s.from) is), omega (arith, digit, plain, ap (λ (s : Span). s.from + s.count) is))

-- a list that is written over whole
pub written_over : (n : ℕ) (new old : List ℕ) → length new ≡ n → length old ≡ n → take n (new ++ drop (length new) old) ≡ new
written_over n new old long same =
    ap (λ xs. take n (new ++ xs)) (drop_all (length new) old (omega (arith, long, same))) ∙ ap (take n) (append-nil new) ∙ take_all n new (omega (arith, long))
