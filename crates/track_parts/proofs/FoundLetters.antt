-- The letters with a part, among those that may have it.
use Rattle.std.proofs.Common.{◌≡◌, ◌==◌, ℕ, ◌-◌, ◌<◌, ◌≤◌, List, [], length, filter, get_or, sym, ap, ◌∙◌, subst, arith}
use Rattle.std.specs.List.{All, AllPairs, AllZip, Contains, range_with_len}
use Rattle.std.proofs.lemmas.Bool.Decides.{Decides-eqb}
use Rattle.std.proofs.lemmas.List.Kept.{AllPairs-filter}
use Rattle.std.proofs.lemmas.List.FromFn.{get_or-range_with_len, length-range_with_len, length-map-range_with_len, get_or-map-range_with_len}
use Rattle.digit_tuple.specs.Letters.{product}
use Rattle.digit_tuple.specs.PartIndex.{letters_with}
use Rattle.digit_tuple.specs.Parts.{digits_of, letter_part, parts_of_letters, picked}
use Rattle.digit_tuple.proofs.MemberLemmas.{Contains-filter, Contains-from_filter, Contains-none, same_ascending}
use Rattle.digit_tuple.proofs.PartIndexLemmas.{Contains-from_letters, Contains-letters}
use Rattle.digit_tuple.proofs.PartLemmas.{get_or-parts, letter_part-below}
use Rattle.track_parts.specs.declared.run.Run.{Run}
use Rattle.track_parts.specs.declared.span.Span.{Span}
use Rattle.track_parts.specs.Runs.{sum_of_runs}
use Rattle.track_parts.specs.Spans.{AreSpans, IsInSpan, letters_in}
use Rattle.track_parts.specs.TrackParts.{AreTrackParts}
use Rattle.track_parts.proofs.LettersInLemmas.{letters_in-ascending, letters_in-below, letters_in-has}

range-ascending : (n : ℕ) → AllPairs (λ a b. a < b) (range_with_len 0 n)
range-ascending n i j d before within =
    let small : j < n = omega (arith, within, length-range_with_len 0 n) in
    omega (arith, before, get_or-range_with_len 0 n i d (omega (arith, before, small)), get_or-range_with_len 0 n j d small)

module _ (parts : List ℕ) (part : ℕ) where
  letters_with-ascending : AllPairs (λ a b. a < b) (letters_with parts part)
  letters_with-ascending = AllPairs-filter (λ a b. a < b) (λ a. get_or parts a 0 == part) (range_with_len 0 (length parts - 0)) (range-ascending (length parts - 0))

  -- of letters in order, among which are all with the part
  pub letters_with-found : (found : List ℕ) → AllPairs (λ a b. a < b) found → ((a : ℕ) → Contains found a → a < length parts) → ((a : ℕ) → a < length parts → get_or parts a 0 ≡ part → Contains found a)
      → filter (λ a. get_or parts a 0 == part) found ≡ letters_with parts part
  letters_with-found found up below has =
      same_ascending (filter (λ a. get_or parts a 0 == part) found) (letters_with parts part)
      (AllPairs-filter (λ a b. a < b) (λ a. get_or parts a 0 == part) found up)
      letters_with-ascending
      (λ a there.
      let kept = Contains-from_filter (λ b. get_or parts b 0 == part) found a there in
      Contains-letters parts part a (below a kept.0) ((Decides-eqb (get_or parts a 0) part).0 kept.1))
      (λ a there.
      let kept = Contains-from_letters parts part a there in
      Contains-filter (λ b. get_or parts b 0 == part) found a (has a kept.0 kept.1) ((Decides-eqb (get_or parts a 0) part).1 kept.1))

  -- and where no letter has it
  pub letters_with-no : ((a : ℕ) → a < length parts → get_or parts a 0 ≡ part → ⊥) → letters_with parts part ≡ []
  letters_with-no none =
      same_ascending (letters_with parts part) [] letters_with-ascending (λ i j d before within. absurd (omega (arith, within)))
      (λ a there. let kept = Contains-from_letters parts part a there in absurd (none a kept.0 kept.1))
      (λ a there. absurd (Contains-none a there))

pub length-parts : (sizes places : List ℕ) → length (parts_of_letters sizes places) ≡ product sizes
length-parts sizes places = length-map-range_with_len (letter_part sizes places) 0 (product sizes)

-- the parts are letters of their tracks
pub parts-below : (sizes places : List ℕ) → All (λ p. p < length sizes) places → All (λ p. p < product (picked places sizes)) (parts_of_letters sizes places)
parts-below sizes places within i e inside =
    let small : i < product sizes = omega (arith, inside, length-parts sizes places) in
    subst (λ n. n < product (picked places sizes)) (sym (get_or-map-range_with_len (letter_part sizes places) 0 (product sizes) i i e small (omega arith))) (letter_part-below sizes places within i small)

-- those whose digits are in the part's spans
pub letters_with-spans : (sizes places : List ℕ) (part : ℕ) (spans : List Span) → AreSpans sizes spans
    → ((a : ℕ) → a < product sizes → letter_part sizes places a ≡ part → AllZip IsInSpan (digits_of sizes a) spans)
    → filter (λ a. get_or (parts_of_letters sizes places) a 0 == part) (letters_in sizes spans) ≡ letters_with (parts_of_letters sizes places) part
letters_with-spans sizes places part spans are fit =
    letters_with-found (parts_of_letters sizes places) part (letters_in sizes spans) (letters_in-ascending sizes spans are)
    (λ a there. omega (arith, letters_in-below sizes spans are a there, length-parts sizes places))
    (λ a less has.
    let below : a < product sizes = omega (arith, less, length-parts sizes places) in
    letters_in-has sizes spans a below (fit a below (sym (get_or-parts sizes places a 0 below) ∙ has)))

-- the runs make small parts, and those of the list
pub runs-small : (sizes places own : List ℕ) (runs : List Run) (letter : ℕ) → AreTrackParts sizes places own runs → letter < product sizes → sum_of_runs runs letter < 4294967296
runs-small sizes places own runs letter are below =
    omega (arith, are.runs_are.whole letter below, letter_part-below sizes places are.within letter below, ap product are.own_is, are.few)

pub runs-part : (sizes places own : List ℕ) (runs : List Run) (letter : ℕ) → AreTrackParts sizes places own runs → letter < product sizes → sum_of_runs runs letter ≡ get_or (parts_of_letters sizes places) letter 0
runs-part sizes places own runs letter are below = are.runs_are.whole letter below ∙ sym (get_or-parts sizes places letter 0 below)
