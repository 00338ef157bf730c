-- Keys that are in a list of numbers.
use Rattle.std.proofs.Common.{◌≡◌, ◌==◌, ℕ, suc, ◌+◌, ◌*◌, ◌-◌, ◌≤◌, Bool, true, false, not, List, [], ◌∷◌, ◌++◌, take, drop, length, None, Some, refl, sym, ap, ◌∙◌, append-nil, length-drop, arith}
use Rattle.std.specs.Prelude.{if◌then◌else◌}
use Rattle.std.specs.List.{list_any, slice_range}
use Rattle.std.proofs.lemmas.List.{map-append, take-append-le, drop-append-le, take_all}
use Rattle.std.proofs.Math.Seq.{drop-append_seam}
use Rattle.digit_tuple.specs.declared.key_transitions.KeySpan.{KeySpan}
use Rattle.digit_tuple.specs.Keys.{KeyTransition, transitions_to, part_of, some_nonzero}
use Rattle.digit_tuple.specs.KeySpans.{transition_in, transitions_in, AreSpans}

-- a part of a list stays as the list grows
pub slice_range-append : (xs ys : List ℕ) (i j : ℕ) → i ≤ j → j ≤ length xs → slice_range (xs ++ ys) i j ≡ slice_range xs i j
slice_range-append xs ys i j before within =
    ap (take (j - i)) (drop-append-le i xs ys (omega arith)) ∙ take-append-le (j - i) (drop i xs) ys (omega (arith, length-drop i xs))

-- the part that a list grew by
pub slice_range-grown : (xs ys : List ℕ) (j : ℕ) → j ≡ length xs + length ys → slice_range (xs ++ ys) (length xs) j ≡ ys
slice_range-grown xs ys j end = ap (take (j - length xs)) (drop-append_seam xs ys) ∙ take_all (j - length xs) ys (omega arith)

-- the transitions stay as the list of numbers grows
pub transitions_in-append : (numbers more : List ℕ) (spans : List KeySpan) → AreSpans (length numbers) spans → transitions_in (numbers ++ more) spans ≡ transitions_in numbers spans
transitions_in-append numbers more [] are = refl
transitions_in-append numbers more (s ∷ ss) are =
    let here = are 0 s (omega arith) in
    let same : transition_in (numbers ++ more) s ≡ transition_in numbers s = ap (λ (key : List ℕ). let transition : KeyTransition = record { letter = s.letter; key = key } in transition) (slice_range-append numbers more s.start s.end here.0 here.1) in
    let rest = transitions_in-append numbers more ss (λ k d within. are (suc k) d (omega arith)) in
    ap (λ e. e ∷ transitions_in (numbers ++ more) ss) same ∙ ap (λ es. transition_in numbers s ∷ es) rest

-- one more transition, whose key goes last
pub transitions_in-push : (numbers key : List ℕ) (spans : List KeySpan) (letter start end : ℕ) → AreSpans (length numbers) spans → start ≡ length numbers → end ≡ length numbers + length key
    → transitions_in (numbers ++ key) (spans ++ (record { letter = letter; start = start; end = end }) ∷ []) ≡ transitions_in numbers spans ++ (record { letter = letter; key = key }) ∷ []
transitions_in-push numbers key spans letter start end are from to =
    map-append (transition_in (numbers ++ key)) spans (span ∷ [])
    ∙ ap (λ es. es ++ transition_in (numbers ++ key) span ∷ []) (transitions_in-append numbers key spans are)
    ∙ ap (λ (k : List ℕ). transitions_in numbers spans ++ (let transition : KeyTransition = record { letter = letter; key = k } in transition) ∷ []) (ap (λ n. slice_range (numbers ++ key) n end) from ∙ slice_range-grown numbers key end to)
  where
    span : KeySpan
    span = record { letter = letter; start = start; end = end }

-- the transition to a letter's part of the numbers
module _ (numbers : List ℕ) (spans : List KeySpan) (letter width : ℕ) (some : Bool) (is : some ≡ list_any (λ number. not (number == 0)) (part_of numbers width letter)) where
  pub transitions_in-part : some ≡ true → transitions_in numbers (spans ++ (record { letter = letter; start = letter * width; end = letter * width + width }) ∷ []) ≡ transitions_in numbers spans ++ transitions_to letter (some_nonzero (part_of numbers width letter))
  transitions_in-part is_some =
      map-append (transition_in numbers) spans ((record { letter = letter; start = letter * width; end = letter * width + width }) ∷ [])
      ∙ ap (λ b. transitions_in numbers spans ++ transitions_to letter (if b then Some (part_of numbers width letter) else None)) (sym is_some ∙ is)

  pub transitions_in-no_part : some ≡ false → transitions_in numbers spans ≡ transitions_in numbers spans ++ transitions_to letter (some_nonzero (part_of numbers width letter))
  transitions_in-no_part is_none =
      sym (append-nil (transitions_in numbers spans)) ∙ ap (λ b. transitions_in numbers spans ++ transitions_to letter (if b then Some (part_of numbers width letter) else None)) (sym is_none ∙ is)
