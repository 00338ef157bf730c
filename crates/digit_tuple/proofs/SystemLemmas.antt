-- Sets of digits.
use Rattle.std.proofs.Common.{◌≡◌, ℕ, pos, ◌+◌, ◌<◌, List, [], ◌∷◌, ◌++◌, length, map, get_or, arith, ap, refl, ◌∙◌}
use Rattle.std.proofs.lemmas.Int.{ints}
use Rattle.std.proofs.lemmas.List.FromFn.{length-map-range_with_len, get_or-map-range_with_len, map-range_with_len_more}
use Rattle.digit_tuple.specs.declared.systems.SystemTrack.{SystemTrack}
use Rattle.digit_tuple.specs.Sets.{IsLetterSet, sizes_of}
use Rattle.digit_tuple.specs.Systems.{IsDigitCount, digit_set, digit_sets}

pub length-digit_set : (count : ℕ) → length (digit_set count) ≡ count
length-digit_set count = length-map-range_with_len pos 0 count

-- digits are a set
pub IsLetterSet-digit_set : (count : ℕ) → IsDigitCount count → IsLetterSet (digit_set count)
IsLetterSet-digit_set count is = record {
  ascending = λ i j d before within.
      let small : j < count = omega (arith, length-digit_set count, within) in
      let low : get_or (digit_set count) i d ≡ pos i = get_or-map-range_with_len pos 0 count i i d (omega (arith, before, small)) (omega arith) in
      let high : get_or (digit_set count) j d ≡ pos j = get_or-map-range_with_len pos 0 count j j d small (omega arith) in
      omega (arith, ints, low, high, before);
  small = omega (arith, length-digit_set count, is.small);
}

-- the digits with one more
pub digit_set_more : (count : ℕ) → digit_set (count + 1) ≡ digit_set count ++ pos count ∷ []
digit_set_more count = map-range_with_len_more pos 0 count count (omega arith)

-- as many digits as each system says
pub sizes_of-digit_sets : (systems : List SystemTrack) → sizes_of (digit_sets systems) ≡ map (λ (track : SystemTrack). track.digits) systems
sizes_of-digit_sets [] = refl
sizes_of-digit_sets (s ∷ ss) = ap (λ n. n ∷ sizes_of (digit_sets ss)) (length-digit_set s.digits) ∙ ap (λ ns. s.digits ∷ ns) (sizes_of-digit_sets ss)
