-- Numbers as names of tracks.
use Rattle.std.proofs.Common.{◌≡◌, ℕ, ◌<◌, ◌^◌, List, length, get_or, decimal, sym, ◌∙◌, arith}
use Rattle.std.proofs.lemmas.Fmt.{decimal_injective}
use Rattle.std.proofs.lemmas.List.FromFn.{length-map-range_with_len, get_or-map-range_with_len}
use Rattle.digit_tuple.specs.Names.{AreDistinct}
use Rattle.automaton_steps.specs.Numbered.{track_numbers}

pub length-track_numbers : (count : ℕ) → length (track_numbers count) ≡ count
length-track_numbers count = length-map-range_with_len decimal 0 count

-- numbers are distinct names
pub numbers_distinct : (count : ℕ) → count < 2 ^ 32 → AreDistinct (track_numbers count)
numbers_distinct count small i j d before within same =
    let inside : j < count = omega (arith, within, length-track_numbers count) in
    let one : get_or (track_numbers count) i d ≡ decimal i = get_or-map-range_with_len decimal 0 count i i d (omega arith) (omega arith) in
    let two : get_or (track_numbers count) j d ≡ decimal j = get_or-map-range_with_len decimal 0 count j j d inside (omega arith) in
    let equal : i ≡ j = decimal_injective i j (omega arith) (omega arith) (sym one ∙ same ∙ two) in
    omega (arith, equal, before)
