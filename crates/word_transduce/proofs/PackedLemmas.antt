-- Outputs that are packed are those that were packed.
use Rattle.std.proofs.Common.{◌≡◌, ℕ, zero, suc, ◌+◌, ◌*◌, ◌/◌, ◌%◌, ◌<◌, ◌≤◌, Bool, true, false, List, ◌++◌, length, slice_index, Option, None, Some, ◌⊎◌, inl, inr, not, refl, sym, ap, ◌∙◌, arith}
use Rattle.std.specs.List.{position_or_len}
use Rattle.std.specs.Prelude.{ℤ}
use Rattle.std.proofs.lemmas.Bool.{cases_lt, ltb-true}
use Rattle.std.proofs.lemmas.List.{get_or_append_left, get_or_past}
use Rattle.std.proofs.lemmas.List.FromFn.{fill_by_all, get_or-map-range_with_len}
use Rattle.std.proofs.lemmas.List.Sums.{prefix_len-le-length}
use Rattle.transducer_reading.specs.Transducers.{Transducer}
use Rattle.word_output.specs.LetterFunctions.{LetterFunctionValue}
use Rattle.word_transduce.specs.BlockLaws.{length-packed, length-pairs}
use Rattle.word_transduce.specs.BlockMaps.{at_pairs, is_output, map_at, output_in, output_number, pairs_of}
use Rattle.word_transduce.specs.PackedOutputs.{Fit, are_packed, group_of, key_output, output_of, packed, packed_len, unpacked}
use Rattle.word_transduce.proofs.PairLemmas.{at_pairs-at}

-- four numbers below 256 in one, and each of them
abbrev group : ℕ → ℕ → ℕ → ℕ → ℕ
group a b c d = a % 0x100 + b % 0x100 * 0x100 + c % 0x100 * 0x10000 + d % 0x100 * 0x1000000

first_of_group : (a b c d : ℕ) → a < 0x100 → group a b c d % 0x100 ≡ a
first_of_group a b c d small = omega (arith, small)

second_of_group : (a b c d : ℕ) → b < 0x100 → group a b c d / 0x100 % 0x100 ≡ b
second_of_group a b c d small = omega (arith, small)

third_of_group : (a b c d : ℕ) → c < 0x100 → group a b c d / 0x10000 % 0x100 ≡ c
third_of_group a b c d small = omega (arith, small)

last_of_group : (a b c d : ℕ) → d < 0x100 → group a b c d / 0x1000000 ≡ d
last_of_group a b c d small = omega (arith, small)

-- each of four outputs in a number
output_of-group : (outputs : List ℕ) (at place : ℕ) → Fit true outputs → place < 4 → output_of (group_of outputs at) place ≡ slice_index outputs (4 * at + place)
output_of-group outputs at zero fit within = let same : 4 * at ≡ 4 * at + 0 = omega arith in first_of_group _ _ _ _ (fit (4 * at)) ∙ ap (slice_index outputs) same
output_of-group outputs at (suc zero) fit within = second_of_group _ _ _ _ (fit (4 * at + 1))
output_of-group outputs at (suc (suc zero)) fit within = third_of_group _ _ _ _ (fit (4 * at + 2))
output_of-group outputs at (suc (suc (suc zero))) fit within = last_of_group _ _ _ _ (fit (4 * at + 3))
output_of-group outputs at (suc (suc (suc (suc place)))) fit within = absurd (omega (arith, within))

-- an output of a key
pub key_output-packed : (is_packed : Bool) (outputs rest : List ℕ) (place : ℕ) → Fit is_packed outputs → place < length outputs → key_output is_packed (packed is_packed outputs ++ rest) place ≡ slice_index outputs place
key_output-packed false outputs rest place fit within = get_or_append_left outputs rest 0 place within
key_output-packed true outputs rest place fit within =
    ap (λ number. output_of number (place % 4)) (
    get_or_append_left (packed true outputs) rest 0 (place / 4) (omega (arith, inside, length-packed true outputs))
    ∙ get_or-map-range_with_len (group_of outputs) 0 (packed_len true (length outputs)) (place / 4) (place / 4) 0 inside (omega arith))
    ∙ output_of-group outputs (place / 4) (place % 4) fit (omega arith)
    ∙ ap (slice_index outputs) whole
  where
    inside : place / 4 < packed_len true (length outputs)
    inside = omega (arith, within)

    whole : 4 * (place / 4) + place % 4 ≡ place
    whole = omega arith

-- all outputs of a key
pub unpacked-packed : (is_packed : Bool) (outputs rest : List ℕ) (count : ℕ) → Fit is_packed outputs → length outputs ≡ count → unpacked is_packed count (packed is_packed outputs ++ rest) ≡ outputs
unpacked-packed is_packed outputs rest count fit long =
    sym (fill_by_all (key_output is_packed (packed is_packed outputs ++ rest)) outputs count 0 long
    (λ place within. sym (key_output-packed is_packed outputs rest place fit (omega (arith, within, long)))))

-- numbers of outputs are below 256 where they are packed
pub number_fits : (t : Transducer) → are_packed t ≡ true → (o : Option (ℕ × ℤ)) → output_number t.lines o < 0x100
number_fits t is None = omega arith
number_fits t is (Some p) =
    let few : length t.lines < 255 = ltb-true (length t.lines) 255 is in
    let within : position_or_len (is_output p.0 p.1) t.lines ≤ length t.lines = prefix_len-le-length (λ line. not (is_output p.0 p.1 line)) t.lines in
    omega (arith, few, within)

module _ (t : Transducer) (f : LetterFunctionValue) where
  -- values below 256 fit
  below_fit : (v : ℕ → ℕ) → ((pair : ℕ) → v pair < 0x100) → Fit true (at_pairs t f v)
  below_fit v below place = by (cases_lt place (pairs_of t f))
    where
      by : (place < pairs_of t f) ⊎ (pairs_of t f ≤ place) → slice_index (at_pairs t f v) place < 0x100
      by (inl within) = let is = at_pairs-at t f v place within in omega (arith, is, below place)
      by (inr past) = let is = get_or_past (at_pairs t f v) place 0 (omega (arith, past, length-pairs t f v)) in omega (arith, is)

  -- so do numbers of outputs
  pub numbers_fit : (v : ℕ → Option (ℕ × ℤ)) → Fit (are_packed t) (at_pairs t f (λ pair. output_number t.lines (v pair)))
  numbers_fit v = by (are_packed t) refl
    where
      by : (is_packed : Bool) → are_packed t ≡ is_packed → Fit is_packed (at_pairs t f (λ pair. output_number t.lines (v pair)))
      by true is = below_fit (λ pair. output_number t.lines (v pair)) (λ pair. number_fits t is (v pair))
      by false is = tt

  -- and outputs that are among others that fit
  map_at_fits : (outputs : List ℕ) (states q number : ℕ) → Fit true outputs → map_at outputs states q number < 0x100
  map_at_fits outputs states q zero fit = omega arith
  map_at_fits outputs states q (suc state) fit = fit (q * states + state)

  pub outputs_fit : (is_packed : Bool) (outputs ends : List ℕ) (digit : ℕ) → Fit is_packed outputs → Fit is_packed (at_pairs t f (output_in t f outputs ends digit))
  outputs_fit true outputs ends digit fit = below_fit (output_in t f outputs ends digit) (λ pair. map_at_fits outputs t.states _ _ fit)
  outputs_fit false outputs ends digit fit = tt
