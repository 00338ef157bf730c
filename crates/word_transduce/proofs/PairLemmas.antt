-- Values at pairs of a state of a letter function and a state of a transducer.
use Rattle.std.proofs.Common.{◌≡◌, ℕ, zero, suc, ◌+◌, ◌*◌, ◌/◌, ◌<◌, ◌≤◌, List, ◌++◌, take, drop, slice_index, refl, sym, ap, ◌∙◌, arith}
use Rattle.std.proofs.Math.Seq.{drop-append_seam}
use Rattle.std.proofs.lemmas.List.{get_or_past, take_at}
use Rattle.std.proofs.lemmas.List.FromFn.{fill_by_all, get_or-map-range_with_len}
use Rattle.std.proofs.lemmas.Nat.{div_below, mul-add-lt, mul-le}
use Rattle.digit_tuple.specs.Deterministic.{states_of}
use Rattle.transducer_reading.specs.Transducers.{Transducer}
use Rattle.word_output.specs.LetterFunctions.{LetterFunctionValue}
use Rattle.word_transduce.specs.BlockMaps.{at_pairs, map_at, pairs_of}
use Rattle.word_transduce.specs.BlockLaws.{length-pairs}

module _ (t : Transducer) (f : LetterFunctionValue) where
  pub at_pairs-at : (v : ℕ → ℕ) (pair : ℕ) → pair < pairs_of t f → slice_index (at_pairs t f v) pair ≡ v pair
  at_pairs-at v pair within = get_or-map-range_with_len v 0 (pairs_of t f) pair pair 0 within (omega arith)

  -- lists with the values at pairs are these values
  pub same_pairs : (v w : ℕ → ℕ) → ((pair : ℕ) → pair < pairs_of t f → v pair ≡ w pair) → at_pairs t f v ≡ at_pairs t f w
  same_pairs v w same = fill_by_all w (at_pairs t f v) (pairs_of t f) 0 (length-pairs t f v) (λ pair within. at_pairs-at v pair within ∙ same pair within)

  -- and the other way round
  pub pairs_same : (v w : ℕ → ℕ) → at_pairs t f v ≡ at_pairs t f w → (pair : ℕ) → pair < pairs_of t f → v pair ≡ w pair
  pairs_same v w same pair within = sym (at_pairs-at v pair within) ∙ ap (λ (xs : List ℕ). slice_index xs pair) same ∙ at_pairs-at w pair within

  -- two lists of values, apart
  pub first_of_two : (v w : ℕ → ℕ) → take (pairs_of t f) (at_pairs t f v ++ at_pairs t f w) ≡ at_pairs t f v
  first_of_two v w = take_at (at_pairs t f v) (at_pairs t f w) (pairs_of t f) (length-pairs t f v)

  pub second_of_two : (v w : ℕ → ℕ) → drop (pairs_of t f) (at_pairs t f v ++ at_pairs t f w) ≡ at_pairs t f w
  second_of_two v w = ap (λ n. drop n (at_pairs t f v ++ at_pairs t f w)) (sym (length-pairs t f v)) ∙ drop-append_seam (at_pairs t f v) (at_pairs t f w)

  -- the pair of two states
  pub pair_within : (q s : ℕ) → q < states_of f.automaton → s < t.states → q * t.states + s < pairs_of t f
  pair_within q s one two = let less = mul-add-lt q t.states s (states_of f.automaton) one two in omega (arith, less)

  pub pair_state : (pair : ℕ) → pair < pairs_of t f → 0 < t.states → pair / t.states < states_of f.automaton
  pair_state pair within some = div_below pair t.states (states_of f.automaton) some within

  -- the value at the pair of two states
  pub map_at-pair : (v : ℕ → ℕ) (q s : ℕ) → q < states_of f.automaton → s < t.states → map_at (at_pairs t f v) t.states q (s + 1) ≡ v (q * t.states + s)
  map_at-pair v q s one two =
      let next : s + 1 ≡ suc s = omega arith in
      ap (map_at (at_pairs t f v) t.states q) next ∙ at_pairs-at v (q * t.states + s) (pair_within q s one two)

  -- none at the sink
  pub map_at-sink : (v : ℕ → ℕ) (q s : ℕ) → states_of f.automaton ≤ q → map_at (at_pairs t f v) t.states q s ≡ 0
  map_at-sink v q zero past = refl
  map_at-sink v q (suc s) past =
      let least = mul-le (states_of f.automaton) t.states q t.states past (omega arith) in
      get_or_past (at_pairs t f v) (q * t.states + s) 0 (omega (arith, least, length-pairs t f v))
