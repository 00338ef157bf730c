-- The maps of the blocks of so many digits as words have.
use Rattle.std.proofs.Common.{◌≡◌, ℕ, zero, suc, ◌+◌, ◌*◌, ◌/◌, ◌%◌, ◌^◌, ◌<◌, ◌≤◌, List, [], ◌∷◌, ◌++◌, length, drop, Option, None, Some, ◌⊎◌, inl, inr, sym, ap, ◌∙◌, append_assoc, append-nil, arith}
use Rattle.std.specs.Option.{IfSome, option_and_then}
use Rattle.std.proofs.Math.Nat.{pow-zero, pow-suc}
use Rattle.std.proofs.lemmas.Bool.{cases_lt}
use Rattle.std.proofs.lemmas.Nat.{div-mul-add, mod-mul-add, mod_below}
use Rattle.digit_tuple.specs.Deterministic.{letters_of, states_of}
use Rattle.digit_tuple.specs.Keys.{key_run}
use Rattle.digit_tuple.specs.Letters.{IsWord}
use Rattle.residual_classes.specs.Classes.{next_of}
use Rattle.transducer_reading.specs.Transducers.{IsTransducer, Transducer}
use Rattle.word_output.specs.LetterFunctions.{IsLetterFunction, LetterFunctionValue}
use Rattle.word_transduce.specs.Blocks.{base_of, place_of}
use Rattle.word_transduce.specs.BlockMaps.{at_pairs, first_maps, first_output, first_end, map_at, maps_after, maps_by, output_in, output_number, pairs_of, state_before, state_number}
use Rattle.word_transduce.specs.Runs.{made, run}
use Rattle.word_transduce.proofs.BlockLemmas.{block_from, block_from-sink, block_from-split, length_next, place_below, place_push}
use Rattle.word_transduce.proofs.PairLemmas.{first_of_two, map_at-pair, map_at-sink, same_pairs, second_of_two}
use Rattle.word_transduce.proofs.RunLemmas.{made-same, made-silent, made-stopped, made-sum, run-same, run-silent, run-stopped, run-sum, run-within}

pub pow_positive : (k j : ℕ) → 0 < k → 0 < k ^ j
pow_positive k zero some = omega (arith, pow-zero k)
pow_positive k (suc j) some = let rest = pow_positive k j some in let less = scaled_one k (k ^ j) some in omega (arith, pow-suc k j, rest, less)
  where
    scaled_one : (a p : ℕ) → 0 < a → p ≤ p * a
    scaled_one a p some = grind arith

-- there are some words of as many digits as a word has
pub words_positive : (k : ℕ) (w : List ℕ) → IsWord k w → 0 < k ^ length w
words_positive k [] over = omega (arith, pow-zero k)
words_positive k (a ∷ w) over = pow_positive k (length (a ∷ w)) (omega (arith, over.0))

module _ (t : Transducer) (f : LetterFunctionValue) (transducer : IsTransducer t) (is : IsLetterFunction f) where
  -- the number of what is made at a place of the block of a pair, and of where the run over it ends
  abbrev pub block_output : ℕ → ℕ → ℕ → ℕ
  block_output j place pair = output_number t.lines (made t (block_from f is j (pair / t.states)) place (Some (pair % t.states)))

  abbrev pub block_end : ℕ → ℕ → ℕ → ℕ
  block_end j count pair = state_number (run t (block_from f is j (pair / t.states)) count (Some (pair % t.states)))

  -- the maps of a word
  abbrev pub maps_of : List ℕ → List ℕ
  maps_of w = at_pairs t f (block_output (length w) (place_of (base_of f) w)) ++ at_pairs t f (block_end (length w) (base_of f ^ length w))

  -- the maps at a state and where a run is
  output_at_state : (j place q : ℕ) (o : Option ℕ) → IfSome o (λ s. s < t.states) → map_at (at_pairs t f (block_output j place)) t.states q (state_number o) ≡ output_number t.lines (made t (block_from f is j q) place o)
  output_at_state j place q o within = by (cases_lt q (states_of f.automaton)) o within
    where
      by : (q < states_of f.automaton) ⊎ (states_of f.automaton ≤ q) → (o : Option ℕ) → IfSome o (λ s. s < t.states) → map_at (at_pairs t f (block_output j place)) t.states q (state_number o) ≡ output_number t.lines (made t (block_from f is j q) place o)
      by cases None within = ap (output_number t.lines) (sym (made-stopped t (block_from f is j q) place))
      by (inl low) (Some s) within =
          map_at-pair t f (block_output j place) q s low within
          ∙ ap (λ p. output_number t.lines (made t (block_from f is j p) place (Some ((q * t.states + s) % t.states)))) (div-mul-add q t.states s within)
          ∙ ap (λ r. output_number t.lines (made t (block_from f is j q) place (Some r))) (mod-mul-add q t.states s within)
      by (inr past) (Some s) within =
          map_at-sink t f (block_output j place) q (s + 1) past
          ∙ ap (output_number t.lines) (sym (made-same t (block_from f is j q) (λ i. None) place (Some s) (λ x less. block_from-sink f is j q x past) ∙ made-silent t place (Some s)))

  end_at_state : (j count q : ℕ) (o : Option ℕ) → 0 < count → IfSome o (λ s. s < t.states) → map_at (at_pairs t f (block_end j count)) t.states q (state_number o) ≡ state_number (run t (block_from f is j q) count o)
  end_at_state j count q o some within = by (cases_lt q (states_of f.automaton)) o within
    where
      by : (q < states_of f.automaton) ⊎ (states_of f.automaton ≤ q) → (o : Option ℕ) → IfSome o (λ s. s < t.states) → map_at (at_pairs t f (block_end j count)) t.states q (state_number o) ≡ state_number (run t (block_from f is j q) count o)
      by cases None within = ap state_number (sym (run-stopped t (block_from f is j q) count))
      by (inl low) (Some s) within =
          map_at-pair t f (block_end j count) q s low within
          ∙ ap (λ p. state_number (run t (block_from f is j p) count (Some ((q * t.states + s) % t.states)))) (div-mul-add q t.states s within)
          ∙ ap (λ r. state_number (run t (block_from f is j q) count (Some r))) (mod-mul-add q t.states s within)
      by (inr past) (Some s) within =
          map_at-sink t f (block_end j count) q (s + 1) past
          ∙ ap state_number (sym (run-same t (block_from f is j q) (λ i. None) count (Some s) (λ x less. block_from-sink f is j q x past) ∙ run-silent t count (Some s) some))

  module _ (w : List ℕ) (over : IsWord (base_of f) w) where
    -- how many letters the blocks of as many digits have
    abbrev size : ℕ
    size = base_of f ^ length w

    abbrev ends : List ℕ
    ends = at_pairs t f (block_end (length w) size)

    -- the run over the first blocks
    abbrev before : ℕ → ℕ → Option ℕ
    before digit pair = run t (block_from f is (suc (length w)) (pair / t.states)) (digit * size) (Some (pair % t.states))

    before_within : (digit pair : ℕ) → IfSome (before digit pair) (λ s. s < t.states)
    before_within digit pair = run-within t transducer (block_from f is (suc (length w)) (pair / t.states)) (digit * size) (Some (pair % t.states)) (mod_below pair t.states transducer.some)

    -- is where the runs over blocks, one after another, are
    states_before : (digit pair : ℕ) → state_before t f ends digit pair ≡ state_number (before digit pair)
    states_before zero pair = let none : 0 ≡ 0 * size = omega arith in ap (λ n. state_number (run t (block_from f is (suc (length w)) (pair / t.states)) n (Some (pair % t.states)))) none
    states_before (suc digit) pair =
        let letters = block_from f is (suc (length w)) (pair / t.states) in
        let next : ℕ = next_of f.automaton (pair / t.states) digit in
        let more : digit * size + size ≡ suc digit * size = omega arith in
        ap (map_at ends t.states next) (states_before digit pair)
        ∙ end_at_state (length w) size next (before digit pair) (words_positive (base_of f) w over) (before_within digit pair)
        ∙ ap state_number (
        run-same t (block_from f is (length w) next) (λ i. letters (digit * size + i)) size (before digit pair) (λ i less. sym (block_from-split f is (length w) (pair / t.states) digit i less))
        ∙ sym (run-sum t letters (digit * size) size (Some (pair % t.states)))
        ∙ ap (λ n. run t letters n (Some (pair % t.states))) more)

    -- the maps of a word lead to those of the word with one digit more
    ends_after : (digit pair : ℕ) → state_before t f ends (base_of f) pair ≡ block_end (length (w ++ digit ∷ [])) (base_of f ^ length (w ++ digit ∷ [])) pair
    ends_after digit pair =
        let all : base_of f * size ≡ base_of f ^ suc (length w) = omega (arith, pow-suc (base_of f) (length w)) in
        states_before (base_of f) pair
        ∙ ap (λ n. state_number (run t (block_from f is (suc (length w)) (pair / t.states)) n (Some (pair % t.states)))) all
        ∙ ap (λ j. block_end j (base_of f ^ j) pair) (sym (length_next w digit))

    outputs_after : (digit pair : ℕ) → output_in t f (at_pairs t f (block_output (length w) (place_of (base_of f) w))) ends digit pair ≡ block_output (length (w ++ digit ∷ [])) (place_of (base_of f) (w ++ digit ∷ [])) pair
    outputs_after digit pair =
        let letters = block_from f is (suc (length w)) (pair / t.states) in
        let place : ℕ = place_of (base_of f) w in
        let next : ℕ = next_of f.automaton (pair / t.states) digit in
        let low = place_below (base_of f) w over in
        ap (map_at (at_pairs t f (block_output (length w) place)) t.states next) (states_before digit pair)
        ∙ output_at_state (length w) place next (before digit pair) (before_within digit pair)
        ∙ ap (output_number t.lines) (
        made-same t (block_from f is (length w) next) (λ i. letters (digit * size + i)) place (before digit pair) (λ i least. sym (block_from-split f is (length w) (pair / t.states) digit i (omega (arith, least, low))))
        ∙ sym (made-sum t letters (digit * size) place (Some (pair % t.states))))
        ∙ ap (λ n. block_output (suc (length w)) n pair) (sym (place_push (base_of f) w digit))
        ∙ ap (λ j. block_output j (place_of (base_of f) (w ++ digit ∷ [])) pair) (sym (length_next w digit))

    pub maps_next : (digit : ℕ) → maps_after t f (maps_of w) digit ≡ Some (maps_of (w ++ digit ∷ []))
    maps_next digit = ap Some (
        ap (λ (outputs : List ℕ). maps_by t f outputs (drop (pairs_of t f) (maps_of w)) digit) (first_of_two t f (block_output (length w) (place_of (base_of f) w)) (block_end (length w) size))
        ∙ ap (λ (after : List ℕ). maps_by t f (at_pairs t f (block_output (length w) (place_of (base_of f) w))) after digit) (second_of_two t f (block_output (length w) (place_of (base_of f) w)) (block_end (length w) size))
        ∙ ap (λ (outputs : List ℕ). outputs ++ at_pairs t f (state_before t f ends (letters_of f.automaton))) (same_pairs t f _ _ (λ pair within. outputs_after digit pair))
        ∙ ap (λ (after : List ℕ). at_pairs t f (block_output (length (w ++ digit ∷ [])) (place_of (base_of f) (w ++ digit ∷ []))) ++ after) (same_pairs t f _ _ (λ pair within. ends_after digit pair)))

  -- the first maps are those of the empty word
  pub maps_of-empty : first_maps t f ≡ maps_of []
  maps_of-empty = ap (λ (after : List ℕ). at_pairs t f (first_output t f) ++ after) (same_pairs t f (first_end t f) (block_end 0 (base_of f ^ 0)) (λ pair within.
      ap (λ n. state_number (run t (block_from f is 0 (pair / t.states)) n (Some (pair % t.states)))) (sym one)))
    where
      one : base_of f ^ 0 ≡ suc zero
      one = omega (arith, pow-zero (base_of f))

  push_over : (v : List ℕ) (a : ℕ) → IsWord (base_of f) v → a < base_of f → IsWord (base_of f) (v ++ a ∷ [])
  push_over [] a over small = (small, tt)
  push_over (b ∷ v) a over small = (over.0, push_over v a over.1 small)

  -- a word leads to its maps
  pub key_run-maps : (w v : List ℕ) → IsWord (base_of f) v → IsWord (base_of f) w → key_run (maps_after t f) (maps_of v) w ≡ Some (maps_of (v ++ w))
  key_run-maps [] v before over = ap (λ (u : List ℕ). Some (maps_of u)) (sym (append-nil v))
  key_run-maps (a ∷ w) v before over =
      ap (option_and_then (λ next. key_run (maps_after t f) next w)) (maps_next v before a)
      ∙ key_run-maps w (v ++ a ∷ []) (push_over v a before over.0) over.1
      ∙ ap (λ (u : List ℕ). Some (maps_of u)) (append_assoc v (a ∷ []) w)

  pub key_run-word : (w : List ℕ) → IsWord (base_of f) w → key_run (maps_after t f) (first_maps t f) w ≡ Some (maps_of w)
  key_run-word w over = ap (λ key. key_run (maps_after t f) key w) maps_of-empty ∙ key_run-maps w [] tt over
