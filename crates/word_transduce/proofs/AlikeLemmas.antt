-- Words are alike to the step if and only if they have the same maps.
use Rattle.std.proofs.Common.{◌≡◌, ℕ, ◌+◌, ◌*◌, ◌/◌, ◌%◌, ◌^◌, ◌<◌, List, [], ◌++◌, length, take, drop, map, get_or, Option, None, Some, refl, sym, ap, ◌∙◌, subst, arith}
use Rattle.std.specs.Option.{option_and_then, option_map}
use Rattle.std.proofs.lemmas.Nat.{div-mul-add, mod-mul-add, mod_below}
use Rattle.std.proofs.lemmas.Option.{same_Some}
use Rattle.digit_tuple.specs.Deterministic.{Automaton, letters_of, run_of, states_of}
use Rattle.digit_tuple.specs.Explored.{IsExplored}
use Rattle.digit_tuple.specs.Keys.{LeadAlike, key_run}
use Rattle.digit_tuple.specs.Letters.{IsWord}
use Rattle.digit_tuple.specs.Width.{IsEquivalence}
use Rattle.minimise.proofs.RunLemmas.{run_within}
use Rattle.transducer_reading.specs.Transducers.{IsTransducer, Transducer}
use Rattle.word_output.specs.LetterFunctions.{IsLetterFunction, LetterFunctionValue}
use Rattle.word_output.specs.StateLetters.{letter_led, letter_of_state}
use Rattle.word_output.proofs.LsdLetterLemmas.{letter_led-explored}
use Rattle.word_transduce.specs.Blocks.{base_of, block, place_of}
use Rattle.word_transduce.specs.BlockLaws.{length-pairs}
use Rattle.word_transduce.specs.BlockMaps.{at_pairs, first_end, first_output, key_letter, numbered_output, output_number, pairs_of, state_number}
use Rattle.word_transduce.specs.BlockLengths.{block_key, first_block_key, key_after}
use Rattle.word_transduce.specs.PackedOutputs.{Fit, are_packed, packed}
use Rattle.word_transduce.specs.Runs.{made, made_of, output_at, run}
use Rattle.word_transduce.specs.Transductions.{TransduceAlike}
use Rattle.word_transduce.proofs.BlockKeys.{block_end, block_output, key_run-word, maps_of, words_positive}
use Rattle.word_transduce.proofs.BlockLemmas.{block_from, block_led, block_lost}
use Rattle.word_transduce.proofs.FoundLines.{numbered-number, one_output}
use Rattle.word_transduce.proofs.KeyLemmas.{block_key-two, key_run-key, two_from_key}
use Rattle.word_transduce.proofs.PackedLemmas.{key_output-packed, numbers_fit}
use Rattle.word_transduce.proofs.PairLemmas.{at_pairs-at, first_of_two, pair_state, pair_within, pairs_same, same_pairs, second_of_two}
use Rattle.word_transduce.proofs.RunLemmas.{made-line, made-same, made-silent, run-same, run-silent}

-- states with one number are one
one_state : (o r : Option ℕ) → state_number o ≡ state_number r → o ≡ r
one_state None None same = refl
one_state None (Some r) same = absurd (omega (arith, same))
one_state (Some p) None same = absurd (omega (arith, same))
one_state (Some p) (Some r) same = let is : p ≡ r = omega (arith, same) in ap Some is

pub transduce_alike : (t : Transducer) (f : LetterFunctionValue) → IsEquivalence (TransduceAlike t f)
transduce_alike t f = record {
  reflexive = λ w. record { outputs = λ u s over within. refl; ends = λ u s over within. refl };
  symmetric = λ w v alike. record { outputs = λ u s over within. sym (alike.outputs u s over within); ends = λ u s over within. sym (alike.ends u s over within) };
  transitive = λ u v w one two. record {
    outputs = λ x s over within. one.outputs x s over within ∙ two.outputs x s over within;
    ends = λ x s over within. one.ends x s over within ∙ two.ends x s over within;
  };
}

module _ (t : Transducer) (f : LetterFunctionValue) (transducer : IsTransducer t) (is : IsLetterFunction f) where
  -- what is made after a word is made from the state to which it leads
  made_led : (u : List ℕ) (q j place s : ℕ) → run_of f.automaton 0 u ≡ Some q → made t (block f j u) place (Some s) ≡ made t (block_from f is j q) place (Some s)
  made_led u q j place s leads = made-same t (block f j u) (block_from f is j q) place (Some s) (λ i least. block_led f is u q j i leads)

  run_led : (u : List ℕ) (q j count s : ℕ) → run_of f.automaton 0 u ≡ Some q → run t (block f j u) count (Some s) ≡ run t (block_from f is j q) count (Some s)
  run_led u q j count s leads = run-same t (block f j u) (block_from f is j q) count (Some s) (λ i less. block_led f is u q j i leads)

  -- words that are alike have the same maps
  maps_from_alike : (w v : List ℕ) → TransduceAlike t f w v → maps_of t f transducer is w ≡ maps_of t f transducer is v
  maps_from_alike w v alike =
      ap (λ (outputs : List ℕ). outputs ++ at_pairs t f (block_end t f transducer is (length w) (base_of f ^ length w))) (same_pairs t f (block_output t f transducer is (length w) (place_of (base_of f) w)) (block_output t f transducer is (length v) (place_of (base_of f) v)) outputs)
      ∙ ap (λ (ends : List ℕ). at_pairs t f (block_output t f transducer is (length v) (place_of (base_of f) v)) ++ ends) (same_pairs t f (block_end t f transducer is (length w) (base_of f ^ length w)) (block_end t f transducer is (length v) (base_of f ^ length v)) ends)
    where
      outputs : (pair : ℕ) → pair < pairs_of t f → block_output t f transducer is (length w) (place_of (base_of f) w) pair ≡ block_output t f transducer is (length v) (place_of (base_of f) v) pair
      outputs pair within =
          let q : ℕ = pair / t.states in
          let inside = pair_state t f pair within transducer.some in
          let u : List ℕ = get_or is.canonical.firsts q [] in
          let leads = is.canonical.numbered.lead q inside in
          ap (output_number t.lines) (sym (made_led u q (length w) (place_of (base_of f) w) (pair % t.states) leads)
          ∙ alike.outputs u (pair % t.states) (is.canonical.numbered.over q inside) (mod_below pair t.states transducer.some)
          ∙ made_led u q (length v) (place_of (base_of f) v) (pair % t.states) leads)

      ends : (pair : ℕ) → pair < pairs_of t f → block_end t f transducer is (length w) (base_of f ^ length w) pair ≡ block_end t f transducer is (length v) (base_of f ^ length v) pair
      ends pair within =
          let q : ℕ = pair / t.states in
          let inside = pair_state t f pair within transducer.some in
          let u : List ℕ = get_or is.canonical.firsts q [] in
          let leads = is.canonical.numbered.lead q inside in
          ap state_number (sym (run_led u q (length w) (base_of f ^ length w) (pair % t.states) leads)
          ∙ alike.ends u (pair % t.states) (is.canonical.numbered.over q inside) (mod_below pair t.states transducer.some)
          ∙ run_led u q (length v) (base_of f ^ length v) (pair % t.states) leads)

  module _ (w v : List ℕ) (over : IsWord (base_of f) w) (there : IsWord (base_of f) v) (same : maps_of t f transducer is w ≡ maps_of t f transducer is v) where
    same_outputs : at_pairs t f (block_output t f transducer is (length w) (place_of (base_of f) w)) ≡ at_pairs t f (block_output t f transducer is (length v) (place_of (base_of f) v))
    same_outputs =
        sym (first_of_two t f (block_output t f transducer is (length w) (place_of (base_of f) w)) (block_end t f transducer is (length w) (base_of f ^ length w)))
        ∙ ap (take (pairs_of t f)) same
        ∙ first_of_two t f (block_output t f transducer is (length v) (place_of (base_of f) v)) (block_end t f transducer is (length v) (base_of f ^ length v))

    same_ends : at_pairs t f (block_end t f transducer is (length w) (base_of f ^ length w)) ≡ at_pairs t f (block_end t f transducer is (length v) (base_of f ^ length v))
    same_ends =
        sym (second_of_two t f (block_output t f transducer is (length w) (place_of (base_of f) w)) (block_end t f transducer is (length w) (base_of f ^ length w)))
        ∙ ap (drop (pairs_of t f)) same
        ∙ second_of_two t f (block_output t f transducer is (length v) (place_of (base_of f) v)) (block_end t f transducer is (length v) (base_of f ^ length v))

    -- the number at a pair is that from its two states
    output_of_pair : (j place q s : ℕ) → s < t.states → block_output t f transducer is j place (q * t.states + s) ≡ output_number t.lines (made t (block_from f is j q) place (Some s))
    output_of_pair j place q s within =
        ap (λ p. output_number t.lines (made t (block_from f is j p) place (Some ((q * t.states + s) % t.states)))) (div-mul-add q t.states s within)
        ∙ ap (λ r. output_number t.lines (made t (block_from f is j q) place (Some r))) (mod-mul-add q t.states s within)

    end_of_pair : (j count q s : ℕ) → s < t.states → block_end t f transducer is j count (q * t.states + s) ≡ state_number (run t (block_from f is j q) count (Some s))
    end_of_pair j count q s within =
        ap (λ p. state_number (run t (block_from f is j p) count (Some ((q * t.states + s) % t.states)))) (div-mul-add q t.states s within)
        ∙ ap (λ r. state_number (run t (block_from f is j q) count (Some r))) (mod-mul-add q t.states s within)

    -- words with the same maps are alike
    pub alike_from_maps : TransduceAlike t f w v
    alike_from_maps = record { outputs = λ u s word within. outputs u s within (run_of f.automaton 0 u) refl; ends = λ u s word within. ends u s within (run_of f.automaton 0 u) refl }
      where
        outputs : (u : List ℕ) (s : ℕ) → s < t.states → (o : Option ℕ) → run_of f.automaton 0 u ≡ o → made t (block f (length w) u) (place_of (base_of f) w) (Some s) ≡ made t (block f (length v) u) (place_of (base_of f) v) (Some s)
        outputs u s within None leads =
            made-same t (block f (length w) u) (λ i. None) (place_of (base_of f) w) (Some s) (λ i least. block_lost f is u (length w) i leads) ∙ made-silent t (place_of (base_of f) w) (Some s)
            ∙ sym (made-same t (block f (length v) u) (λ i. None) (place_of (base_of f) v) (Some s) (λ i least. block_lost f is u (length v) i leads) ∙ made-silent t (place_of (base_of f) v) (Some s))
        outputs u s within (Some q) leads =
            let inside : q < states_of f.automaton = run_within f.automaton u 0 q is.canonical.table is.canonical.table.initial leads in
            made_led u q (length w) (place_of (base_of f) w) s leads
            ∙ one_output t.lines (made t (block_from f is (length w) q) (place_of (base_of f) w) (Some s)) (made t (block_from f is (length v) q) (place_of (base_of f) v) (Some s))
            (made-line t (block_from f is (length w) q) (place_of (base_of f) w) (Some s)) (made-line t (block_from f is (length v) q) (place_of (base_of f) v) (Some s))
            (sym (output_of_pair (length w) (place_of (base_of f) w) q s within)
            ∙ pairs_same t f (block_output t f transducer is (length w) (place_of (base_of f) w)) (block_output t f transducer is (length v) (place_of (base_of f) v)) same_outputs (q * t.states + s) (pair_within t f q s inside within)
            ∙ output_of_pair (length v) (place_of (base_of f) v) q s within)
            ∙ sym (made_led u q (length v) (place_of (base_of f) v) s leads)

        ends : (u : List ℕ) (s : ℕ) → s < t.states → (o : Option ℕ) → run_of f.automaton 0 u ≡ o → run t (block f (length w) u) (base_of f ^ length w) (Some s) ≡ run t (block f (length v) u) (base_of f ^ length v) (Some s)
        ends u s within None leads =
            run-same t (block f (length w) u) (λ i. None) (base_of f ^ length w) (Some s) (λ i less. block_lost f is u (length w) i leads) ∙ run-silent t (base_of f ^ length w) (Some s) (words_positive (base_of f) w over)
            ∙ sym (run-same t (block f (length v) u) (λ i. None) (base_of f ^ length v) (Some s) (λ i less. block_lost f is u (length v) i leads) ∙ run-silent t (base_of f ^ length v) (Some s) (words_positive (base_of f) v there))
        ends u s within (Some q) leads =
            let inside : q < states_of f.automaton = run_within f.automaton u 0 q is.canonical.table is.canonical.table.initial leads in
            run_led u q (length w) (base_of f ^ length w) s leads
            ∙ one_state (run t (block_from f is (length w) q) (base_of f ^ length w) (Some s)) (run t (block_from f is (length v) q) (base_of f ^ length v) (Some s))
            (sym (end_of_pair (length w) (base_of f ^ length w) q s within)
            ∙ pairs_same t f (block_end t f transducer is (length w) (base_of f ^ length w)) (block_end t f transducer is (length v) (base_of f ^ length v)) same_ends (q * t.states + s) (pair_within t f q s inside within)
            ∙ end_of_pair (length v) (base_of f ^ length v) q s within)
            ∙ sym (run_led u q (length v) (base_of f ^ length v) s leads)

  -- the outputs of a word fit where they are packed
  outputs_fit_of : (w : List ℕ) → Fit (are_packed t) (at_pairs t f (block_output t f transducer is (length w) (place_of (base_of f) w)))
  outputs_fit_of w = numbers_fit t f (λ pair. made t (block_from f is (length w) (pair / t.states)) (place_of (base_of f) w) (Some (pair % t.states)))

  -- the key to which a word leads
  key_run-block : (list : List (List ℕ)) (w : List ℕ) → IsWord (base_of f) w → key_run (key_after t f list) (first_block_key t f list) w ≡ Some (block_key t f list (maps_of t f transducer is w))
  key_run-block list w over = key_run-key t f list w (first_output t f) (first_end t f) (numbers_fit t f (λ pair. made_of t (pair % t.states) (letter_of_state f (pair / t.states)))) ∙ ap (option_map (block_key t f list)) (key_run-word t f transducer is w over)

  -- so words that lead to one key are alike, and the other way round
  pub alike_from_lead : (list : List (List ℕ)) (w v : List ℕ) → IsWord (base_of f) w → IsWord (base_of f) v → LeadAlike (key_after t f list) (first_block_key t f list) w v → TransduceAlike t f w v
  alike_from_lead list w v over there lead =
      alike_from_maps w v over there (two_from_key t f list _ _ _ _ (outputs_fit_of w) (outputs_fit_of v) (sym (block_key-two t f list _ _) ∙ same ∙ block_key-two t f list _ _))
    where
      same : block_key t f list (maps_of t f transducer is w) ≡ block_key t f list (maps_of t f transducer is v)
      same = same_Some (block_key t f list (maps_of t f transducer is w)) (block_key t f list (maps_of t f transducer is v)) (sym (key_run-block list w over) ∙ lead ∙ key_run-block list v there)

  pub lead_from_alike : (list : List (List ℕ)) (w v : List ℕ) → IsWord (base_of f) w → IsWord (base_of f) v → TransduceAlike t f w v → LeadAlike (key_after t f list) (first_block_key t f list) w v
  lead_from_alike list w v over there alike =
      key_run-block list w over ∙ ap (λ (maps : List ℕ). Some (block_key t f list maps)) (maps_from_alike w v alike) ∙ sym (key_run-block list v there)

  -- the letter of a word's key is the output at the place that it represents
  letter_of_maps : (w rest : List ℕ) → key_letter t (packed (are_packed t) (at_pairs t f (block_output t f transducer is (length w) (place_of (base_of f) w))) ++ rest) ≡ output_at t (block f (length w) []) (place_of (base_of f) w)
  letter_of_maps w rest =
      let least : 0 * t.states + 0 < pairs_of t f = pair_within t f 0 0 is.canonical.table.initial transducer.some in
      let some : 0 < pairs_of t f = omega (arith, least) in
      let outputs : List ℕ = at_pairs t f (block_output t f transducer is (length w) (place_of (base_of f) w)) in
      let zero_pair : 0 ≡ 0 * t.states + 0 = omega arith in
      ap (numbered_output t.lines) (
      key_output-packed (are_packed t) outputs rest 0 (outputs_fit_of w) (omega (arith, some, length-pairs t f (block_output t f transducer is (length w) (place_of (base_of f) w))))
      ∙ at_pairs-at t f (block_output t f transducer is (length w) (place_of (base_of f) w)) 0 some
      ∙ ap (λ p. output_number t.lines (made t (block_from f is (length w) p) (place_of (base_of f) w) (Some (0 % t.states)))) (ap (λ n. n / t.states) zero_pair ∙ div-mul-add 0 t.states 0 transducer.some)
      ∙ ap (λ r. output_number t.lines (made t (block_from f is (length w) 0) (place_of (base_of f) w) (Some r))) (ap (λ n. n % t.states) zero_pair ∙ mod-mul-add 0 t.states 0 transducer.some))
      ∙ numbered-number t.lines (made t (block_from f is (length w) 0) (place_of (base_of f) w) (Some 0)) (made-line t (block_from f is (length w) 0) (place_of (base_of f) w) (Some 0))

  pub letters-explored : (list : List (List ℕ)) (letters : ℕ) (accepts : List ℕ → _) (keys : List (List ℕ)) (e : Automaton) → letters ≡ letters_of f.automaton
      → IsExplored letters (first_block_key t f list) (key_after t f list) accepts keys e → 0 < states_of e
      → (w : List ℕ) → IsWord (base_of f) w → letter_led e (map (key_letter t) keys) w ≡ output_at t (block f (length w) []) (place_of (base_of f) w)
  letters-explored list letters accepts keys e all explored initial w over =
      letter_led-explored letters (first_block_key t f list) (key_after t f list) accepts keys e explored initial (key_letter t) w (subst (λ n. IsWord n w) (sym all) over)
      ∙ ap (option_and_then (key_letter t)) (key_run-block list w over)
      ∙ ap (key_letter t) (block_key-two t f list _ _)
      ∙ letter_of_maps w _
