-- Keys with numbers of ends, and the maps that they are of.
use Rattle.std.proofs.Common.{◌≡◌, ℕ, ◌+◌, ◌<◌, Bool, true, false, List, [], ◌∷◌, ◌++◌, length, drop, slice_index, Option, Some, cond, ltb, refl, sym, ap, ◌∙◌, arith}
use Rattle.std.specs.Cmp.Lexicographic.{pointwise, same_text}
use Rattle.std.specs.Option.{option_and_then, option_map}
use Rattle.std.specs.Prelude.{nat_eq}
use Rattle.std.proofs.lemmas.Bool.{ltb-true}
use Rattle.std.proofs.lemmas.List.{drop-drop, drop_at, get_or-drop}
use Rattle.std.proofs.lemmas.List.Sums.{passes_at_first}
use Rattle.digit_tuple.specs.Deterministic.{letters_of}
use Rattle.digit_tuple.specs.Explored.{key_at}
use Rattle.digit_tuple.specs.Keys.{key_run}
use Rattle.transducer_reading.specs.Transducers.{Transducer}
use Rattle.word_output.specs.LetterFunctions.{LetterFunctionValue}
use Rattle.word_transduce.specs.BlockLaws.{length-outputs, length-pairs}
use Rattle.word_transduce.specs.BlockMaps.{at_pairs, maps_after, maps_by, output_in, pairs_of, state_before}
use Rattle.word_transduce.specs.BlockLengths.{block_key, ends_number, ends_of, ends_part, key_after, key_by, key_ends, key_outputs, number_place}
use Rattle.word_transduce.specs.PackedOutputs.{Fit, are_packed, packed}
use Rattle.word_transduce.proofs.PackedLemmas.{outputs_fit, unpacked-packed}
use Rattle.word_transduce.proofs.PairLemmas.{first_of_two, second_of_two}

-- ends that have a number are those of the number
numbered_ends : (list : List (List ℕ)) (ends : List ℕ) → ends_number list ends < length list → key_at list (ends_number list ends) ≡ ends
numbered_ends list ends listed = same_text (key_at list (ends_number list ends)) ends (sym (passes_at_first (λ other. pointwise nat_eq other ends) list [] listed))

-- ends are those of their part of a key
ends_of-part : (list : List (List ℕ)) (ends : List ℕ) → ends_of list (ends_number list ends) (drop 1 (ends_part list ends)) ≡ ends
ends_of-part list ends = by (ltb (ends_number list ends) (length list)) (λ is. numbered_ends list ends (ltb-true (ends_number list ends) (length list) is))
  where
    by : (b : Bool) → (b ≡ true → key_at list (ends_number list ends) ≡ ends) → cond b (key_at list (ends_number list ends)) (cond b [] ends) ≡ ends
    by true numbered = numbered refl
    by false numbered = refl

module _ (t : Transducer) (f : LetterFunctionValue) (list : List (List ℕ)) where
  -- two maps, and their key
  abbrev two : (ℕ → ℕ) → (ℕ → ℕ) → List ℕ
  two outputs ends = at_pairs t f outputs ++ at_pairs t f ends

  abbrev key : (ℕ → ℕ) → (ℕ → ℕ) → List ℕ
  key outputs ends = packed (are_packed t) (at_pairs t f outputs) ++ ends_part list (at_pairs t f ends)

  -- the numbers at pairs fit where they are packed
  abbrev FitAt : (ℕ → ℕ) → Type 0
  FitAt outputs = Fit (are_packed t) (at_pairs t f outputs)

  pub block_key-two : (outputs ends : ℕ → ℕ) → block_key t f list (two outputs ends) ≡ key outputs ends
  block_key-two outputs ends =
      ap (λ (xs : List ℕ). packed (are_packed t) xs ++ ends_part list (drop (pairs_of t f) (two outputs ends))) (first_of_two t f outputs ends)
      ∙ ap (λ (xs : List ℕ). packed (are_packed t) (at_pairs t f outputs) ++ ends_part list xs) (second_of_two t f outputs ends)

  -- the maps of their key
  outputs_of-key : (outputs ends : ℕ → ℕ) → FitAt outputs → key_outputs t f (key outputs ends) ≡ at_pairs t f outputs
  outputs_of-key outputs ends fit = unpacked-packed (are_packed t) (at_pairs t f outputs) (ends_part list (at_pairs t f ends)) (pairs_of t f) fit (length-pairs t f outputs)

  part_of-key : (outputs ends : ℕ → ℕ) → drop (number_place t f) (key outputs ends) ≡ ends_part list (at_pairs t f ends)
  part_of-key outputs ends = drop_at (packed (are_packed t) (at_pairs t f outputs)) (ends_part list (at_pairs t f ends)) (number_place t f) (length-outputs t f outputs)

  ends_of-key : (outputs ends : ℕ → ℕ) → key_ends t f list (key outputs ends) ≡ at_pairs t f ends
  ends_of-key outputs ends =
      ap (λ n. ends_of list n (drop (number_place t f + 1) (key outputs ends))) number
      ∙ ap (ends_of list (ends_number list (at_pairs t f ends))) rest
      ∙ ends_of-part list (at_pairs t f ends)
    where
      none : number_place t f ≡ number_place t f + 0
      none = omega arith

      number : slice_index (key outputs ends) (number_place t f) ≡ ends_number list (at_pairs t f ends)
      number = ap (slice_index (key outputs ends)) none ∙ sym (get_or-drop (number_place t f) (key outputs ends) 0 0) ∙ ap (λ (xs : List ℕ). slice_index xs 0) (part_of-key outputs ends)

      rest : drop (number_place t f + 1) (key outputs ends) ≡ drop 1 (ends_part list (at_pairs t f ends))
      rest = sym (drop-drop 1 (number_place t f) (key outputs ends)) ∙ ap (drop 1) (part_of-key outputs ends)

  -- maps with one key are one
  pub two_from_key : (outputs ends others afters : ℕ → ℕ) → FitAt outputs → FitAt others → key outputs ends ≡ key others afters → two outputs ends ≡ two others afters
  two_from_key outputs ends others afters fit too same =
      ap (λ (xs : List ℕ). xs ++ at_pairs t f ends) (sym (outputs_of-key outputs ends fit) ∙ ap (key_outputs t f) same ∙ outputs_of-key others afters too)
      ∙ ap (λ (xs : List ℕ). at_pairs t f others ++ xs) (sym (ends_of-key outputs ends) ∙ ap (key_ends t f list) same ∙ ends_of-key others afters)

  -- a digit leads from a key to the key of the maps to which it leads from those of the key
  module _ (outputs ends : ℕ → ℕ) (digit : ℕ) where
    abbrev outputs_next : ℕ → ℕ
    outputs_next = output_in t f (at_pairs t f outputs) (at_pairs t f ends) digit

    abbrev ends_next : ℕ → ℕ
    ends_next = state_before t f (at_pairs t f ends) (letters_of f.automaton)

    key_next : FitAt outputs → key_after t f list (key outputs ends) digit ≡ Some (key outputs_next ends_next)
    key_next fit =
        ap (λ (xs : List ℕ). Some (key_by t f list xs (key_ends t f list (key outputs ends)) digit)) (outputs_of-key outputs ends fit)
        ∙ ap (λ (xs : List ℕ). Some (key_by t f list (at_pairs t f outputs) xs digit)) (ends_of-key outputs ends)

    two_next : maps_after t f (two outputs ends) digit ≡ Some (two outputs_next ends_next)
    two_next =
        ap (λ (xs : List ℕ). Some (maps_by t f xs (drop (pairs_of t f) (two outputs ends)) digit)) (first_of_two t f outputs ends)
        ∙ ap (λ (xs : List ℕ). Some (maps_by t f (at_pairs t f outputs) xs digit)) (second_of_two t f outputs ends)

  -- so does a word
  pub key_run-key : (w : List ℕ) (outputs ends : ℕ → ℕ) → FitAt outputs → key_run (key_after t f list) (key outputs ends) w ≡ option_map (block_key t f list) (key_run (maps_after t f) (two outputs ends) w)
  key_run-key [] outputs ends fit = ap Some (sym (block_key-two outputs ends))
  key_run-key (digit ∷ w) outputs ends fit =
      ap (option_and_then (λ next. key_run (key_after t f list) next w)) (key_next outputs ends digit fit)
      ∙ key_run-key w (outputs_next outputs ends digit) (ends_next outputs ends digit) (outputs_fit t f (are_packed t) (at_pairs t f outputs) (at_pairs t f ends) digit fit)
      ∙ sym (ap (λ (o : Option (List ℕ)). option_map (block_key t f list) (option_and_then (λ next. key_run (maps_after t f) next w) o)) (two_next outputs ends digit))
