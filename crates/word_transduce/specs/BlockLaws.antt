-- Keys lead to keys.
use Rattle.std.specs.Prelude.{◌≡◌, ℕ, Bool, true, false, List, ◌∷◌, ◌++◌, length, MatchOption, ⊤}
use Rattle.std.proofs.Common.{length-append, refl, ap, ◌∙◌, arith}
use Rattle.std.proofs.lemmas.List.FromFn.{length-map-range_with_len}
use Rattle.transducer_reading.specs.Transducers.{Transducer}
use Rattle.word_output.specs.LetterFunctions.{LetterFunctionValue}
use Rattle.word_transduce.specs.BlockMaps.{at_pairs, first_output, pairs_of}
use Rattle.word_transduce.specs.BlockLengths.{HasEnds, first_block_key, key_after, number_place}
use Rattle.word_transduce.specs.PackedOutputs.{are_packed, group_of, packed, packed_len}

pub length-pairs : (t : Transducer) (f : LetterFunctionValue) (value : ℕ → ℕ) → length (at_pairs t f value) ≡ pairs_of t f
length-pairs t f value = length-map-range_with_len value 0 (pairs_of t f)

-- how many numbers outputs are in
pub length-packed : (is_packed : Bool) (outputs : List ℕ) → length (packed is_packed outputs) ≡ packed_len is_packed (length outputs)
length-packed true outputs = length-map-range_with_len (group_of outputs) 0 (packed_len true (length outputs))
length-packed false outputs = refl

pub length-outputs : (t : Transducer) (f : LetterFunctionValue) (value : ℕ → ℕ) → length (packed (are_packed t) (at_pairs t f value)) ≡ number_place t f
length-outputs t f value = length-packed (are_packed t) (at_pairs t f value) ∙ ap (packed_len (are_packed t)) (length-pairs t f value)

-- outputs with ends are longer than the outputs
outputs_with_ends : (t : Transducer) (f : LetterFunctionValue) (outputs : ℕ → ℕ) (number : ℕ) (rest : List ℕ) → HasEnds t f (packed (are_packed t) (at_pairs t f outputs) ++ number ∷ rest)
outputs_with_ends t f outputs number rest = omega (arith, length-append (packed (are_packed t) (at_pairs t f outputs)) (number ∷ rest), length-outputs t f outputs)

pub first_has_ends : (t : Transducer) (f : LetterFunctionValue) (list : List (List ℕ)) → HasEnds t f (first_block_key t f list)
first_has_ends t f list = outputs_with_ends t f (first_output t f) _ _

pub after_has_ends : (t : Transducer) (f : LetterFunctionValue) (list : List (List ℕ)) (key : List ℕ) (digit : ℕ) → MatchOption (key_after t f list key digit) ⊤ (HasEnds t f)
after_has_ends t f list key digit = outputs_with_ends t f _ _ _
