-- The letters that are read on tracks of names.
use Rattle.std.proofs.Common.{◌≡◌, ◌<◌, ℕ, true, List, [], ◌∷◌, length, get_or, slice_index, Option, None, Some, sym, ap, ◌∙◌, arith}
use Rattle.std.specs.List.{All}
use Rattle.std.specs.Option.{MatchOption, option_and_then}
use Rattle.std.proofs.lemmas.List.{get_or-map}
use Rattle.std.proofs.lemmas.List.Elements.{All-cons, All-nil}
use Rattle.digit_tuple.specs.Deterministic.{Automaton, run_of, states_of}
use Rattle.digit_tuple.specs.Explored.{key_at}
use Rattle.digit_tuple.specs.Letters.{IsWord, product}
use Rattle.digit_tuple.specs.Parts.{part, picked}
use Rattle.residual_classes.specs.Classes.{first_of}
use Rattle.minimise.proofs.LeadLemmas.{lead}
use Rattle.product_op.specs.Readings.{AreReadings, IsReading, Reading, reading_in, readings_in}
use Rattle.product_op.specs.declared.reader.Reader.{Reader}
use Rattle.product_op.specs.SinkKeys.{are_sinks}
use Rattle.product_op.specs.TrackReadings.{read_on}
use Rattle.product_op.specs.Tuples.{AreTuples, tuple_after}
use Rattle.product_op.proofs.ReadingLemmas.{IsReading-on, word_read-part}
use Rattle.product_op.proofs.SinkKeyLemmas.{are_sinks-at}
use Rattle.word_output.specs.LetterFunctions.{IsLetterFunction, LetterFunctionValue, letter_after}
use Rattle.word_output.specs.StateLetters.{head_letters, letter_at, letter_led, letter_of_state}
use Rattle.word_output.proofs.LetterLeads.{led, letter_after-lead, sink_letter}

-- one reader
pub one_reading : (readers : List Reader) (r : Reader) (reading : Reading) → readers ≡ r ∷ [] → reading_in r ≡ reading → readings_in readers ≡ reading ∷ []
one_reading readers r reading same one = ap readings_in same ∙ ap (λ (x : Reading). x ∷ []) one

module _ (sizes : List ℕ) (g : LetterFunctionValue) (is : IsLetterFunction g) (places : List ℕ) where
  abbrev pub reading : Reading
  reading = read_on sizes g.automaton places

  -- the automaton reads a letter for each
  pub reads_places : All (λ place. place < length sizes) places → picked places sizes ≡ g.automaton.sizes → AreReadings (product sizes) (reading ∷ [])
  reads_places inside fit = All-cons (IsReading (product sizes)) reading [] (IsReading-on sizes places g.automaton inside (sym fit) is.canonical.table) (All-nil (IsReading (product sizes)))

  abbrev read : List ℕ → List ℕ
  read w = part sizes places w

  -- where it is led is the tuple
  read_tuple : (w : List ℕ) → IsWord (product sizes) w → tuple_after (reading ∷ []) w ≡ led g is (read w) ∷ []
  read_tuple w over = ap (λ (v : List ℕ). lead g.automaton (first_of g.automaton) v ∷ []) (word_read-part sizes places g.automaton w over)

  -- so the letter that a word is led to is that of what is read
  module _ (keys : List (List ℕ)) (d : Automaton) (tuples : AreTuples (product sizes) (reading ∷ []) keys d) where
    pub placed_letter : (w : List ℕ) → IsWord (product sizes) w → letter_led d (head_letters g keys) w ≡ letter_after g (read w)
    placed_letter w over = by (run_of d 0 w) (tuples.leads w over) ∙ sym (letter_after-lead g is (read w))
      where
        key : List ℕ
        key = tuple_after (reading ∷ []) w

        by : (o : Option ℕ) → MatchOption o (are_sinks (reading ∷ []) key ≡ true) (λ q. (q < states_of d) × (key_at keys q ≡ key))
            → option_and_then (λ q. letter_at (head_letters g keys) q) o ≡ letter_of_state g (led g is (read w))
        by None sinks =
            let at : led g is (read w) ≡ states_of g.automaton = sym (ap (λ (k : List ℕ). get_or k 0 0) (read_tuple w over)) ∙ are_sinks-at (reading ∷ []) key 0 (omega arith) sinks in
            sym (ap (letter_of_state g) at ∙ sink_letter g is)
        by (Some q) found =
            let here : key_at keys q ≡ led g is (read w) ∷ [] = found.1 ∙ read_tuple w over in
            get_or-map (λ (k : List ℕ). letter_of_state g (slice_index k 0)) keys q [] None (omega (arith, found.0, tuples.count))
            ∙ ap (λ (k : List ℕ). letter_of_state g (slice_index k 0)) here
