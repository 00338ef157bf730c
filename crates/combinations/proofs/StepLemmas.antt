-- The step that combines relations, by the tuples of states that words lead to.
use Rattle.std.proofs.Common.{◌≡◌, ℕ, ℤ, ◌<◌, ◌≤◌, List, Option, length, sym, ap, ◌∙◌, arith}
use Rattle.std.specs.List.{All, AllByRecursion}
use Rattle.std.proofs.lemmas.List.{length-append, length-map}
use Rattle.digit_tuple.specs.Deterministic.{Automaton}
use Rattle.digit_tuple.specs.Letters.{IsWord, product}
use Rattle.digit_tuple.specs.Width.{HasApart, HasWidth}
use Rattle.digit_tuple.proofs.WidthLemmas.{HasApart-same, HasWidth-same}
use Rattle.product_op.specs.Readings.{AreReadings, Reading, readings_in}
use Rattle.product_op.specs.TrackReadings.{AllFitTracks, track_readings, whole_reading}
use Rattle.product_op.specs.Tuples.{AreTuples, LeadToOne}
use Rattle.product_op.specs.declared.reader.Reader.{Reader}
use Rattle.product_op.proofs.ReaderLemmas.{length-readings}
use Rattle.product_op.proofs.ReadingLemmas.{AllFitTracks-languages}
use Rattle.numeration.specs.Representation.{letters_in, sizes_of}
use Rattle.num_system.specs.Sealed.{IsSealed, SystemValue}
use Rattle.num_system.specs.Tracks.{languages_of, systems_of}
use Rattle.num_system.proofs.SealedLemmas.{languages_fit}
use Rattle.number_relations.specs.Relations.{IsRelation}
use Rattle.word_output.specs.LetterFunctions.{IsLetterFunction, LetterFunctionValue, letter_after}
use Rattle.word_output.specs.StateLetters.{letter_led}
use Rattle.combinations.specs.Parts.{PartValue}
use Rattle.combinations.specs.Shapes.{HaveOneShape}
use Rattle.combinations.specs.Combined.{AreSystemsFor, IsCombination}
use Rattle.combinations.specs.CombineSteps.{CombineAlike}
use Rattle.combinations.specs.HeldLetters.{combined_readings, held_letters, part_readings}
use Rattle.combinations.proofs.CombinationLemmas.{combination_is}
use Rattle.combinations.proofs.CombinedReadings.{IsOverSizes, alike_one_tuple, letters_held, one_tuple_alike, readings_are}
use Rattle.combinations.proofs.ShapeLemmas.{FitsSystems, one_direction, over_sizes, parts_fit, some_track}

-- there is a reader for each relation
pub enough_readers : (parts : List PartValue) (sizes : List ℕ) (languages : List Automaton) (readers : List Reader) → readings_in readers ≡ combined_readings parts sizes languages → length parts ≤ length readers
enough_readers parts sizes languages readers are =
    omega (arith, sym (length-readings readers) ∙ ap length are ∙ length-append (part_readings parts) (track_readings sizes languages), length-map parts (λ (part : PartValue). whole_reading part.relation.automaton))

module _ (parts : List PartValue) (systems : List SystemValue) (sealed : AllByRecursion IsSealed systems) where
  abbrev sizes : List ℕ
  sizes = sizes_of (systems_of systems)

  abbrev languages : List Automaton
  languages = languages_of systems

  abbrev pub beside : List Reading
  beside = combined_readings parts sizes languages

  -- the languages fit the tracks
  pub languages_on_tracks : AllFitTracks sizes languages
  languages_on_tracks = AllFitTracks-languages sizes languages (languages_fit systems sealed)

  module _ (given : AreSystemsFor parts systems) (shape : HaveOneShape parts) (are : All (λ (part : PartValue). IsRelation part.relation) parts) where
    fit : All (FitsSystems systems) parts
    fit = parts_fit parts systems given shape are sealed

    over : All (IsOverSizes sizes) parts
    over place default inside = over_sizes systems _ (fit place default inside)

    -- and so do the relations
    pub readings_beside : AreReadings (product sizes) beside
    readings_beside = readings_are sizes languages languages_on_tracks parts over

    alike_from_tuple : (w v : List ℕ) → IsWord (product sizes) w → IsWord (product sizes) v → LeadToOne beside w v → CombineAlike parts systems w v
    alike_from_tuple w v first second same =
        let both = one_tuple_alike sizes languages languages_on_tracks parts over w v first second same in
        record { relations = both.0; tracks = both.1 }

    tuple_from_alike : (w v : List ℕ) → IsWord (product sizes) w → IsWord (product sizes) v → CombineAlike parts systems w v → LeadToOne beside w v
    tuple_from_alike w v first second alike = alike_one_tuple sizes languages languages_on_tracks parts over w v first second alike.relations alike.tracks

    -- the number of tuples is the width
    pub width_combine : (k : ℕ) → HasWidth (LeadToOne beside) (product sizes) k → HasWidth (CombineAlike parts systems) (letters_in (systems_of systems)) k
    width_combine k = HasWidth-same (LeadToOne beside) (CombineAlike parts systems) (product sizes) k alike_from_tuple tuple_from_alike

    pub apart_combine : (k : ℕ) → HasApart (LeadToOne beside) (product sizes) k → HasApart (CombineAlike parts systems) (letters_in (systems_of systems)) k
    apart_combine k = HasApart-same (LeadToOne beside) (CombineAlike parts systems) (product sizes) k tuple_from_alike

    -- the letters of the tuples are those of the word
    pub word_of_tuples : (rest : Option ℤ) (f : LetterFunctionValue) (keys : List (List ℕ)) (e : Automaton) → IsLetterFunction f → f.automaton.sizes ≡ sizes → AreTuples (product sizes) beside keys e
        → ((w : List ℕ) → IsWord (product sizes) w → letter_after f w ≡ letter_led e (held_letters rest parts beside keys) w)
        → IsCombination rest parts systems (record { systems = systems; function = f })
    word_of_tuples rest f keys e is sizes_are tuples letters =
        let some : 0 < length languages = omega (arith, length-map systems (λ (s : SystemValue). s.language), some_track parts systems given shape) in
        combination_is rest parts systems (some_track parts systems given shape) sealed (one_direction parts systems given are) fit f is sizes_are
        (λ w over_w. letters w over_w ∙ letters_held sizes languages languages_on_tracks rest parts over some keys e tuples w over_w)
