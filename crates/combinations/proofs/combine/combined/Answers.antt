use Rattle.std.proofs.Common.{◌≡◌, ◌+◌, ℕ, ℤ, List, Option, length, map, sym, ap, ◌∙◌, subst}
use Rattle.std.specs.Rc.{rc_value}
use Rattle.std.specs.Result.{IsErrOf}
use Rattle.digit_tuple.specs.Deterministic.{Automaton}
use Rattle.digit_tuple.specs.Letters.{IsAlphabet, IsTooLarge, IsWord, product}
use Rattle.digit_tuple.specs.StepResults.{ExceedsWidth}
use Rattle.digit_tuple.specs.Width.{HasApart, HasWidth}
use Rattle.digit_tuple.specs.declared.faults.OpFault.TheVariants as faults
use Rattle.product_op.specs.Readings.{AreReadings, Reading, readings_in}
use Rattle.product_op.specs.TrackReadings.{AllFitTracks}
use Rattle.product_op.specs.Tuples.{AreTuples, LeadToOne}
use Rattle.product_op.proofs.ReaderLemmas.{length-readings}
use Rattle.numeration.specs.Representation.{sizes_of}
use Rattle.num_system.specs.Sealed.{SystemValue}
use Rattle.num_system.specs.Tracks.{languages_of, systems_of}
use Rattle.num_system.proofs.LineLemmas.{handed_on}
use Rattle.word_output.specs.StateLetters.{letter_led}
use Rattle.word_output.proofs.OptionLemmas.{same_fault}
use Rattle.combinations.specs.CombineSteps.{combine_step}
use Rattle.combinations.specs.HeldLetters.{combined_readings, held_letters}
use Rattle.combinations.proofs.StepLemmas.{apart_combine, beside, enough_readers, languages_on_tracks, readings_beside, width_combine, word_of_tuples}
use Rattle.combinations.proofs.combine.combined.Goals as goal

pub returns-in_err-alphabet-clause-letters : goal.returns-in_err-alphabet-clause-letters
returns-in_err-alphabet-clause-letters c =
    let systems : List SystemValue = map rc_value c.args.systems.now in
    let digits : c.deref.result.now ≡ sizes_of (systems_of systems) = c.deref.ensures.value ∙ c.in_ok-digits.ensures in
    handed_on (λ r. IsErrOf r faults.Letters → IsTooLarge (sizes_of (systems_of systems))) c.from_residual-in_err-alphabet.result c.in_err-alphabet.field-0.0 c.from_residual-in_err-alphabet.ensures.1
    (λ refused. subst (λ (ss : List ℕ). IsTooLarge ss) digits (c.in_err-alphabet.ensures.letters.0 (same_fault c.in_err-alphabet.field-0.0 faults.Letters refused)))

pub combined_readers-requires : goal.combined_readers-requires
combined_readers-requires c =
    let systems : List SystemValue = map rc_value c.args.systems.now in
    let sizes : c.in_ok-alphabet.alphabet ≡ sizes_of (systems_of systems) = c.in_ok-alphabet.ensures.value ∙ c.deref.ensures.value ∙ c.in_ok-digits.ensures in
    let languages : map rc_value c.deref-2.result.now ≡ languages_of systems = ap (map rc_value) c.deref-2.ensures.value ∙ c.in_ok-languages.ensures in
    subst (λ (ss : List ℕ). AllFitTracks ss (map rc_value c.deref-2.result.now)) (sym sizes)
    (subst (λ (ls : List Automaton). AllFitTracks (sizes_of (systems_of systems)) ls) (sym languages) (languages_on_tracks c.args.parts.now systems c.are_sealed.ensures))

pub explore_tuples-requires : goal.explore_tuples-requires
explore_tuples-requires c =
    let parts = c.args.parts.now in
    let systems : List SystemValue = map rc_value c.args.systems.now in
    let sizes : c.in_ok-alphabet.alphabet ≡ sizes_of (systems_of systems) = c.in_ok-alphabet.ensures.value ∙ c.deref.ensures.value ∙ c.in_ok-digits.ensures in
    let languages : map rc_value c.deref-2.result.now ≡ languages_of systems = ap (map rc_value) c.deref-2.ensures.value ∙ c.in_ok-languages.ensures in
    let read : readings_in c.deref-3.result.now ≡ beside parts systems c.are_sealed.ensures =
    ap readings_in c.deref-3.ensures.value ∙ c.in_ok-readers.ensures ∙ ap (λ (ss : List ℕ). combined_readings parts ss (map rc_value c.deref-2.result.now)) sizes
    ∙ ap (λ (ls : List Automaton). combined_readings parts (sizes_of (systems_of systems)) ls) languages in
    subst (λ (ss : List ℕ). AreReadings (product ss) (readings_in c.deref-3.result.now)) (sym sizes)
    (subst (λ (rs : List Reading). AreReadings (product (sizes_of (systems_of systems))) rs) (sym read)
    (readings_beside parts systems c.are_sealed.ensures c.requires.systems c.requires.shape c.are_relations.ensures))

pub returns-in_err-result-clause-states : goal.returns-in_err-result-clause-states
returns-in_err-result-clause-states c =
    let parts = c.args.parts.now in
    let systems : List SystemValue = map rc_value c.args.systems.now in
    let digits : c.deref.result.now ≡ sizes_of (systems_of systems) = c.deref.ensures.value ∙ c.in_ok-digits.ensures in
    let sizes : c.in_ok-alphabet.alphabet ≡ sizes_of (systems_of systems) = c.in_ok-alphabet.ensures.value ∙ digits in
    let languages : map rc_value c.deref-2.result.now ≡ languages_of systems = ap (map rc_value) c.deref-2.ensures.value ∙ c.in_ok-languages.ensures in
    let read : readings_in c.deref-3.result.now ≡ beside parts systems c.are_sealed.ensures =
    ap readings_in c.deref-3.ensures.value ∙ c.in_ok-readers.ensures ∙ ap (λ (ss : List ℕ). combined_readings parts ss (map rc_value c.deref-2.result.now)) sizes
    ∙ ap (λ (ls : List Automaton). combined_readings parts (sizes_of (systems_of systems)) ls) languages in
    handed_on (λ r. IsErrOf r faults.States → ExceedsWidth c.args.limit.most (combine_step c.args.rest parts systems).step) c.from_residual-in_err-result.result c.in_err-result.field-0.0 c.from_residual-in_err-result.ensures.1
    (λ refused. record {
      alphabet = subst (λ (ss : List ℕ). IsAlphabet ss) digits c.in_ok-alphabet.ensures.fits;
      apart = apart_combine parts systems c.are_sealed.ensures c.requires.systems c.requires.shape c.are_relations.ensures (c.args.limit.most + 1)
          (subst (λ (rs : List Reading). HasApart (LeadToOne rs) (product (sizes_of (systems_of systems))) (c.args.limit.most + 1)) read
          (subst (λ (ss : List ℕ). HasApart (LeadToOne (readings_in c.deref-3.result.now)) (product ss) (c.args.limit.most + 1)) sizes
          (c.in_err-result.ensures.states (same_fault c.in_err-result.field-0.0 faults.States refused))));
    })

pub tuple_letters-requires-clause-enough : goal.tuple_letters-requires-clause-enough
tuple_letters-requires-clause-enough c =
    enough_readers c.args.parts.now c.in_ok-alphabet.alphabet (map rc_value c.deref-2.result.now) c.deref-4.result.now (ap readings_in c.deref-4.ensures.value ∙ c.in_ok-readers.ensures)

pub tuple_letters-requires-clause-keys : goal.tuple_letters-requires-clause-keys
tuple_letters-requires-clause-keys c place default inside =
    (c.in_ok-result.ensures.tuples.states place default inside).count ∙ length-readings c.deref-3.result.now ∙ ap length (c.deref-3.ensures.value ∙ sym c.deref-4.ensures.value)

pub returns-clause-alphabet : goal.returns-clause-alphabet
returns-clause-alphabet c = subst (λ (ss : List ℕ). IsAlphabet ss) (c.deref.ensures.value ∙ c.in_ok-digits.ensures) c.in_ok-alphabet.ensures.fits

pub returns-clause-width : goal.returns-clause-width
returns-clause-width c =
    let parts = c.args.parts.now in
    let systems : List SystemValue = map rc_value c.args.systems.now in
    let sizes : c.in_ok-alphabet.alphabet ≡ sizes_of (systems_of systems) = c.in_ok-alphabet.ensures.value ∙ c.deref.ensures.value ∙ c.in_ok-digits.ensures in
    let languages : map rc_value c.deref-2.result.now ≡ languages_of systems = ap (map rc_value) c.deref-2.ensures.value ∙ c.in_ok-languages.ensures in
    let read : readings_in c.deref-3.result.now ≡ beside parts systems c.are_sealed.ensures =
    ap readings_in c.deref-3.ensures.value ∙ c.in_ok-readers.ensures ∙ ap (λ (ss : List ℕ). combined_readings parts ss (map rc_value c.deref-2.result.now)) sizes
    ∙ ap (λ (ls : List Automaton). combined_readings parts (sizes_of (systems_of systems)) ls) languages in
    let width = c.in_ok-result.field-0.width in
    width_combine parts systems c.are_sealed.ensures c.requires.systems c.requires.shape c.are_relations.ensures width
    (subst (λ (rs : List Reading). HasWidth (LeadToOne rs) (product (sizes_of (systems_of systems))) width) read
    (subst (λ (ss : List ℕ). HasWidth (LeadToOne (readings_in c.deref-3.result.now)) (product ss) width) sizes c.in_ok-result.ensures.width))

pub returns-clause-combination : goal.returns-clause-combination
returns-clause-combination c =
    let parts = c.args.parts.now in
    let systems : List SystemValue = map rc_value c.args.systems.now in
    let sizes : c.in_ok-alphabet.alphabet ≡ sizes_of (systems_of systems) = c.in_ok-alphabet.ensures.value ∙ c.deref.ensures.value ∙ c.in_ok-digits.ensures in
    let languages : map rc_value c.deref-2.result.now ≡ languages_of systems = ap (map rc_value) c.deref-2.ensures.value ∙ c.in_ok-languages.ensures in
    let made : combined_readings parts c.in_ok-alphabet.alphabet (map rc_value c.deref-2.result.now) ≡ beside parts systems c.are_sealed.ensures =
    ap (λ (ss : List ℕ). combined_readings parts ss (map rc_value c.deref-2.result.now)) sizes ∙ ap (λ (ls : List Automaton). combined_readings parts (sizes_of (systems_of systems)) ls) languages in
    let read : readings_in c.deref-3.result.now ≡ beside parts systems c.are_sealed.ensures = ap readings_in c.deref-3.ensures.value ∙ c.in_ok-readers.ensures ∙ made in
    let seen : readings_in c.deref-4.result.now ≡ beside parts systems c.are_sealed.ensures = ap readings_in c.deref-4.ensures.value ∙ c.in_ok-readers.ensures ∙ made in
    let f = c.in_ok-function.function in
    let e = c.in_ok-result.field-0.result.dfa in
    let keys = c.in_ok-result.field-0.result.keys in
    let own : e.sizes ≡ sizes_of (systems_of systems) = c.in_ok-result.ensures.sizes ∙ sizes in
    let tuples : AreTuples (product (sizes_of (systems_of systems))) (beside parts systems c.are_sealed.ensures) keys e =
    subst (λ (rs : List Reading). AreTuples (product (sizes_of (systems_of systems))) rs keys e) read
    (subst (λ (ss : List ℕ). AreTuples (product ss) (readings_in c.deref-3.result.now) keys e) sizes c.in_ok-result.ensures.tuples) in
    let letters = c.deref-5.ensures.value ∙ c.in_ok-letters.ensures ∙ ap (λ (rs : List Reading). held_letters c.args.rest parts rs keys) seen in
    word_of_tuples parts systems c.are_sealed.ensures c.requires.systems c.requires.shape c.are_relations.ensures c.args.rest f keys e c.in_ok-function.ensures.function (c.in_ok-function.ensures.sizes ∙ own) tuples
    (λ w over.
    c.in_ok-function.ensures.letters w (subst (λ (ss : List ℕ). IsWord (product ss) w) (sym own) over) ∙ ap (λ (ls : List (Option ℤ)). letter_led e ls w) letters)
