use Rattle.std.proofs.Common.{◌≡◌, ◌<◌, ◌++◌, ◌∷◌, [], ℕ, ℤ, List, Option, length, sym, ap, ◌∙◌, subst}
use Rattle.std.specs.List.{All}
use Rattle.std.proofs.lemmas.Result.{IfOk-weaker}
use Rattle.digit_tuple.specs.Deterministic.{Automaton, letters_of}
use Rattle.digit_tuple.specs.Letters.{IsWord, product}
use Rattle.digit_tuple.specs.Names.{places_of}
use Rattle.digit_tuple.proofs.NameLemmas.{places_of-within}
use Rattle.product_op.specs.declared.reader.Reader.{Reader}
use Rattle.product_op.specs.Readings.{AreReadings, Reading, readings_in}
use Rattle.product_op.specs.TrackReadings.{read_on}
use Rattle.product_op.specs.Tuples.{AreTuples}
use Rattle.word_output.specs.LetterFunctions.{letter_after}
use Rattle.word_output.specs.WordPairs.{letter_read}
use Rattle.word_output.specs.StateLetters.{letter_led}
use Rattle.word_output.proofs.PlacedLetters.{one_reading, placed_letter, reading, reads_places}
use Rattle.word_output.proofs.placed_letters.letters_on.Goals as goal

pub reader_on-requires-clause-places : goal.reader_on-requires-clause-places
reader_on-requires-clause-places c =
    let places = places_of c.args.names.now c.args.placed.under.now in
    let inside : All (λ place. place < length c.args.tracks.now) places =
    subst (λ n. All (λ place. place < n) places) c.requires.count (places_of-within c.args.names.now c.args.placed.under.now c.requires.there) in
    subst (λ (ps : List ℕ). All (λ place. place < length c.args.tracks.now) ps) (sym (c.deref.ensures.value ∙ c.in_ok-places.ensures)) inside

pub explore_tuples-requires : goal.explore_tuples-requires
explore_tuples-requires c =
    let g = c.args.placed.function.now in
    let is = c.dfa.ensures.function in
    let tracks = c.args.tracks.now in
    let places = places_of c.args.names.now c.args.placed.under.now in
    let reader = c.in_ok-reader_on.field-0 in
    let inside : All (λ place. place < length tracks) places = subst (λ n. All (λ place. place < n) places) c.requires.count (places_of-within c.args.names.now c.args.placed.under.now c.requires.there) in
    let reads = c.in_ok-reader_on.ensures ∙ ap (λ (d : Automaton). read_on tracks d c.deref.result.now) c.dfa.ensures.value ∙ ap (λ (ps : List ℕ). read_on tracks g.automaton ps) (c.deref.ensures.value ∙ c.in_ok-places.ensures) in
    let items = c.deref-2.ensures.value ∙ c.in_ok-push.ensures.items ∙ ap (λ (rs : List Reader). rs ++ reader ∷ []) c.new-readers.ensures.items in
    let tie = one_reading c.deref-2.result.now reader (reading tracks g is places) items reads in
    subst (λ (rs : List Reading). AreReadings (product c.in_ok-copy.field-0) rs) (sym tie)
    (subst (λ (ss : List ℕ). AreReadings (product ss) (reading tracks g is places ∷ [])) (sym c.in_ok-copy.ensures) (reads_places tracks g is places inside c.requires.sizes))

pub returns-in-Ok-clause-letters : goal.returns-in-Ok-clause-letters
returns-in-Ok-clause-letters c =
    let g = c.args.placed.function.now in
    let is = c.dfa.ensures.function in
    let tracks = c.args.tracks.now in
    let places = places_of c.args.names.now c.args.placed.under.now in
    let reader = c.in_ok-reader_on.field-0 in
    let reads = c.in_ok-reader_on.ensures ∙ ap (λ (d : Automaton). read_on tracks d c.deref.result.now) c.dfa.ensures.value ∙ ap (λ (ps : List ℕ). read_on tracks g.automaton ps) (c.deref.ensures.value ∙ c.in_ok-places.ensures) in
    let items = c.deref-2.ensures.value ∙ c.in_ok-push.ensures.items ∙ ap (λ (rs : List Reader). rs ++ reader ∷ []) c.new-readers.ensures.items in
    let tie = one_reading c.deref-2.result.now reader (reading tracks g is places) items reads in
    let keys = c.in-Ok.stepped.result.keys in
    let d = c.in-Ok.stepped.result.dfa in
    let tuples : AreTuples (product tracks) (reading tracks g is places ∷ []) keys d =
    subst (λ (rs : List Reading). AreTuples (product tracks) rs keys d) tie
    (subst (λ (ss : List ℕ). AreTuples (product ss) (readings_in c.deref-2.result.now) keys d) c.in_ok-copy.ensures c.in-Ok.ensures.tuples) in
    let sizes = c.in-Ok.ensures.sizes ∙ c.in_ok-copy.ensures in
    let letters = c.deref-in-Ok.ensures.value ∙ c.in_ok-letters-in-Ok.ensures in
    IfOk-weaker c.of_states.result
    (λ f. (w : List ℕ) → IsWord (letters_of d) w → letter_after f w ≡ letter_led d c.deref-in-Ok.result.now w)
    (λ f. (w : List ℕ) → IsWord (product tracks) w → letter_after f w ≡ letter_read c.args.names.now tracks (record { function = g; under = c.args.placed.under.now }) w)
    (λ f says w over.
    says w (subst (λ (ss : List ℕ). IsWord (product ss) w) (sym sizes) over)
    ∙ ap (λ (ls : List (Option ℤ)). letter_led d ls w) letters
    ∙ placed_letter tracks g is places keys d tuples w over)
    c.of_states.ensures.letters
