use Rattle.std.proofs.Common.{[], ◌∷◌, ◌++◌, ap, sym, ◌∙◌, subst}
use Rattle.std.proofs.lemmas.List.Elements.{All-nil, All-cons}
use Rattle.digit_tuple.specs.Deterministic.{letters_of}
use Rattle.digit_tuple.specs.Letters.{product}
use Rattle.product_op.specs.Readings.{AreReadings, IsReading, readings_in}
use Rattle.product_op.specs.TrackReadings.{whole_reading}
use Rattle.product_op.proofs.ReadingLemmas.{IsReading-whole}
use Rattle.word_output.proofs.letter_reading.table_states.Goals as goal

pub explore_tuples-requires : goal.explore_tuples-requires
explore_tuples-requires c =
    let d = c.args.table.now in
    let are = ap readings_in (c.deref.ensures.value ∙ c.in_ok-push.ensures.items ∙ ap (λ rs. rs ++ c.in_ok-whole_reader.field-0 ∷ []) c.new-readers.ensures.items) ∙ ap (λ r. r ∷ []) c.in_ok-whole_reader.ensures in
    let letters = ap product (c.in_ok-alphabet.ensures ∙ c.alphabet.ensures.sizes) in
    subst (AreReadings (product c.in_ok-alphabet.alphabet)) (sym are)
    (subst (λ n. AreReadings n (whole_reading d ∷ [])) (sym letters)
    (All-cons (IsReading (letters_of d)) (whole_reading d) [] (IsReading-whole d c.alphabet.ensures.table) (All-nil (IsReading (letters_of d)))))
