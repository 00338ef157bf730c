use Rattle.std.proofs.Common.{◌≡◌, ◌∷◌, eqb, sym, ap, ◌∙◌}
use Rattle.std.specs.Prelude.{option_copied}
use Rattle.std.specs.List.{slice_split}
use Rattle.dfa_reading.specs.Views.{pieces_after}
use Rattle.dfa_reading.proofs.Splits.{split_some}
use Rattle.transducer_reading.specs.Entries.{two_of}
use Rattle.transducer_reading.proofs.EntryLemmas.{two_pieces, not_two}
use Rattle.transducer_reading.proofs.read_entry.cut_slash.Goals as goal

pub returns-in-None : goal.returns-in-None
returns-in-None c =
    let text = c.args.text.now in
    let before = c.cut_at.result.0.now in
    let rest = c.in-Some.rest.now in
    let after = c.cut_at-2.result.0.now in
    let first : slice_split (λ b. eqb b 47) text ≡ before ∷ slice_split (λ b. eqb b 47) rest = c.cut_at.ensures.pieces ∙ ap (λ o. before ∷ pieces_after 47 (option_copied o)) c.in-Some.is in
    sym (two_pieces text before rest after (pieces_after 47 (option_copied c.cut_at-2.result.1)) first c.cut_at-2.ensures.pieces ∙ ap (λ o. two_of (before ∷ after ∷ pieces_after 47 (option_copied o))) c.in-None.is)

pub returns-in-Some-more : goal.returns-in-Some-more
returns-in-Some-more c =
    let text = c.args.text.now in
    let before = c.cut_at.result.0.now in
    let rest = c.in-Some.rest.now in
    let after = c.cut_at-2.result.0.now in
    let first : slice_split (λ b. eqb b 47) text ≡ before ∷ slice_split (λ b. eqb b 47) rest = c.cut_at.ensures.pieces ∙ ap (λ o. before ∷ pieces_after 47 (option_copied o)) c.in-Some.is in
    let more = c.in-Some-more.field-0.now in
    sym (two_pieces text before rest after (pieces_after 47 (option_copied c.cut_at-2.result.1)) first c.cut_at-2.ensures.pieces ∙ ap (λ o. two_of (before ∷ after ∷ pieces_after 47 (option_copied o))) c.in-Some-more.is
    ∙ not_two before after (slice_split (λ b. eqb b 47) more) (split_some (λ b. eqb b 47) more))
