use Rattle.std.proofs.Common.{◌≡◌, ◌∷◌, eqb, sym, ap, ◌∙◌}
use Rattle.std.specs.Prelude.{option_copied}
use Rattle.std.specs.List.{slice_split}
use Rattle.dfa_reading.specs.Views.{pieces_after}
use Rattle.transducer_reading.proofs.SetLemmas.{set_first, set_not_alone, no_brace}
use Rattle.transducer_reading.proofs.read_set.read_set.Goals as goal

pub returns-in-None : goal.returns-in-None
returns-in-None c =
    let piece = c.cut_at.result.0.now in
    no_brace c.args.line.now piece (c.cut_at.ensures.pieces ∙ ap (λ o. piece ∷ pieces_after 125 (option_copied o)) c.in-None.is)

pub returns-then-is_blank : goal.returns-then-is_blank
returns-then-is_blank c =
    let piece = c.cut_at.result.0.now in
    let rest = c.in-Some.rest.now in
    let split : slice_split (λ b. eqb b 125) c.args.line.now ≡ piece ∷ slice_split (λ b. eqb b 125) rest = c.cut_at.ensures.pieces ∙ ap (λ o. piece ∷ pieces_after 125 (option_copied o)) c.in-Some.is in
    rw (← set_first c.args.line.now piece rest split (sym c.is_blank.ensures ∙ c.if-is_blank.true)) c.open_set.ensures

pub returns-else-is_blank : goal.returns-else-is_blank
returns-else-is_blank c =
    let piece = c.cut_at.result.0.now in
    let rest = c.in-Some.rest.now in
    let split : slice_split (λ b. eqb b 125) c.args.line.now ≡ piece ∷ slice_split (λ b. eqb b 125) rest = c.cut_at.ensures.pieces ∙ ap (λ o. piece ∷ pieces_after 125 (option_copied o)) c.in-Some.is in
    set_not_alone c.args.line.now piece rest split (sym c.is_blank.ensures ∙ c.if-is_blank.false)
