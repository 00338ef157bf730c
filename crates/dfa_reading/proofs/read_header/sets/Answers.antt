use Rattle.std.proofs.Common.{List, ◌∷◌, ℤ, eqb, sym, ap, ◌∙◌}
use Rattle.std.specs.Prelude.{option_copied}
use Rattle.std.specs.List.{slice_split}
use Rattle.dfa_reading.specs.Views.{pieces_after}
use Rattle.dfa_reading.specs.Headers.{sets_of, sets_between}
use Rattle.dfa_reading.proofs.ReadHeaders.{with_prefix, sets_more, sets_none}
use Rattle.dfa_reading.proofs.read_header.sets.Goals as goal

pub returns-in-None-2 : goal.returns-in-None-2
unfolding sets_of
returns-in-None-2 c =
    sets_none c.sets.rest.now c.cut_at.result.0.now c.in-Some.next.now c.sets.sets (sets_of c.args.line.now)
    (c.cut_at.ensures.pieces ∙ ap (λ o. c.cut_at.result.0.now ∷ pieces_after 125 (option_copied o)) c.in-Some.is)
    (sym c.in_ok-open_set-in-Some.ensures ∙ c.in-None-2.is)
    c.sets.invariant

pub sets-preserved : goal.sets-preserved
sets-preserved c =
    ap (λ (sets : List (List ℤ)). with_prefix sets (sets_between (slice_split (λ b. eqb b 125) c.in-Some.next.now))) c.in_ok-push-in-Some-2.ensures.ok
    ∙ sets_more c.sets.rest.now c.cut_at.result.0.now c.in-Some.next.now c.in-Some-2.set c.sets.sets (sets_between (slice_split (λ b. eqb b 125) c.args.line.now))
    (c.cut_at.ensures.pieces ∙ ap (λ o. c.cut_at.result.0.now ∷ pieces_after 125 (option_copied o)) c.in-Some.is)
    (sym c.in_ok-open_set-in-Some.ensures ∙ c.in-Some-2.is)
    c.sets.invariant
