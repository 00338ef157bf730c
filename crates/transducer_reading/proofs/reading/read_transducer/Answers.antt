use Rattle.std.proofs.Common.{◌≡◌, ◌+◌, ◌<◌, Bool, ◌∷◌, length, cond, None, Some, refl, sym, ap, ◌∙◌, arith}
use Rattle.std.specs.Prelude.{option_copied}
use Rattle.dfa_reading.specs.Lines.{lines_of, line_after}
use Rattle.dfa_reading.specs.Views.{pieces_after}
use Rattle.dfa_reading.proofs.ReadDrafts.{count_line}
use Rattle.transducer_reading.specs.Reading.{Draft, add_line, add_lines, no_draft}
use Rattle.transducer_reading.specs.Drafts.{draft_view}
use Rattle.transducer_reading.proofs.ReadLemmas.{read_line}
use Rattle.transducer_reading.proofs.reading.read_transducer.Goals as goal

pub lines-init : goal.lines-init
lines-init c = record {
  read = ap (λ (d : Draft). add_lines 1 d (lines_of c.args.text.now)) c.new-draft.ensures.draft;
  after = refl;
  is = c.new-draft.ensures.reading;
  room = omega arith;
}

pub lines-preserved : goal.lines-preserved
lines-preserved c =
    let draft = c.lines.draft in
    let next = c.add_line.new.self in
    let lines : lines_of c.lines.rest.now ≡ c.cut_at.result.0.now ∷ lines_of c.in-Some.next.now = c.cut_at.ensures.pieces ∙ ap (λ o. c.cut_at.result.0.now ∷ pieces_after 10 (option_copied o)) c.in-Some.is in
    let total = add_lines 1 no_draft (lines_of c.args.text.now) in
    let added : add_line c.lines.at (draft_view draft) c.cut_at.result.0.now ≡ Some (draft_view next) =
    sym c.in_ok-add_line.ensures.added ∙ ap (λ (b : Bool). cond b (Some (draft_view next)) None) c.if-not-branch.false in
    let shorter : length c.in-Some.next.now < length c.lines.rest.now = rw c.in-Some.is at c.cut_at.ensures.shorter in
    record {
      read = read_line c.lines.at (draft_view draft) (draft_view next) c.lines.rest.now c.cut_at.result.0.now c.in-Some.next.now total lines added c.lines.invariant.read;
      after = count_line c.lines.at (1 + line_after (lines_of c.args.text.now)) c.lines.rest.now c.cut_at.result.0.now c.in-Some.next.now lines c.lines.invariant.after;
      is = c.in_ok-add_line.ensures.reading c.if-not-branch.false;
      room = omega (arith, c.lines.invariant.room);
    }
