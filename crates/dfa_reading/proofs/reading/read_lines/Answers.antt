use Rattle.std.proofs.Common.{◌≡◌, ◌+◌, ◌<◌, Bool, ◌∷◌, length, cond, None, Some, refl, sym, ap, ◌∙◌, arith}
use Rattle.std.specs.Prelude.{option_copied}
use Rattle.dfa_reading.specs.Lines.{lines_of, line_after}
use Rattle.dfa_reading.specs.Reading.{Draft, add_lines_by, no_draft}
use Rattle.dfa_reading.specs.Views.{pieces_after}
use Rattle.dfa_reading.proofs.ReadDrafts.{read_line, count_line}
use Rattle.dfa_reading.proofs.reading.read_lines.Goals as goal

pub lines-init : goal.lines-init
lines-init g c = record {
  read = ap (λ (d : Draft). add_lines_by (g.R.LineReader.adds c.args.reader) 1 d (lines_of c.args.text.now)) c.requires.nothing;
  after = refl;
  is = c.requires.prefix;
  room = omega arith;
}

pub lines-preserved : goal.lines-preserved
lines-preserved g c =
    let reader = c.lines.reader in
    let next = c.add_line.new.self in
    let lines : lines_of c.lines.rest.now ≡ c.cut_at.result.0.now ∷ lines_of c.in-Some.next.now = c.cut_at.ensures.pieces ∙ ap (λ o. c.cut_at.result.0.now ∷ pieces_after 10 (option_copied o)) c.in-Some.is in
    let total = add_lines_by (g.R.LineReader.adds c.args.reader) 1 no_draft (lines_of c.args.text.now) in
    let added : g.R.LineReader.adds reader c.lines.at (g.R.LineReader.was_read reader) c.cut_at.result.0.now ≡ Some (g.R.LineReader.was_read next) =
    sym c.in_ok-add_line.ensures.added ∙ ap (λ (b : Bool). cond b (Some (g.R.LineReader.was_read next)) None) c.if-not-branch.false in
    let shorter : length c.in-Some.next.now < length c.lines.rest.now = rw c.in-Some.is at c.cut_at.ensures.shorter in
    let kept : add_lines_by (g.R.LineReader.adds next) (c.lines.at + 1) (g.R.LineReader.was_read next) (lines_of c.in-Some.next.now) ≡ add_lines_by (g.R.LineReader.adds reader) (c.lines.at + 1) (g.R.LineReader.was_read next) (lines_of c.in-Some.next.now) =
    ap (λ add. add_lines_by add (c.lines.at + 1) (g.R.LineReader.was_read next) (lines_of c.in-Some.next.now)) (c.in_ok-add_line.ensures.format c.if-not-branch.false) in
    record {
      read = kept ∙ read_line (g.R.LineReader.adds reader) c.lines.at (g.R.LineReader.was_read reader) (g.R.LineReader.was_read next) c.lines.rest.now c.cut_at.result.0.now c.in-Some.next.now total lines added c.lines.invariant.read;
      after = count_line c.lines.at (1 + line_after (lines_of c.args.text.now)) c.lines.rest.now c.cut_at.result.0.now c.in-Some.next.now lines c.lines.invariant.after;
      is = c.in_ok-add_line.ensures.prefix c.if-not-branch.false;
      room = omega (arith, c.lines.invariant.room);
    }

pub lines-smaller : goal.lines-smaller
lines-smaller g c = rw c.in-Some.is at c.cut_at.ensures.shorter

pub overflow_add-at : goal.overflow_add-at
overflow_add-at g c = omega (arith, c.lines.invariant.room, c.requires.length)

pub overflow_add-after : goal.overflow_add-after
overflow_add-after g c = omega (arith, c.lines.invariant.room, c.requires.length)
