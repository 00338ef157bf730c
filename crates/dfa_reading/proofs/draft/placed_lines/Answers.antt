use Rattle.std.proofs.Common.{◌≡◌, ◌+◌, ◌∷◌, ◌++◌, [], List, ℕ, length, drop, sym, ap, ◌∙◌}
use Rattle.std.specs.Prelude.{option_map}
use Rattle.std.proofs.lemmas.Iterator.Consumers.{YieldsList-turn, YieldsList-end}
use Rattle.std.proofs.lemmas.Iterator.Adapters.{YieldsList-from_vec}
use Rattle.std.proofs.lemmas.List.{map-append, length_push}
use Rattle.dfa_reading.specs.LineViews.{line_view, lines_in}
use Rattle.dfa_reading.specs.Listed.{ListedLine}
use Rattle.dfa_reading.specs.Reading.{placed_lines}
use Rattle.dfa_reading.specs.DraftViews.{draft_lines_in}
use Rattle.dfa_reading.proofs.ReadDrafts.{ahead, placed_fails, placed_more, placed_all}
use Rattle.dfa_reading.proofs.draft.placed_lines.Goals as goal

pub returns-in-None-2 : goal.returns-in-None-2
returns-in-None-2 c =
    let it = c.into_iter-line-iterator in
    let all = YieldsList-from_vec {s = it.result} c.args.lines.items it.ensures.into_iter_gives.0 (it.ensures.into_iter_gives.1 ∙ c.args.lines.ok.0) in
    let t = YieldsList-turn all c.loop-line.yielded c.loop-line.line-iterator c.loop-line.yielded_by c.next.result c.next.new.self c.in-Some.line c.in-Some.is c.next.ensures.steps in
    placed_fails c.args.numbers.now.keys c.args.lines.items (length c.loop-line.yielded) c.in-Some.line (lines_in c.loop-line.placed.items) _ t.0 t.1
    (sym c.in_ok-placed_line.ensures ∙ ap (option_map line_view) c.in-None-2.is) c.loop-line.invariant

pub loop-line-preserved : goal.loop-line-preserved
loop-line-preserved c =
    let it = c.into_iter-line-iterator in
    let all = YieldsList-from_vec {s = it.result} c.args.lines.items it.ensures.into_iter_gives.0 (it.ensures.into_iter_gives.1 ∙ c.args.lines.ok.0) in
    let t = YieldsList-turn all c.loop-line.yielded c.loop-line.line-iterator c.loop-line.yielded_by c.next.result c.next.new.self c.in-Some.line c.in-Some.is c.next.ensures.steps in
    let keys = c.args.numbers.now.keys in
    let lines = c.args.lines.items in
    let before = lines_in c.loop-line.placed.items in
    let placed = line_view c.in-Some-2.line in
    let pushed : lines_in c.push.new.self.items ≡ before ++ placed ∷ [] = ap lines_in c.in_ok-push-in-Some-2.ensures.items ∙ map-append line_view c.loop-line.placed.items (c.in-Some-2.line ∷ []) in
    let more = placed_more keys lines (length c.loop-line.yielded) c.in-Some.line before placed _ t.0 t.1 (sym c.in_ok-placed_line.ensures ∙ ap (option_map line_view) c.in-Some-2.is) c.loop-line.invariant in
    ap (λ (n : ℕ). ahead (lines_in c.push.new.self.items) (placed_lines keys (draft_lines_in (drop n lines)))) (length_push c.loop-line.yielded c.in-Some.line)
    ∙ ap (λ (ls : List ListedLine). ahead ls (placed_lines keys (draft_lines_in (drop (length c.loop-line.yielded + 1) lines)))) pushed ∙ more

pub returns : goal.returns
returns c =
    let it = c.into_iter-line-iterator in
    let all = YieldsList-from_vec {s = it.result} c.args.lines.items it.ensures.into_iter_gives.0 (it.ensures.into_iter_gives.1 ∙ c.args.lines.ok.0) in
    let e = YieldsList-end all c.loop-line.yielded c.loop-line.line-iterator c.loop-line.yielded_by c.next.result c.next.new.self c.in-None.is c.next.ensures.steps in
    placed_all c.args.numbers.now.keys c.args.lines.items (length c.loop-line.yielded) (lines_in c.loop-line.placed.items) _ e.1 c.loop-line.invariant
