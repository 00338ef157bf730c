use Rattle.std.proofs.Common.{◌≡◌, ℕ, List, length, map, sym, ap, ◌∙◌, subst, arith}
use Rattle.std.specs.List.{All}
use Rattle.std.proofs.lemmas.List.{length-map}
use Rattle.digit_tuple.specs.Automaton.{Branch}
use Rattle.digit_tuple.specs.Rows.{branch_in, branches_in}
use Rattle.dfa_reading.specs.BranchRows.{bare_row, rows_after, AreInOrder}
use Rattle.dfa_reading.specs.Listed.{ListedLine, IsListedLine}
use Rattle.dfa_reading.specs.LineViews.{lines_in}
use Rattle.dfa_reading.proofs.branching.rows.Goals as goal

pub add_lines-requires-clause-lines : goal.add_lines-requires-clause-lines
add_lines-requires-clause-lines c =
    let listed = c.args.listed.now in
    let tracks = length c.args.alphabet.now in
    let rows = c.in_ok-rows.rows.items in
    let size : length listed.outputs ≡ length rows = sym (length-map listed.outputs bare_row) ∙ sym (ap length (c.in_ok-rows.ensures ∙ ap (map bare_row) c.outputs.ensures)) ∙ length-map rows branch_in in
    let all : All (IsListedLine tracks (length listed.outputs)) listed.lines = subst (λ (n : ℕ). All (IsListedLine n (length listed.outputs)) listed.lines) c.requires c.states.ensures.listed in
    subst (λ (lines : List ListedLine). All (IsListedLine tracks (length rows)) lines) (sym c.lines.ensures.lines) (subst (λ (n : ℕ). All (IsListedLine tracks n) listed.lines) size all)

pub add_lines-requires-clause-small : goal.add_lines-requires-clause-small
add_lines-requires-clause-small c =
    let outputs = c.args.listed.now.outputs in
    let rows = c.in_ok-rows.rows.items in
    let size : length outputs ≡ length rows = sym (length-map outputs bare_row) ∙ sym (ap length (c.in_ok-rows.ensures ∙ ap (map bare_row) c.outputs.ensures)) ∙ length-map rows branch_in in
    omega (arith, size, c.if-states.false, c.states.ensures.value)

pub returns : goal.returns
returns c =
    let listed = c.args.listed.now in
    let sizes = c.args.alphabet.now in
    let bare = map bare_row listed.outputs in
    let new = c.sort_rows.new.rows.items in
    let begun : branches_in c.in_ok-rows.rows.items ≡ bare = c.in_ok-rows.ensures ∙ ap (map bare_row) c.outputs.ensures in
    let fed : branches_in c.add_lines.new.rows.items ≡ rows_after sizes bare listed.lines =
    c.in_ok-add_lines.ensures ∙ ap (λ (rows : List Branch). rows_after sizes rows (lines_in c.lines.result.now)) begun ∙ ap (rows_after sizes bare) c.lines.ensures.lines in
    record {
      ordered = subst (λ (rows : List Branch). AreInOrder rows (branches_in new) (length (branches_in new))) fed
          (subst (AreInOrder (branches_in c.add_lines.new.rows.items) (branches_in new)) (sym (length-map new branch_in)) c.in_ok-sort_rows.ensures);
      small = omega (arith, c.if-states.false, c.states.ensures.value);
      lines = subst (λ (n : ℕ). All (IsListedLine n (length listed.outputs)) listed.lines) c.requires c.states.ensures.listed;
    }
