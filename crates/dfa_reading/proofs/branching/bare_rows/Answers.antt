use Rattle.std.proofs.Common.{◌≡◌, Bool, List, [], ◌∷◌, ◌++◌, None, map, take, get_or, sym, ap, ◌∙◌}
use Rattle.std.proofs.lemmas.List.{map_more, map-append, take_all}
use Rattle.digit_tuple.specs.declared.transitions.Transition.{Transition}
use Rattle.digit_tuple.specs.declared.transitions.NfaState.{NfaState}
use Rattle.digit_tuple.specs.Automaton.{Branch}
use Rattle.digit_tuple.specs.Rows.{branch_in, branches_in}
use Rattle.dfa_reading.specs.BranchRows.{bare_row, is_accepting_output}
use Rattle.dfa_reading.proofs.branching.bare_rows.Goals as goal

pub loop-output-preserved : goal.loop-output-preserved
loop-output-preserved c =
    let rows = c.loop-output.rows.items in
    let outputs = c.args.outputs.now in
    let i = c.loop-output.output-index in
    let row : NfaState = record { accepting = c.is_accepting.result; transitions = c.new.result } in
    let is : branch_in row ≡ bare_row (get_or outputs i None) =
    ap (λ (a : Bool). let b : Branch = record { accepting = a; transitions = c.new.result.items } in b) c.is_accepting.ensures
    ∙ ap (λ (es : List Transition). let b : Branch = record { accepting = is_accepting_output (get_or outputs i None); transitions = es } in b) c.new.ensures.items in
    ap branches_in c.in_ok-push.ensures.items ∙ map-append branch_in rows (row ∷ []) ∙ ap (λ (bs : List Branch). bs ++ branch_in row ∷ []) c.loop-output.invariant
    ∙ ap (λ (b : Branch). map bare_row (take i outputs) ++ b ∷ []) is ∙ sym (map_more bare_row outputs i None c.loop-output-test.true)

pub returns : goal.returns
returns c = c.loop-output.invariant ∙ ap (map bare_row) (take_all c.loop-output.output-index c.args.outputs.now c.loop-output-test.false)
