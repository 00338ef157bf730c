use Rattle.std.proofs.Common.{◌≡◌, ◌+◌, ◌++◌, ◌∷◌, ◌&&◌, [], List, sym, ap, ◌∙◌, subst}
use Rattle.std.proofs.lemmas.List.{map-append}
use Rattle.digit_tuple.specs.Automaton.{Branch}
use Rattle.digit_tuple.specs.Deterministic.{accepting_of}
use Rattle.digit_tuple.specs.Rows.{branch_in, branches_in}
use Rattle.lang_ops.specs.LinkedRows.{AreLinkedRows}
use Rattle.lang_ops.proofs.LinkedRowLemmas.{AreLinkedRows-push}
use Rattle.lang_ops.proofs.linked_rows.linked_rows.Goals as goal
use Rattle.lang_ops.proofs.linked_rows.linked_rows.Goals.{then-ends, else-ends}

pub loop-state-preserved : goal.loop-state-preserved
loop-state-preserved c =
    let d = c.args.d.now in
    let rows = branches_in c.loop-state.rows.items in
    let state = c.loop-state.state in
    let row : Branch = record { accepting = c.if-ends.push; transitions = c.in_ok-linked_transitions.field-0.items } in
    let flag : c.if-ends.push ≡ (c.args.ends && accepting_of d state) =
    elim c.if-ends.branch [
      | then-ends w ↦ w.push-is ∙ w.accepting.ensures.accepting ∙ ap (λ e. e && accepting_of d state) (sym w.if-ends.true)
      | else-ends w ↦ w.push-is ∙ w.if-ends.false ∙ ap (λ e. e && accepting_of d state) (sym w.if-ends.false)
    ] in
    let pushed : branches_in c.push.new.self.items ≡ rows ++ row ∷ [] = ap branches_in c.in_ok-push.ensures.items ∙ map-append branch_in c.loop-state.rows.items _ in
    subst (λ (bs : List Branch). AreLinkedRows d c.args.link c.args.ends bs (state + 1)) (sym pushed)
    (AreLinkedRows-push d c.args.link c.args.ends rows state row c.loop-state.invariant flag c.in_ok-linked_transitions.ensures)
