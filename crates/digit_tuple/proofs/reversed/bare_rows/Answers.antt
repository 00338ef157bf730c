use Rattle.std.proofs.Common.{◌==◌, ◌+◌, List, [], ◌∷◌, sym, ap, ◌∙◌, subst}
use Rattle.std.proofs.lemmas.Bool.Decides.{Decides-eqb}
use Rattle.std.proofs.lemmas.List.{map-append}
use Rattle.digit_tuple.specs.Automaton.{Branch}
use Rattle.digit_tuple.specs.Rows.{branch_in, branches_in}
use Rattle.digit_tuple.specs.Reversed.{AreBare}
use Rattle.digit_tuple.specs.declared.transitions.NfaState.{NfaState}
use Rattle.digit_tuple.proofs.ReversedLemmas.{AreBare-next}
use Rattle.digit_tuple.proofs.reversed.bare_rows.Goals as goal

pub loop-state-preserved : goal.loop-state-preserved
loop-state-preserved c =
    let rows = c.loop-state.rows.items in
    let state = c.loop-state.state in
    let row : NfaState = record { accepting = state == 0; transitions = c.new.result } in
    subst (λ (bs : List Branch). AreBare bs (state + 1)) (sym (ap branches_in c.in_ok-push.ensures.items ∙ map-append branch_in rows (row ∷ [])))
    (AreBare-next (branches_in rows) state (branch_in row) c.loop-state.invariant c.new.ensures.items (Decides-eqb state 0))
