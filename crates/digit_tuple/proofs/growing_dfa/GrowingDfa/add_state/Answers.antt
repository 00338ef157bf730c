use Rattle.std.proofs.Common.{◌++◌, ◌∷◌, [], List, Bool, ap, ◌∙◌}
use Rattle.digit_tuple.specs.Deterministic.{Automaton, State}
use Rattle.digit_tuple.specs.DfaRows.{flagged}
use Rattle.digit_tuple.specs.SparseRows.{Rows}
use Rattle.digit_tuple.proofs.FlaggedLemmas.{flagged-push}
use Rattle.digit_tuple.proofs.growing_dfa.GrowingDfa.add_state.Goals as goal

pub returns : goal.returns
returns c =
    let flags = c.self.inside.flags.items in
    let table = c.self.inside.table in
    let state : State = record { accepting = c.args.accepting; transitions = c.args.transitions.now } in
    ap (λ (fs : List Bool). let d : Automaton = record { sizes = c.add_row.new.self.sizes; states = flagged fs c.add_row.new.self.rows } in d) c.in_ok-push.ensures.items
    ∙ ap (λ (t : Rows). let d : Automaton = record { sizes = t.sizes; states = flagged (flags ++ c.args.accepting ∷ []) t.rows } in d) c.in_default.ensures.ok
    ∙ ap (λ (ss : List State). let d : Automaton = record { sizes = table.sizes; states = ss } in d) (flagged-push flags table.rows c.args.accepting c.args.transitions.now c.self.invariant)
    ∙ ap (λ (a : Automaton). let d : Automaton = record { sizes = a.sizes; states = a.states ++ state ∷ [] } in d) c.self.view_is
