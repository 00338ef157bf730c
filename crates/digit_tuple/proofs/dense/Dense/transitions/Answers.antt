use Rattle.std.proofs.Common.{◌≡◌, ◌<◌, length, sym, ap, ◌∙◌, subst}
use Rattle.digit_tuple.specs.Deterministic.{Automaton, State, IsTable, IsRow, transitions_of, states_of, letters_of}
use Rattle.digit_tuple.proofs.DfaLemmas.{row_at, state_in_row}
use Rattle.digit_tuple.proofs.dense.Dense.transitions.Goals as goal

pub returns-clause-row : goal.returns-clause-row
returns-clause-row c =
    let table : IsTable (letters_of c.args.self.now) c.args.self.now.states = subst (λ (d : Automaton). IsTable (letters_of d) d.states) c.self.view_is c.self.invariant in
    let within = subst (λ (d : Automaton). c.args.state < length d.states) (sym c.self.view_is) c.requires in
    let same : transitions_of c.args.self.now c.args.state ≡ c.deref.result.now =
    sym (ap (λ (d : Automaton). transitions_of d c.args.state) c.self.view_is) ∙ ap (λ (s : State). s.transitions) (state_in_row c.self.inside.rows.items c.args.state c.index.result.now within c.index.ensures) ∙ sym c.deref.ensures.value in
    subst (IsRow (letters_of c.args.self.now) (states_of c.args.self.now)) same (row_at c.args.self.now c.args.state table c.requires)
