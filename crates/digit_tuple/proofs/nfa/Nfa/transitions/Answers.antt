use Rattle.std.proofs.Common.{◌≡◌, ◌<◌, ap, sym, subst, ◌∙◌, List, length}
use Rattle.std.proofs.lemmas.List.{length-map}
use Rattle.digit_tuple.specs.Automaton.{Branching, IsBranchTable, IsRow, transitions_of, states_of, letters_of}
use Rattle.digit_tuple.specs.Rows.{branch_in}
use Rattle.digit_tuple.specs.declared.transitions.Transition.{Transition}
use Rattle.digit_tuple.specs.declared.transitions.NfaState.{NfaState}
use Rattle.digit_tuple.proofs.TableLemmas.{IsRow-transitions_of, transitions_of-rows}
use Rattle.digit_tuple.proofs.nfa.Nfa.transitions.Goals as goal

pub returns-clause-row : goal.returns-clause-row
returns-clause-row c =
    let n : Branching = c.args.self.now in
    let rows : List NfaState = c.self.inside.rows.items in
    let table : IsBranchTable (letters_of n) n.states = subst (λ (m : Branching). IsBranchTable (letters_of m) m.states) c.self.view_is c.self.invariant in
    let counted : length n.states ≡ length rows = ap (λ (m : Branching). length m.states) (sym c.self.view_is) ∙ length-map rows branch_in in
    let within : c.args.state < length rows = subst (λ k. c.args.state < k) counted c.requires in
    let same : c.deref.result.now ≡ transitions_of n c.args.state =
    c.deref.ensures.value ∙ ap (λ (s : NfaState). s.transitions.items) c.index.ensures
    ∙ sym (transitions_of-rows n rows c.args.state c.index.result.now (ap (λ (m : Branching). m.states) (sym c.self.view_is)) within) in
    subst (λ (es : List Transition). IsRow (letters_of n) (states_of n) es) (sym same) (IsRow-transitions_of n c.args.state table c.requires)
