use Rattle.std.proofs.Common.{◌≡◌, ◌<◌, set, length, get_or, sym, ap, ◌∙◌, subst, List}
use Rattle.std.specs.List.{AllPairs}
use Rattle.std.proofs.lemmas.List.{map-set, set-get_or}
use Rattle.std.proofs.lemmas.Result.{IfOk-weaker, IfErr-weaker}
use Rattle.digit_tuple.specs.declared.transitions.Transition.{Transition}
use Rattle.digit_tuple.specs.declared.dfa.DfaState.{DfaState}
use Rattle.digit_tuple.specs.Deterministic.{Automaton, State, IsPartTable, IsSet, IsTransitionSet, KeepsRow, IsByEarlier, no_state, states_of, letters_of}
use Rattle.digit_tuple.specs.DfaRows.{state_in, states_in}
use Rattle.digit_tuple.proofs.DfaLemmas.{state_in_row}
use Rattle.digit_tuple.proofs.BuilderLemmas.{IsSet-state, IsPartTable-state}
use Rattle.digit_tuple.proofs.dfa_builder.DfaBuilder.set.Goals as goal

pub set_transition-requires : goal.set_transition-requires
set_transition-requires c =
    let rows = c.self.inside.rows.items in
    let within : c.args.state < length (states_in rows) = subst (λ (d : Automaton). c.args.state < states_of d) (sym c.self.view_is) c.requires.state in
    let is : get_or (states_in rows) c.args.state no_state ≡ state_in c.index_mut-row.result.now = state_in_row rows c.args.state c.index_mut-row.result.now within c.index_mut-row.ensures.value in
    subst (λ (s : State). AllPairs IsByEarlier s.transitions) is (c.self.invariant.rows c.args.state no_state within).ascending

pub invariant_of-self : goal.invariant_of-self
invariant_of-self c =
    let rows = c.self.inside.rows.items in
    let d : Automaton = record { sizes = c.self.inside.tracks; states = states_in rows } in
    let row : DfaState = record { accepting = c.index_mut-row.result.now.accepting; transitions = c.set_transition.new.transitions } in
    let within : c.args.state < length (states_in rows) = subst (λ (d : Automaton). c.args.state < states_of d) (sym c.self.view_is) c.requires.state in
    let is : get_or (states_in rows) c.args.state no_state ≡ state_in c.index_mut-row.result.now = state_in_row rows c.args.state c.index_mut-row.result.now within c.index_mut-row.ensures.value in
    subst (IsPartTable (letters_of d)) (sym (map-set state_in rows c.args.state row))
    (IsPartTable-state d c.args.state c.args.letter c.args.to (state_in row) within c.self.invariant
    (subst (λ (d : Automaton). c.args.letter < letters_of d) (sym c.self.view_is) c.requires.letter)
    (subst (λ (d : Automaton). c.args.to < states_of d) (sym c.self.view_is) c.requires.to)
    (subst (λ (s : State). KeepsRow s.transitions c.set_transition.new.transitions.items c.args.letter c.args.to) (sym is) c.set_transition.ensures.row))

pub returns-clause-set : goal.returns-clause-set
returns-clause-set c =
    let rows = c.self.inside.rows.items in
    let d : Automaton = record { sizes = c.self.inside.tracks; states = states_in rows } in
    let row : DfaState = record { accepting = c.index_mut-row.result.now.accepting; transitions = c.set_transition.new.transitions } in
    let within : c.args.state < length (states_in rows) = subst (λ (d : Automaton). c.args.state < states_of d) (sym c.self.view_is) c.requires.state in
    let is : get_or (states_in rows) c.args.state no_state ≡ state_in c.index_mut-row.result.now = state_in_row rows c.args.state c.index_mut-row.result.now within c.index_mut-row.ensures.value in
    IfOk-weaker c.set_transition.result _ _
    (λ _ transitions. subst (λ (old : Automaton). IsSet old (record { sizes = c.self.inside.tracks; states = states_in (set rows c.args.state row) }) c.args.state c.args.letter c.args.to) c.self.view_is
    (subst (λ (states : List State). IsSet d (record { sizes = c.self.inside.tracks; states = states }) c.args.state c.args.letter c.args.to) (sym (map-set state_in rows c.args.state row))
    (IsSet-state d c.args.state c.args.letter c.args.to (state_in row) within (ap (λ (s : State). s.accepting) (sym is))
    (subst (λ (s : State). IsTransitionSet s.transitions c.set_transition.new.transitions.items c.args.letter c.args.to) (sym is) transitions))))
    c.set_transition.ensures.set

pub returns-clause-err : goal.returns-clause-err
returns-clause-err c =
    let rows = c.self.inside.rows.items in
    let row : DfaState = record { accepting = c.index_mut-row.result.now.accepting; transitions = c.set_transition.new.transitions } in
    let within : c.args.state < length (states_in rows) = subst (λ (d : Automaton). c.args.state < states_of d) (sym c.self.view_is) c.requires.state in
    let is : get_or (states_in rows) c.args.state no_state ≡ state_in c.index_mut-row.result.now = state_in_row rows c.args.state c.index_mut-row.result.now within c.index_mut-row.ensures.value in
    IfErr-weaker c.set_transition.result _ _
    (λ _ kept.
    let same : state_in row ≡ get_or (states_in rows) c.args.state no_state = ap (λ (es : List Transition). let s : State = record { accepting = c.index_mut-row.result.now.accepting; transitions = es } in s) kept ∙ sym is in
    let states : states_in (set rows c.args.state row) ≡ states_in rows = map-set state_in rows c.args.state row ∙ ap (set (states_in rows) c.args.state) same ∙ set-get_or (states_in rows) c.args.state no_state in
    ap (λ (ss : List State). let d : Automaton = record { sizes = c.self.inside.tracks; states = ss } in d) states ∙ c.self.view_is)
    c.set_transition.ensures.err
