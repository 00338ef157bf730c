use Rattle.std.proofs.Common.{◌≡◌, ◌<◌, List, [], ◌∷◌, ◌++◌, take, get_or, sym, ap, ◌∙◌, subst, arith}
use Rattle.std.specs.List.{All}
use Rattle.std.proofs.lemmas.List.{take_more, take_all}
use Rattle.digit_tuple.specs.Deterministic.{Automaton, State, IsTable, no_state}
use Rattle.digit_tuple.specs.Letters.{product}
use Rattle.digit_tuple.specs.declared.transitions.Transition.{Transition}
use Rattle.digit_tuple.proofs.dfa.Dfa.of_dense.Goals as goal

pub add_state-requires-clause-in_range : goal.add_state-requires-clause-in_range
add_state-requires-clause-in_range c =
    subst (λ n. All (λ (transition : Transition). transition.letter < n) c.transitions.result.now) (sym (ap (λ (d : Automaton). product d.sizes) c.loop-state.invariant))
    (λ k z within. (c.transitions.ensures.row.in_range k z within).0)

pub add_state-requires-clause-ascending : goal.add_state-requires-clause-ascending
add_state-requires-clause-ascending c = c.transitions.ensures.row.ascending

pub loop-state-preserved : goal.loop-state-preserved
loop-state-preserved c =
    let d = c.args.dense.now in
    let q = c.loop-state.state in
    let of = λ (states : List State). let a : Automaton = record { sizes = d.sizes; states = states } in a in
    let made : State = record { accepting = c.accepting.result; transitions = c.transitions.result.now } in
    let same : made ≡ get_or d.states q no_state =
    ap (λ b. let s : State = record { accepting = b; transitions = c.transitions.result.now } in s) c.accepting.ensures
    ∙ ap (λ es. let s : State = record { accepting = (get_or d.states q no_state).accepting; transitions = es } in s) c.transitions.ensures.transitions in
    c.in_ok-add_state.ensures ∙ ap (λ (a : Automaton). let b : Automaton = record { sizes = a.sizes; states = a.states ++ made ∷ [] } in b) c.loop-state.invariant
    ∙ ap of (ap (λ (s : State). take q d.states ++ s ∷ []) same ∙ sym (take_more d.states q no_state (omega (arith, c.loop-state-test.true, c.states-state-end.ensures))))

pub finish-requires : goal.finish-requires
finish-requires c =
    let d = c.args.dense.now in
    let all : take c.loop-state.state d.states ≡ d.states = take_all c.loop-state.state d.states (omega (arith, c.loop-state-test.false, c.states-state-end.ensures)) in
    subst (λ (a : Automaton). IsTable (product a.sizes) a.states) (sym (c.loop-state.invariant ∙ ap (λ (states : List State). let a : Automaton = record { sizes = d.sizes; states = states } in a) all)) c.alphabet.ensures.table

pub returns : goal.returns
returns c =
    let d = c.args.dense.now in
    c.finish.ensures ∙ c.loop-state.invariant
    ∙ ap (λ (states : List State). let a : Automaton = record { sizes = d.sizes; states = states } in a) (take_all c.loop-state.state d.states (omega (arith, c.loop-state-test.false, c.states-state-end.ensures)))
