use Rattle.std.proofs.Common.{◌≡◌, ◌+◌, ◌++◌, [], ◌∷◌, ℕ, List, false, get_or, refl, sym, ap, ◌∙◌, subst, arith}
use Rattle.std.proofs.lemmas.List.{map-append}
use Rattle.std.proofs.lemmas.Result.{IfOk-weaker}
use Rattle.digit_tuple.specs.Automaton as branching
use Rattle.digit_tuple.specs.Automaton.{Branch, Branching, IsBranchTable}
use Rattle.digit_tuple.specs.Deterministic.{states_of}
use Rattle.digit_tuple.specs.Letters.{product}
use Rattle.digit_tuple.specs.Rows.{branch_in, branches_in}
use Rattle.digit_tuple.specs.declared.transitions.Transition.{Transition}
use Rattle.project_close.specs.Image.{AreRelabelled, IsImage}
use Rattle.project_close.proofs.ImageLemmas.{AreImageRows, AreImageRows-push, IsBranchTable-image, IsImage-rows}
use Rattle.project_close.proofs.image.image.Goals as goal

pub loop-state-preserved : goal.loop-state-preserved
loop-state-preserved c =
    let d = c.args.d.now in
    let flags = c.args.accepting.now in
    let parts = c.args.parts.now in
    let rows = branches_in c.loop-state.rows.items in
    let state = c.loop-state.state in
    let row : Branch = record { accepting = get_or flags state false; transitions = c.in_ok-relabelled.field-0.items } in
    let pushed : branches_in c.push.new.self.items ≡ rows ++ row ∷ [] = ap branches_in c.in_ok-push.ensures.items ∙ map-append branch_in c.loop-state.rows.items _ in
    subst (λ (bs : List Branch). AreImageRows d flags parts bs (state + 1)) (sym pushed)
    (AreImageRows-push d flags parts rows state row c.loop-state.invariant refl
    (subst (λ (es : List Transition). AreRelabelled parts es c.in_ok-relabelled.field-0.items) (c.deref.ensures.value ∙ c.in_ok-transitions_into.ensures.transitions) c.in_ok-relabelled.ensures))

pub from_states-requires : goal.from_states-requires
from_states-requires c =
    let d = c.args.d.now in
    let rows = branches_in c.loop-state.rows.items in
    let all : c.loop-state.state ≡ states_of d = omega (arith, c.loop-state-test.false, c.states-states.ensures.value) in
    subst (λ (ss : List ℕ). IsBranchTable (product ss) rows) (sym c.in_ok-copy.ensures)
    (IsBranchTable-image d c.states-states.ensures.table c.args.accepting.now c.args.parts.now c.args.alphabet.now rows
    (subst (AreImageRows d c.args.accepting.now c.args.parts.now rows) all c.loop-state.invariant)
    c.requires.parts c.requires.letters)

pub returns-clause-image : goal.returns-clause-image
returns-clause-image c =
    let d = c.args.d.now in
    let rows = branches_in c.loop-state.rows.items in
    let all : c.loop-state.state ≡ states_of d = omega (arith, c.loop-state-test.false, c.states-states.ensures.value) in
    IfOk-weaker c.from_states.result _ (IsImage d c.args.accepting.now c.args.parts.now c.args.alphabet.now)
    (λ nfa is. IsImage-rows d c.states-states.ensures.table c.args.accepting.now c.args.parts.now c.args.alphabet.now rows
    (subst (AreImageRows d c.args.accepting.now c.args.parts.now rows) all c.loop-state.invariant)
    nfa (is ∙ ap (λ (ss : List ℕ). record { sizes = ss; states = rows }) c.in_ok-copy.ensures) c.requires.accepting)
    c.from_states.ensures

pub returns-clause-table : goal.returns-clause-table
returns-clause-table c =
    let d = c.args.d.now in
    let rows = branches_in c.loop-state.rows.items in
    let all : c.loop-state.state ≡ states_of d = omega (arith, c.loop-state-test.false, c.states-states.ensures.value) in
    let table = IsBranchTable-image d c.states-states.ensures.table c.args.accepting.now c.args.parts.now c.args.alphabet.now rows
    (subst (AreImageRows d c.args.accepting.now c.args.parts.now rows) all c.loop-state.invariant)
    c.requires.parts c.requires.letters in
    IfOk-weaker c.from_states.result _ (λ nfa. IsBranchTable (branching.letters_of nfa) nfa.states)
    (λ nfa is. subst (λ (m : Branching). IsBranchTable (branching.letters_of m) m.states) (sym (is ∙ ap (λ (ss : List ℕ). record { sizes = ss; states = rows }) c.in_ok-copy.ensures)) table)
    c.from_states.ensures
