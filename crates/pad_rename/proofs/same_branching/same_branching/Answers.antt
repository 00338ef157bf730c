use Rattle.std.proofs.Common.{◌≡◌, ℕ, List, map, sym, ap, ◌∙◌, subst, arith}
use Rattle.std.proofs.lemmas.Result.{IfOk-weaker}
use Rattle.digit_tuple.specs.Automaton.{Branch, Branching, IsBranchTable}
use Rattle.digit_tuple.specs.Deterministic.{states_of, letters_of}
use Rattle.digit_tuple.specs.Letters.{product}
use Rattle.digit_tuple.specs.Rows.{branches_in}
use Rattle.pad_rename.specs.SameBranching.{branch_as}
use Rattle.pad_rename.proofs.SameBranches.{rows_to, rows_more, rows_all}
use Rattle.pad_rename.proofs.SinkLeads.{IsBranchTable-as}
use Rattle.pad_rename.proofs.same_branching.same_branching.Goals as goal

pub loop-state-preserved : goal.loop-state-preserved
loop-state-preserved c =
    ap branches_in c.in_ok-push.ensures.items
    ∙ rows_more c.args.d.now c.loop-state.rows.items c.loop-state.state (record { accepting = c.accepting.result; transitions = c.transitions_into.new.row }) c.accepting.ensures.accepting c.in_ok-transitions_into.ensures.transitions c.loop-state.invariant

pub from_states-requires : goal.from_states-requires
from_states-requires c =
    let d = c.args.d.now in
    let count : c.loop-state.state ≡ states_of d = omega (arith, c.loop-state-test.false, c.states-states.ensures.value) in
    let rows : branches_in c.loop-state.rows.items ≡ map branch_as d.states = c.loop-state.invariant ∙ ap (rows_to d) count ∙ rows_all d in
    let letters : product c.in_ok-alphabet.alphabet ≡ letters_of d = ap product (c.in_ok-alphabet.ensures ∙ c.alphabet.ensures.sizes) in
    subst (λ (bs : List Branch). IsBranchTable (product c.in_ok-alphabet.alphabet) bs) (sym rows) (subst (λ n. IsBranchTable n (map branch_as d.states)) (sym letters) (IsBranchTable-as d c.alphabet.ensures.table))

pub returns : goal.returns
returns c =
    let d = c.args.d.now in
    let count : c.loop-state.state ≡ states_of d = omega (arith, c.loop-state-test.false, c.states-states.ensures.value) in
    let rows : branches_in c.loop-state.rows.items ≡ map branch_as d.states = c.loop-state.invariant ∙ ap (rows_to d) count ∙ rows_all d in
    IfOk-weaker c.from_states.result _ _
    (λ nfa is. is ∙ ap (λ (ns : List ℕ). let b : Branching = record { sizes = ns; states = branches_in c.loop-state.rows.items } in b) (c.in_ok-alphabet.ensures ∙ c.alphabet.ensures.sizes)
    ∙ ap (λ (bs : List Branch). let b : Branching = record { sizes = d.sizes; states = bs } in b) rows)
    c.from_states.ensures
