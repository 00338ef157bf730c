use Rattle.std.proofs.Common.{◌≡◌, ◌+◌, ◌<◌, ◌^◌, ◌++◌, List, ℕ, map, sym, ap, ◌∙◌, subst, arith}
use Rattle.std.proofs.lemmas.Result.{IfOk-weaker}
use Rattle.digit_tuple.specs.Automaton.{Branch, Branching, IsBranchTable}
use Rattle.digit_tuple.specs.Deterministic.{states_of}
use Rattle.digit_tuple.specs.Letters.{product}
use Rattle.digit_tuple.specs.Rows.{branches_in}
use Rattle.lang_ops.specs.ShiftedRows.{shifted_state}
use Rattle.lang_ops.proofs.TableRows.{IsBranchTable-concat, IsConcatTable-rows}
use Rattle.lang_ops.proofs.concat.concat_table.Goals as goal

pub from_states-requires : goal.from_states-requires
from_states-requires c =
    let a = c.args.a.now in
    let b = c.args.b.now in
    let rows = branches_in c.in_ok-rows.rows.items in
    let small : states_of a + states_of b < 2 ^ 32 = omega (arith, c.if-states-before.false, c.states-before.ensures.value, c.states.ensures.value, c.states-before.ensures.table.part.small, c.states.ensures.table.part.small) in
    let all : branches_in c.add_shifted.new.rows.items ≡ rows ++ map (shifted_state (states_of a)) b.states = c.in_ok-add_shifted.ensures.rows ∙ ap (λ k. rows ++ map (shifted_state k) b.states) c.states-before.ensures.value in
    let sizes : c.in_ok-alphabet.alphabet ≡ a.sizes = c.in_ok-alphabet.ensures ∙ c.alphabet.ensures.sizes in
    subst (λ (ss : List ℕ). IsBranchTable (product ss) (branches_in c.add_shifted.new.rows.items)) (sym sizes)
    (subst (IsBranchTable (product a.sizes)) (sym all)
    (IsBranchTable-concat a b c.alphabet.ensures.table c.in_ok-add_shifted.ensures.table c.requires.sizes c.args.link c.requires.link small rows c.in_ok-rows.ensures.rows))

pub returns : goal.returns
returns c =
    let a = c.args.a.now in
    let b = c.args.b.now in
    let rows = branches_in c.in_ok-rows.rows.items in
    let small : states_of a + states_of b < 2 ^ 32 = omega (arith, c.if-states-before.false, c.states-before.ensures.value, c.states.ensures.value, c.states-before.ensures.table.part.small, c.states.ensures.table.part.small) in
    let all : branches_in c.add_shifted.new.rows.items ≡ rows ++ map (shifted_state (states_of a)) b.states = c.in_ok-add_shifted.ensures.rows ∙ ap (λ k. rows ++ map (shifted_state k) b.states) c.states-before.ensures.value in
    let sizes : c.in_ok-alphabet.alphabet ≡ a.sizes = c.in_ok-alphabet.ensures ∙ c.alphabet.ensures.sizes in
    IfOk-weaker c.from_states.result _ _
    (λ nfa is. IsConcatTable-rows a b c.alphabet.ensures.table c.in_ok-add_shifted.ensures.table c.requires.sizes c.args.link c.requires.link small rows c.in_ok-rows.ensures.rows nfa
    (is ∙ ap (λ (ss : List ℕ). let n : Branching = record { sizes = ss; states = branches_in c.add_shifted.new.rows.items } in n) sizes
    ∙ ap (λ (bs : List Branch). let n : Branching = record { sizes = a.sizes; states = bs } in n) all))
    c.from_states.ensures
