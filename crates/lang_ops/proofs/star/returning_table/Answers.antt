use Rattle.std.proofs.Common.{◌≡◌, List, ℕ, sym, ap, ◌∙◌, subst}
use Rattle.std.proofs.lemmas.Result.{IfOk-weaker}
use Rattle.digit_tuple.specs.Automaton.{Branching, IsBranchTable}
use Rattle.digit_tuple.specs.Letters.{product}
use Rattle.digit_tuple.specs.Rows.{branches_in}
use Rattle.lang_ops.proofs.TableRows.{IsBranchTable-returning, IsStarTable-returning}
use Rattle.lang_ops.proofs.star.returning_table.Goals as goal

pub from_states-requires : goal.from_states-requires
from_states-requires c =
    let a = c.args.a.now in
    let sizes : c.in_ok-alphabet.alphabet ≡ a.sizes = c.in_ok-alphabet.ensures ∙ c.alphabet.ensures.sizes in
    subst (λ (ss : List ℕ). IsBranchTable (product ss) (branches_in c.in_ok-rows.rows.items)) (sym sizes)
    (IsBranchTable-returning a c.alphabet.ensures.table (branches_in c.in_ok-rows.rows.items) c.in_ok-rows.ensures.rows)

pub returns : goal.returns
returns c =
    let a = c.args.a.now in
    let sizes : c.in_ok-alphabet.alphabet ≡ a.sizes = c.in_ok-alphabet.ensures ∙ c.alphabet.ensures.sizes in
    IfOk-weaker c.from_states.result _ _
    (λ nfa is. IsStarTable-returning a c.alphabet.ensures.table (branches_in c.in_ok-rows.rows.items) c.in_ok-rows.ensures.rows nfa
    (is ∙ ap (λ (ss : List ℕ). let b : Branching = record { sizes = ss; states = branches_in c.in_ok-rows.rows.items } in b) sizes))
    c.from_states.ensures
