use Rattle.std.proofs.Common.{◌≡◌, ◌+◌, ◌<◌, ◌^◌, ◌++◌, ◌∷◌, [], true, List, ℕ, refl, sym, ap, ◌∙◌, subst, arith}
use Rattle.std.proofs.lemmas.List.{map-append}
use Rattle.std.proofs.lemmas.Result.{IfOk-weaker}
use Rattle.digit_tuple.specs.Automaton.{Branch, Branching, IsBranchTable}
use Rattle.digit_tuple.specs.Deterministic.{states_of}
use Rattle.digit_tuple.specs.Letters.{product}
use Rattle.digit_tuple.specs.Rows.{branch_in, branches_in}
use Rattle.lang_ops.specs.StarTables.{IsStarStart}
use Rattle.lang_ops.proofs.TableRows.{IsBranchTable-started, IsStarTable-started}
use Rattle.lang_ops.proofs.star.started_table.Goals as goal

pub from_states-requires : goal.from_states-requires
from_states-requires c =
    let a = c.args.a.now in
    let rows = branches_in c.in_ok-rows.rows.items in
    let row : Branch = record { accepting = true; transitions = c.in_ok-linked_transitions.field-0.items } in
    let start : IsStarStart a row = record { accepting = refl; transitions = c.in_ok-linked_transitions.ensures } in
    let small : states_of a + 1 < 2 ^ 32 = omega (arith, c.if-states-eq4294967295.false, c.states.ensures.value, c.states.ensures.table.part.small) in
    let pushed : branches_in c.push.new.self.items ≡ rows ++ row ∷ [] = ap branches_in c.in_ok-push.ensures.items ∙ map-append branch_in c.in_ok-rows.rows.items _ in
    let sizes : c.in_ok-alphabet.alphabet ≡ a.sizes = c.in_ok-alphabet.ensures ∙ c.alphabet.ensures.sizes in
    subst (λ (ss : List ℕ). IsBranchTable (product ss) (branches_in c.push.new.self.items)) (sym sizes)
    (subst (IsBranchTable (product a.sizes)) (sym pushed)
    (IsBranchTable-started a c.alphabet.ensures.table rows c.in_ok-rows.ensures.rows row start small))

pub returns : goal.returns
returns c =
    let a = c.args.a.now in
    let rows = branches_in c.in_ok-rows.rows.items in
    let row : Branch = record { accepting = true; transitions = c.in_ok-linked_transitions.field-0.items } in
    let start : IsStarStart a row = record { accepting = refl; transitions = c.in_ok-linked_transitions.ensures } in
    let small : states_of a + 1 < 2 ^ 32 = omega (arith, c.if-states-eq4294967295.false, c.states.ensures.value, c.states.ensures.table.part.small) in
    let pushed : branches_in c.push.new.self.items ≡ rows ++ row ∷ [] = ap branches_in c.in_ok-push.ensures.items ∙ map-append branch_in c.in_ok-rows.rows.items _ in
    let sizes : c.in_ok-alphabet.alphabet ≡ a.sizes = c.in_ok-alphabet.ensures ∙ c.alphabet.ensures.sizes in
    IfOk-weaker c.from_states.result _ _
    (λ nfa is. (
      row,
      IsStarTable-started a c.alphabet.ensures.table rows c.in_ok-rows.ensures.rows row start small nfa
          (is ∙ ap (λ (ss : List ℕ). let b : Branching = record { sizes = ss; states = branches_in c.push.new.self.items } in b) sizes
          ∙ ap (λ (bs : List Branch). let b : Branching = record { sizes = a.sizes; states = bs } in b) pushed),
      start,
    ))
    c.from_states.ensures
