use Rattle.std.proofs.Common.{◌≡◌, ℕ, List, sym, ap, ◌∙◌, subst}
use Rattle.digit_tuple.specs.Deterministic.{State, IsTable}
use Rattle.digit_tuple.specs.Letters.{product}
use Rattle.digit_tuple.specs.Rows.{branches_in}
use Rattle.dfa_reading.specs.Headers.{Header}
use Rattle.dfa_reading.specs.Branching.{sizes_in}
use Rattle.dfa_reading.specs.ListedTable.{IsTableOf}
use Rattle.dfa_reading.specs.WordFiles.{IsFunctional}
use Rattle.dfa_reading.proofs.Rows.{digits-sizes}
use Rattle.dfa_reading.proofs.TableRows.{IsTableOf-rows, IsTable-rows}
use Rattle.dfa_reading.proofs.listed.Listed.table.Goals as goal

pub from_states-requires : goal.from_states-requires
from_states-requires c =
    let sizes : c.in_ok-alphabet.alphabet ≡ sizes_in c.args.self.now.header c.args.digits.now = c.in_ok-alphabet.ensures.value ∙ ap (λ (h : Header). sizes_in h c.args.digits.now) c.header.ensures in
    let functional : IsFunctional c.in_ok-alphabet.alphabet c.args.self.now = subst (λ (ss : List ℕ). IsFunctional ss c.args.self.now) (sym sizes) c.requires.functional in
    subst (λ (ss : List State). IsTable (product c.in_ok-alphabet.alphabet) ss) (sym c.in_ok-states.ensures)
    (IsTable-rows c.in_ok-alphabet.alphabet c.args.self.now (branches_in c.in_ok-rows.rows.items) c.in_ok-rows.ensures functional c.requires.states)

pub returns-clause-table_of : goal.returns-clause-table_of
returns-clause-table_of c =
    let sizes : c.in_ok-alphabet.alphabet ≡ sizes_in c.args.self.now.header c.args.digits.now = c.in_ok-alphabet.ensures.value ∙ ap (λ (h : Header). sizes_in h c.args.digits.now) c.header.ensures in
    let functional : IsFunctional c.in_ok-alphabet.alphabet c.args.self.now = subst (λ (ss : List ℕ). IsFunctional ss c.args.self.now) (sym sizes) c.requires.functional in
    subst (λ (ss : List ℕ). IsTableOf ss c.args.self.now c.in_ok-from_states.field-0) sizes
    (subst (IsTableOf c.in_ok-alphabet.alphabet c.args.self.now) (sym (c.in_ok-from_states.ensures ∙ ap (λ (ss : List State). record { sizes = c.in_ok-alphabet.alphabet; states = ss }) c.in_ok-states.ensures))
    (IsTableOf-rows c.in_ok-alphabet.alphabet c.args.self.now (branches_in c.in_ok-rows.rows.items) c.in_ok-rows.ensures functional))

pub rows-requires : goal.rows-requires
rows-requires c = digits-sizes c.args.self.now.header c.args.digits.now c.in_ok-alphabet.alphabet c.requires.given (c.in_ok-alphabet.ensures.value ∙ ap (λ (h : Header). sizes_in h c.args.digits.now) c.header.ensures)
