use Rattle.std.proofs.Common.{◌≡◌, ◌++◌, ◌∷◌, [], List, Option, ℕ, not, ◌&&◌, eqb, get_or, sym, ap, ◌∙◌, subst}
use Rattle.std.specs.List.{list_any}
use Rattle.std.proofs.lemmas.List.{map-append}
use Rattle.dfa_reading.specs.Conflicts.{share_tuple}
use Rattle.dfa_reading.specs.StarTables.{StarTable, masked, targets_at, differs_from, no_table}
use Rattle.dfa_reading.specs.declared.transitions.Transition.{Transition as TransitionRead}
use Rattle.dfa_reading.specs.Transitions.{Transition, transition_view, transitions_in, AreIndexed}
use Rattle.dfa_reading.proofs.TransitionLemmas.{leads_elsewhere_is, AreIndexed-added}
use Rattle.dfa_reading.proofs.transitions.Transitions.add.Goals as goal

pub returns-then-branch-clause-agrees : goal.returns-then-branch-clause-agrees
returns-then-branch-clause-agrees c =
    let digits = c.args.digits.now in
    let target = c.args.target in
    let own = c.in_ok-own.own in
    let new = c.own_table.new.self in
    let elsewhere_is = c.in_ok-leads_elsewhere.ensures
    ∙ ap (λ (ts : List StarTable). list_any (λ (table : StarTable). differs_from (targets_at (get_or ts own no_table).entries (masked digits table.pattern)) target) ts) c.deref.ensures.value
    ∙ leads_elsewhere_is (transitions_in new.list.items) new.tables.items digits target own c.in_ok-own.ensures.indexed c.in_ok-own.ensures.own
    ∙ ap (λ (l : List TransitionRead). list_any (λ t. share_tuple digits t.0 && not (eqb t.1 target)) (transitions_in l)) c.in_ok-own.ensures.list in
    ap not (sym c.if-branch.true ∙ elsewhere_is)

pub returns-clause-agrees : goal.returns-clause-agrees
returns-clause-agrees c =
    let digits = c.args.digits.now in
    let target = c.args.target in
    let own = c.in_ok-own.own in
    let new = c.own_table.new.self in
    let elsewhere_is = c.in_ok-leads_elsewhere.ensures
    ∙ ap (λ (ts : List StarTable). list_any (λ (table : StarTable). differs_from (targets_at (get_or ts own no_table).entries (masked digits table.pattern)) target) ts) c.deref.ensures.value
    ∙ leads_elsewhere_is (transitions_in new.list.items) new.tables.items digits target own c.in_ok-own.ensures.indexed c.in_ok-own.ensures.own
    ∙ ap (λ (l : List TransitionRead). list_any (λ t. share_tuple digits t.0 && not (eqb t.1 target)) (transitions_in l)) c.in_ok-own.ensures.list in
    ap not (sym c.if-branch.false ∙ elsewhere_is)

pub returns-clause-indexed : goal.returns-clause-indexed
returns-clause-indexed c added =
    let digits = c.args.digits.now in
    let target = c.args.target in
    let new = c.own_table.new.self in
    let list : transitions_in c.push.new.self.items ≡ transitions_in new.list.items ++ (digits, target) ∷ [] =
    ap transitions_in c.in_ok-push.ensures.items ∙ map-append transition_view new.list.items (record { digits = c.in_ok-from_slice.field-0; target = target } ∷ [])
    ∙ ap (λ (ds : List (Option ℕ)). transitions_in new.list.items ++ (ds, target) ∷ []) c.in_ok-from_slice.ensures.items in
    subst (λ (l : List Transition). AreIndexed l c.add_to_tables.new.tables.items) (sym list)
    (subst (AreIndexed (transitions_in new.list.items ++ (digits, target) ∷ [])) (sym c.in_ok-add_to_tables.ensures)
    (AreIndexed-added (transitions_in new.list.items) new.tables.items digits target c.in_ok-own.own c.in_ok-own.ensures.indexed c.in_ok-own.ensures.own))
