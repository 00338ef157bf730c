use Rattle.std.proofs.Common.{List, sym, ap, ◌∙◌, subst}
use Rattle.std.specs.List.{position}
use Rattle.dfa_reading.specs.StarTables.{StarTable, same_stars}
use Rattle.dfa_reading.specs.declared.transitions.Transition.{Transition as TransitionRead}
use Rattle.dfa_reading.specs.Transitions.{transitions_in, IsTableOf, AreIndexed, IsOwnTable}
use Rattle.dfa_reading.proofs.TransitionLemmas.{AreIndexed-more, IsOwnTable-found, IsOwnTable-last}
use Rattle.dfa_reading.proofs.transitions.Transitions.own_table.Goals as goal

pub returns-in-Some-clause-own : goal.returns-in-Some-clause-own
returns-in-Some-clause-own c =
    IsOwnTable-found c.args.digits.now c.args.self.now.tables.items c.in-Some.place
    (sym (ap (position (λ (table : StarTable). same_stars c.args.digits.now table.pattern)) c.deref.ensures.value) ∙ sym c.place_of.ensures ∙ c.in-Some.is)

pub returns-clause-indexed : goal.returns-clause-indexed
returns-clause-indexed c =
    let table = subst (λ (l : List TransitionRead). IsTableOf (transitions_in l) c.in_ok-table.table) c.deref-2.ensures.value c.in_ok-table.ensures.table in
    subst (AreIndexed (transitions_in c.args.self.now.list.items)) (sym c.in_ok-push.ensures.items)
    (AreIndexed-more (transitions_in c.args.self.now.list.items) c.args.self.now.tables.items c.in_ok-table.table c.requires table)

pub returns-clause-own : goal.returns-clause-own
returns-clause-own c =
    subst (λ (ts : List StarTable). IsOwnTable c.args.digits.now ts c.len-place.result) (sym c.in_ok-push.ensures.items)
    (IsOwnTable-last c.args.digits.now c.args.self.now.tables.items c.in_ok-table.table c.len-place.result (c.len-place.ensures ∙ c.args.self.now.tables.ok.0) c.in_ok-table.ensures.pattern)
