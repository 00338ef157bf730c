use Rattle.std.proofs.Common.{◌≡◌, ap, sym, refl, subst, ◌∙◌, ℕ, map, length, take, drop, OnOk, arith}
use Rattle.std.proofs.lemmas.List.{take_all, append-nil, length-map}
use Rattle.std.specs.Option.{option_or}
use Rattle.formula_parse.specs.Trees as trees
use Rattle.formula_parse.specs.Views.{formula_view, operands_view, names_view, quantifier_view, connective_view}
use Rattle.formula_parse.proofs.ViewSteps.{view_atom, view_negated, view_chain, view_quantified, view_marked}
use Rattle.formula_resolve.specs.Occurrences.{Binders, bound_by, free_of}
use Rattle.formula_resolve.specs.Headers.{Named}
use Rattle.formula_resolve.specs.Scopes.{binders_of}
use Rattle.formula_resolve.specs.Meetings.{IsMet}
use Rattle.formula_resolve.specs.Walks.{Walked, WalkedAmong}
use Rattle.formula_resolve.specs.declared.walk.Walk.{Walk}
use Rattle.formula_resolve.proofs.ListLemmas.{longer}
use Rattle.formula_resolve.proofs.MeetingLemmas.{option_or_none}
use Rattle.formula_resolve.proofs.WalkLemmas.{on_ok, walked_more, walked_chain, walked_quantified, operand_more}
use Rattle.formula_resolve.proofs.ScopeLemmas.{restored}
use Rattle.formula_resolve.proofs.walk.+walk_formula.Goals as goal

-- the walk after a quantifier, with this scope
abbrev left : Named ℕ → Walk → Walk
left scope w = record { scope = scope; next = w.next; occurrences = w.occurrences; conflict = w.conflict }

pub loop-operand-preserved : goal.loop-operand-preserved
loop-operand-preserved t c =
    subst (λ os. WalkedAmong c.args.headers.now os c.args.walk.now c.walk_formula-in-loop-operand.new.walk c.in_ok-meeting-in-Chain.meeting)
    (sym (operand_more c.deref-operand-items.result.now c.loop-operand.operand-index c.operand-item.result (omega (arith, c.loop-operand-test.true)) c.operand-item.is))
    (walked_more c.args.headers.now (operands_view (take c.loop-operand.operand-index c.deref-operand-items.result.now)) (formula_view c.operand-item.result.formula) (connective_view c.operand-item.result.connective)
    c.args.walk.now c.loop-operand.walk c.walk_formula-in-loop-operand.new.walk c.loop-operand.meeting c.in_ok-meeting-in-Chain.meeting
    c.loop-operand.invariant c.in_ok-walk_formula-in-Chain.ensures
    (subst (λ p. IsMet c.loop-operand.meeting p c.in_ok-meeting-in-Chain.meeting)
    (λ i. free_of (c.start-start.ensures.next i) (drop (c.start-start.ensures.len i) c.walk_formula-in-loop-operand.new.walk.occurrences.items))
    c.in_ok-meeting-in-Chain.ensures))

pub returns-in-Atom : goal.returns-in-Atom
returns-in-Atom t c =
    subst (λ (s : trees.Formula). OnOk c.walk_atom.result (Walked c.args.headers.now s c.args.walk.now c.walk_atom.new.walk))
    (sym (ap formula_view c.in-Atom.is ∙ view_atom c.in-Atom.atom)) c.walk_atom.ensures

pub returns-in-Negated : goal.returns-in-Negated
returns-in-Negated t c =
    subst (λ (s : trees.Formula). OnOk c.walk_formula.result (Walked c.args.headers.now s c.args.walk.now c.walk_formula.new.walk))
    (sym (ap formula_view c.in-Negated.is ∙ view_negated c.in-Negated.inside ∙ ap (λ f. trees.negated (formula_view f)) (sym c.deref.ensures)))
    (on_ok c.walk_formula.result
    (Walked c.args.headers.now (formula_view c.deref.result.now) c.args.walk.now c.walk_formula.new.walk)
    (Walked c.args.headers.now (trees.negated (formula_view c.deref.result.now)) c.args.walk.now c.walk_formula.new.walk)
    (λ w. record { scope = w.scope; found = w.found; next = w.next; conflict = w.conflict }) c.walk_formula.ensures)

pub returns-in_ok-whole-in-Chain : goal.returns-in_ok-whole-in-Chain
returns-in_ok-whole-in-Chain t c =
    subst (λ (s : trees.Formula). Walked c.args.headers.now s c.args.walk.now c.keep.new.self)
    (sym (ap formula_view c.in-Chain.is ∙ view_chain c.in-Chain.operands c.in-Chain.last ∙ ap (λ f. trees.chain (operands_view c.in-Chain.operands.items) (formula_view f)) (sym c.deref-in-Chain.ensures)))
    (walked_chain c.args.headers.now (operands_view c.in-Chain.operands.items) (formula_view c.deref-in-Chain.result.now) c.args.walk.now c.walk_formula-in-Chain.new.walk c.keep.new.self c.in_ok-whole-in-Chain.whole
    (walked_more c.args.headers.now (operands_view c.in-Chain.operands.items) (formula_view c.deref-in-Chain.result.now) trees.and
    c.args.walk.now c.loop-operand.walk c.walk_formula-in-Chain.new.walk c.loop-operand.meeting c.in_ok-whole-in-Chain.whole
    (subst (λ os. WalkedAmong c.args.headers.now (operands_view os) c.args.walk.now c.loop-operand.walk c.loop-operand.meeting)
    (take_all c.loop-operand.operand-index c.deref-operand-items.result.now c.loop-operand-test.false ∙ c.deref-operand-items.ensures.value) c.loop-operand.invariant)
    c.in_ok-walk_formula-in-Chain-2.ensures
    (subst (λ p. IsMet c.loop-operand.meeting p c.in_ok-whole-in-Chain.whole)
    (λ i. free_of (c.start-start-in-Chain.ensures.next i) (drop (c.start-start-in-Chain.ensures.len i) c.walk_formula-in-Chain.new.walk.occurrences.items))
    c.in_ok-whole-in-Chain.ensures))
    c.keep.ensures.scope c.keep.ensures.next c.keep.ensures.occurrences
    (c.keep.ensures.conflict ∙ ap (λ s. option_or c.walk_formula-in-Chain.new.walk.conflict s) c.conflict.ensures))

pub returns-in_ok-walk_formula-in-Quantified : goal.returns-in_ok-walk_formula-in-Quantified
returns-in_ok-walk_formula-in-Quantified t c =
    subst (λ (s : trees.Formula). OnOk c.restore.result (Walked c.args.headers.now s c.args.walk.now (left c.restore.new.self c.walk_formula-in-Quantified.new.walk)))
    (sym (ap formula_view c.in-Quantified.is ∙ view_quantified c.in-Quantified.field-0 c.in-Quantified.names c.in-Quantified.inside
    ∙ ap (λ f. trees.quantified (quantifier_view c.in-Quantified.field-0) (names_view c.in-Quantified.names.items) (formula_view f)) (sym c.deref-in-Quantified-2.ensures)))
    (on_ok c.restore.result
    ((b : Binders) → c.deref-in-Quantified-4.result.now ≡ map b c.deref-in-Quantified-3.result.now → binders_of c.restore.new.self ≡ restored (names_view c.deref-in-Quantified-3.result.now) b (binders_of c.walk_formula-in-Quantified.new.walk.scope))
    (Walked c.args.headers.now (trees.quantified (quantifier_view c.in-Quantified.field-0) (names_view c.in-Quantified.names.items) (formula_view c.deref-in-Quantified-2.result.now)) c.args.walk.now (left c.restore.new.self c.walk_formula-in-Quantified.new.walk))
    (λ known. walked_quantified c.args.headers.now (quantifier_view c.in-Quantified.field-0) (names_view c.in-Quantified.names.items) (formula_view c.deref-in-Quantified-2.result.now)
    c.args.walk.now c.enter.new.self c.walk_formula-in-Quantified.new.walk (left c.restore.new.self c.walk_formula-in-Quantified.new.walk)
    (c.in_ok-outside-in-Quantified.ensures.scope ∙ ap (λ ns. bound_by c.args.walk.now.next (names_view ns) (binders_of c.args.walk.now.scope)) c.deref-in-Quantified.ensures.value)
    c.in_ok-outside-in-Quantified.ensures.next c.in_ok-outside-in-Quantified.ensures.occurrences c.in_ok-outside-in-Quantified.ensures.conflict
    c.in_ok-walk_formula-in-Quantified.ensures
    (known (binders_of c.args.walk.now.scope)
    (c.deref-in-Quantified-4.ensures.value ∙ c.in_ok-outside-in-Quantified.ensures.outside
    ∙ ap (λ ns. map (binders_of c.args.walk.now.scope) ns) (c.deref-in-Quantified.ensures.value ∙ sym c.deref-in-Quantified-3.ensures.value))
    ∙ ap (λ ns. restored (names_view ns) (binders_of c.args.walk.now.scope) (binders_of c.walk_formula-in-Quantified.new.walk.scope)) c.deref-in-Quantified-3.ensures.value)
    refl refl refl)
    c.restore.ensures)

pub returns-in-Marked : goal.returns-in-Marked
returns-in-Marked t c =
    subst (λ (s : trees.Formula). OnOk c.walk_formula-in-Marked.result (Walked c.args.headers.now s c.args.walk.now c.walk_formula-in-Marked.new.walk))
    (sym (ap formula_view c.in-Marked.is ∙ view_marked c.in-Marked.field-0 c.in-Marked.inside ∙ ap (λ f. trees.marked (names_view c.in-Marked.field-0.items) (formula_view f)) (sym c.deref-in-Marked.ensures)))
    (on_ok c.walk_formula-in-Marked.result
    (Walked c.args.headers.now (formula_view c.deref-in-Marked.result.now) c.args.walk.now c.walk_formula-in-Marked.new.walk)
    (Walked c.args.headers.now (trees.marked (names_view c.in-Marked.field-0.items) (formula_view c.deref-in-Marked.result.now)) c.args.walk.now c.walk_formula-in-Marked.new.walk)
    (λ w. record { scope = w.scope; found = w.found; next = w.next; conflict = w.conflict }) c.walk_formula-in-Marked.ensures)

pub loop-operand-init : goal.loop-operand-init
loop-operand-init t c = record {
  scope = refl;
  found = sym (append-nil c.args.walk.now.occurrences.items);
  next = refl;
  conflict = sym (option_or_none c.args.walk.now.conflict);
  met = record { first = c.new-meeting.ensures.first; other = c.new-meeting.ensures.other };
}

pub met-requires : goal.met-requires
met-requires t c =
    omega (arith, c.start-start.ensures.len, longer c.walk_formula-in-loop-operand.new.walk.occurrences.items c.loop-operand.walk.occurrences.items _ c.in_ok-walk_formula-in-Chain.ensures.found)

pub met-requires-in-Chain : goal.met-requires-in-Chain
met-requires-in-Chain t c =
    omega (arith, c.start-start-in-Chain.ensures.len, longer c.walk_formula-in-Chain.new.walk.occurrences.items c.loop-operand.walk.occurrences.items _ c.in_ok-walk_formula-in-Chain-2.ensures.found)

pub restore-requires : goal.restore-requires
restore-requires t c =
    ap length (c.deref-in-Quantified-4.ensures.value ∙ c.in_ok-outside-in-Quantified.ensures.outside) ∙ length-map c.deref-in-Quantified.result.now (binders_of c.args.walk.now.scope)
    ∙ ap length (c.deref-in-Quantified.ensures.value ∙ sym c.deref-in-Quantified-3.ensures.value)
