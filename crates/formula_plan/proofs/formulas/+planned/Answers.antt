use Rattle.std.proofs.Common.{arith, take, ◌++◌, append-nil, ap, sym, ◌∙◌}
use Rattle.formula_parse.specs.Trees as trees
use Rattle.formula_parse.specs.Views.{formula_view, operands_view, names_view, quantifier_view, atom_view}
use Rattle.formula_parse.proofs.ViewSteps.{view_atom, view_negated, view_chain, view_quantified, view_marked}
use Rattle.formula_plan.specs.FormulaPlans.{plan_of, operand_plans}
use Rattle.formula_plan.specs.OwnNames.{own_of, has_name}
use Rattle.formula_plan.specs.FactPlanning.{headers_of}
use Rattle.formula_plan.proofs.FormulasMade.{operands_none, operands_then, chain_does, chain_within, quantified_does, formula_agrees, formula_seen, negated_does, names_seen, names_more, names_chained, names_quantified}
use Rattle.formula_plan.proofs.formulas.+planned.Goals as goal

pub loop-operand-preserved : goal.loop-operand-preserved
loop-operand-preserved t c = record {
  made =
      operands_then (headers_of c.args.headers.now) c.deref-operand-items.result.now c.loop-operand.operand-index c.operand-item.result c.args.planner.now c.loop-operand.planner c.planned-in-loop-operand.new.planner
      c.loop-operand.made.items c.push.new.self.items c.in_ok-place-in-Chain.place (omega (arith, c.loop-operand-test.true)) c.operand-item.is c.loop-operand.invariant.made c.in_ok-place-in-Chain.ensures.plan c.in_ok-push-in-Chain.ensures.items;
  names =
      names_more c.deref-operand-items.result.now c.loop-operand.operand-index c.operand-item.result c.args.free.now c.loop-operand.free c.planned-in-loop-operand.new.free
      (omega (arith, c.loop-operand-test.true)) c.operand-item.is c.loop-operand.invariant.names c.in_ok-place-in-Chain.ensures.names;
}

pub chained-requires-clause-operands : goal.chained-requires-clause-operands
chained-requires-clause-operands t c =
    chain_within (headers_of c.args.headers.now) c.args.planner.now c.loop-operand.planner c.planned-in-Chain.new.planner c.loop-operand.made.items c.deref-in-Chain-2.result.now c.in_ok-end-in-Chain.end
    (operand_plans (headers_of c.args.headers.now) (operands_view (take c.loop-operand.operand-index c.deref-operand-items.result.now)) c.args.planner.now.next)
    (plan_of (headers_of c.args.headers.now) (formula_view c.deref-in-Chain.result.now) c.loop-operand.planner.next)
    c.deref-in-Chain-2.ensures.value c.loop-operand.invariant.made c.in_ok-end-in-Chain.ensures.plan

pub quantified-requires-clause-free : goal.quantified-requires-clause-free
quantified-requires-clause-free t c =
    formula_agrees (headers_of c.args.headers.now) (formula_view c.deref-in-Quantified.result.now) c.args.planner.now c.planned-in-Quantified.new.planner c.in_ok-place-in-Quantified.place c.planned-in-Quantified.new.free
    c.in_ok-place-in-Quantified.ensures.plan (λ n. c.in_ok-place-in-Quantified.ensures.names n ∙ ap (λ l. has_name (l ++ own_of (formula_view c.deref-in-Quantified.result.now)) n) c.new-inner.ensures)

pub returns-in_ok-said-in-Atom-clause-plan : goal.returns-in_ok-said-in-Atom-clause-plan
returns-in_ok-said-in-Atom-clause-plan t c =
    formula_seen (headers_of c.args.headers.now) (formula_view c.args.formula.now) (trees.atom (atom_view c.in-Atom.atom)) c.args.planner.now c.stated.new.planner c.in_ok-said-in-Atom.said
    (ap formula_view c.in-Atom.is ∙ view_atom c.in-Atom.atom) c.in_ok-said-in-Atom.ensures

pub returns-in_ok-said-in-Atom-clause-names : goal.returns-in_ok-said-in-Atom-clause-names
returns-in_ok-said-in-Atom-clause-names t c =
    names_seen (formula_view c.args.formula.now) (trees.atom (atom_view c.in-Atom.atom)) c.args.free.now c.add_fact.new.free
    (ap formula_view c.in-Atom.is ∙ view_atom c.in-Atom.atom) c.in_ok-add_fact-in-Atom.ensures

pub returns-in_ok-denied-in-Negated-clause-plan : goal.returns-in_ok-denied-in-Negated-clause-plan
returns-in_ok-denied-in-Negated-clause-plan t c =
    negated_does (headers_of c.args.headers.now) (formula_view c.args.formula.now) (formula_view c.deref.result.now) c.args.planner.now c.planned.new.planner c.complement.new.planner c.in_ok-place-in-Negated.place c.in_ok-denied-in-Negated.denied
    (ap formula_view c.in-Negated.is ∙ view_negated c.in-Negated.inside ∙ ap (λ f. trees.negated (formula_view f)) (sym c.deref.ensures)) c.in_ok-place-in-Negated.ensures.plan c.in_ok-denied-in-Negated.ensures

pub returns-in_ok-denied-in-Negated-clause-names : goal.returns-in_ok-denied-in-Negated-clause-names
returns-in_ok-denied-in-Negated-clause-names t c =
    names_seen (formula_view c.args.formula.now) (trees.negated (formula_view c.deref.result.now)) c.args.free.now c.planned.new.free
    (ap formula_view c.in-Negated.is ∙ view_negated c.in-Negated.inside ∙ ap (λ f. trees.negated (formula_view f)) (sym c.deref.ensures)) c.in_ok-place-in-Negated.ensures.names

pub returns-in_ok-product-in-Chain-clause-plan : goal.returns-in_ok-product-in-Chain-clause-plan
returns-in_ok-product-in-Chain-clause-plan t c =
    chain_does (headers_of c.args.headers.now) (formula_view c.args.formula.now) (formula_view c.deref-in-Chain.result.now) c.deref-operand-items.result.now c.in-Chain.operands.items c.loop-operand.operand-index
    c.in_ok-end-in-Chain.end c.in_ok-product-in-Chain.product c.args.planner.now c.loop-operand.planner c.planned-in-Chain.new.planner c.chained.new.planner c.loop-operand.made.items c.deref-in-Chain-2.result.now
    (ap formula_view c.in-Chain.is ∙ view_chain c.in-Chain.operands c.in-Chain.last ∙ ap (λ f. trees.chain (operands_view c.in-Chain.operands.items) (formula_view f)) (sym c.deref-in-Chain.ensures))
    c.deref-operand-items.ensures.value c.loop-operand-test.false c.deref-in-Chain-2.ensures.value c.loop-operand.invariant.made c.in_ok-end-in-Chain.ensures.plan c.in_ok-product-in-Chain.ensures

pub returns-in_ok-product-in-Chain-clause-names : goal.returns-in_ok-product-in-Chain-clause-names
returns-in_ok-product-in-Chain-clause-names t c =
    names_chained (formula_view c.args.formula.now) (formula_view c.deref-in-Chain.result.now) c.deref-operand-items.result.now c.in-Chain.operands.items c.loop-operand.operand-index
    c.args.free.now c.loop-operand.free c.planned-in-Chain.new.free
    (ap formula_view c.in-Chain.is ∙ view_chain c.in-Chain.operands c.in-Chain.last ∙ ap (λ f. trees.chain (operands_view c.in-Chain.operands.items) (formula_view f)) (sym c.deref-in-Chain.ensures))
    c.deref-operand-items.ensures.value c.loop-operand-test.false c.loop-operand.invariant.names c.in_ok-end-in-Chain.ensures.names

pub returns-in_ok-add_all-in-Quantified-clause-plan : goal.returns-in_ok-add_all-in-Quantified-clause-plan
returns-in_ok-add_all-in-Quantified-clause-plan t c =
    quantified_does (headers_of c.args.headers.now) (formula_view c.args.formula.now) (formula_view c.deref-in-Quantified.result.now) (formula_view c.deref-in-Quantified-3.result.now) (quantifier_view c.in-Quantified.quantifier) c.in-Quantified.variables.items c.deref-in-Quantified-2.result.now
    c.args.planner.now c.planned-in-Quantified.new.planner c.quantified.new.planner c.in_ok-place-in-Quantified.place c.in_ok-closed-in-Quantified.closed
    (ap formula_view c.in-Quantified.is ∙ view_quantified c.in-Quantified.quantifier c.in-Quantified.variables c.in-Quantified.inside
    ∙ ap (λ f. trees.quantified (quantifier_view c.in-Quantified.quantifier) (names_view c.in-Quantified.variables.items) (formula_view f)) (sym c.deref-in-Quantified.ensures))
    c.deref-in-Quantified-2.ensures.value (ap formula_view (c.deref-in-Quantified-3.ensures ∙ sym c.deref-in-Quantified.ensures)) c.in_ok-place-in-Quantified.ensures.plan c.in_ok-closed-in-Quantified.ensures.plan

pub returns-in_ok-add_all-in-Quantified-clause-names : goal.returns-in_ok-add_all-in-Quantified-clause-names
returns-in_ok-add_all-in-Quantified-clause-names t c =
    names_quantified (formula_view c.args.formula.now) (formula_view c.deref-in-Quantified.result.now) (quantifier_view c.in-Quantified.quantifier) c.in-Quantified.variables.items c.deref-in-Quantified-2.result.now
    c.args.free.now c.new-inner.result c.planned-in-Quantified.new.free c.quantified.new.free c.add_all.new.self
    (ap formula_view c.in-Quantified.is ∙ view_quantified c.in-Quantified.quantifier c.in-Quantified.variables c.in-Quantified.inside
    ∙ ap (λ f. trees.quantified (quantifier_view c.in-Quantified.quantifier) (names_view c.in-Quantified.variables.items) (formula_view f)) (sym c.deref-in-Quantified.ensures))
    c.deref-in-Quantified-2.ensures.value c.new-inner.ensures c.in_ok-place-in-Quantified.ensures.names c.in_ok-closed-in-Quantified.ensures.names c.in_ok-add_all-in-Quantified.ensures

pub returns-in_ok-marked-in-Marked-clause-plan : goal.returns-in_ok-marked-in-Marked-clause-plan
returns-in_ok-marked-in-Marked-clause-plan t c =
    formula_seen (headers_of c.args.headers.now) (formula_view c.args.formula.now) (trees.marked (names_view c.in-Marked.field-0.items) (formula_view c.deref-in-Marked.result.now)) c.args.planner.now c.planned-in-Marked.new.planner c.in_ok-marked-in-Marked.marked
    (ap formula_view c.in-Marked.is ∙ view_marked c.in-Marked.field-0 c.in-Marked.inside ∙ ap (λ f. trees.marked (names_view c.in-Marked.field-0.items) (formula_view f)) (sym c.deref-in-Marked.ensures)) c.in_ok-marked-in-Marked.ensures.plan

pub returns-in_ok-marked-in-Marked-clause-names : goal.returns-in_ok-marked-in-Marked-clause-names
returns-in_ok-marked-in-Marked-clause-names t c =
    names_seen (formula_view c.args.formula.now) (trees.marked (names_view c.in-Marked.field-0.items) (formula_view c.deref-in-Marked.result.now)) c.args.free.now c.planned-in-Marked.new.free
    (ap formula_view c.in-Marked.is ∙ view_marked c.in-Marked.field-0 c.in-Marked.inside ∙ ap (λ f. trees.marked (names_view c.in-Marked.field-0.items) (formula_view f)) (sym c.deref-in-Marked.ensures)) c.in_ok-marked-in-Marked.ensures.names

pub loop-operand-init : goal.loop-operand-init
loop-operand-init t c = record {
  made = operands_none (headers_of c.args.headers.now) c.args.planner.now c.new-made.result.items c.new-made.ensures.items;
  names = λ n. ap (λ l. has_name l n) (sym (append-nil c.args.free.now));
}

pub complement-requires : goal.complement-requires
complement-requires t c = c.in_ok-place-in-Negated.ensures.plan.last.within

pub chained-requires-clause-last : goal.chained-requires-clause-last
chained-requires-clause-last t c = c.in_ok-end-in-Chain.ensures.plan.last.within

pub quantified-requires-clause-place : goal.quantified-requires-clause-place
quantified-requires-clause-place t c = c.in_ok-place-in-Quantified.ensures.plan.last.within
