use Rattle.std.proofs.Common.{Some, ap, sym, ◌∙◌, arith}
use Rattle.formula_parse.specs.Trees as trees
use Rattle.formula_parse.specs.Views.{formula_view, operands_view, names_view, atom_view, quantifier_view}
use Rattle.formula_parse.proofs.ViewSteps.{view_atom, view_negated, view_chain, view_quantified, view_marked}
use Rattle.formula_truth.specs.Given.{assigned}
use Rattle.formula_truth.specs.Bounded.{bounded}
use Rattle.formula_truth.proofs.DecidingLemmas.{decides_seen, negated_is, operand_more, chain_is, trial_decides, found_is, same_truths}
use Rattle.formula_truth.proofs.TrialLemmas.{wants}
use Rattle.formula_truth.proofs.deciding.+deciding.Goals as goal
use Rattle.formula_truth.proofs.deciding.+deciding.Goals.{tried-in-Exists, tried-in-ForAll}

pub holds-loop-operand-preserved : goal.holds-loop-operand-preserved
holds-loop-operand-preserved t c =
    operand_more c.args.bound c.deref-operand-items.result.now c.loop-operand.operand-index c.operand-item.result (assigned c.args.given.now) c.loop-operand.prefix c.in_ok-is-in-Chain.is' c.after.result
    (omega (arith, c.loop-operand-test.true)) c.operand-item.is c.loop-operand.invariant c.in_ok-is-in-Chain.ensures c.after.ensures

pub holds-returns-in-Atom : goal.holds-returns-in-Atom
holds-returns-in-Atom t c = decides_seen c.args.bound (formula_view c.args.formula.now) (trees.atom (atom_view c.in-Atom.atom)) (assigned c.args.given.now) c.fact_holds.result
    (ap formula_view c.in-Atom.is ∙ view_atom c.in-Atom.atom) c.fact_holds.ensures

pub holds-returns-in_ok-is-in-Negated : goal.holds-returns-in_ok-is-in-Negated
holds-returns-in_ok-is-in-Negated t c = negated_is c.args.bound (formula_view c.args.formula.now) (formula_view c.deref.result.now) (assigned c.args.given.now) c.in_ok-is-in-Negated.is'
    (ap formula_view c.in-Negated.is ∙ view_negated c.in-Negated.inside ∙ ap (λ f. trees.negated (formula_view f)) (sym c.deref.ensures)) c.in_ok-is-in-Negated.ensures

pub holds-returns-in_ok-is-in-Chain-2 : goal.holds-returns-in_ok-is-in-Chain-2
holds-returns-in_ok-is-in-Chain-2 t c =
    chain_is c.args.bound (formula_view c.args.formula.now) (formula_view c.deref-in-Chain.result.now) c.in-Chain.operands.items c.deref-operand-items.result.now c.loop-operand.operand-index
    (assigned c.args.given.now) c.loop-operand.prefix c.in_ok-is-in-Chain-2.is' c.after-in-Chain.result
    (ap formula_view c.in-Chain.is ∙ view_chain c.in-Chain.operands c.in-Chain.last ∙ ap (λ f. trees.chain (operands_view c.in-Chain.operands.items) (formula_view f)) (sym c.deref-in-Chain.ensures))
    c.deref-operand-items.ensures.value c.loop-operand-test.false c.loop-operand.invariant c.in_ok-is-in-Chain-2.ensures c.after-in-Chain.ensures

pub holds-returns-in-Quantified : goal.holds-returns-in-Quantified
holds-returns-in-Quantified t c =
    trial_decides c.args.bound (formula_view c.args.formula.now) (quantifier_view c.in-Quantified.quantifier) c.in-Quantified.names.items c.deref-in-Quantified.result.now
    (formula_view c.in-Quantified.inside.value) (formula_view c.deref-in-Quantified-2.result.now) (assigned c.args.given.now) c.tried.result
    (ap formula_view c.in-Quantified.is ∙ view_quantified c.in-Quantified.quantifier c.in-Quantified.names c.in-Quantified.inside)
    c.deref-in-Quantified.ensures.value (ap formula_view c.deref-in-Quantified-2.ensures) c.tried.ensures

pub holds-returns-in-Marked : goal.holds-returns-in-Marked
holds-returns-in-Marked t c = decides_seen c.args.bound (formula_view c.args.formula.now) (trees.marked (names_view c.in-Marked.field-0.items) (formula_view c.deref-in-Marked.result.now)) (assigned c.args.given.now) c.holds-in-Marked.result
    (ap formula_view c.in-Marked.is ∙ view_marked c.in-Marked.field-0 c.in-Marked.inside ∙ ap (λ f. trees.marked (names_view c.in-Marked.field-0.items) (formula_view f)) (sym c.deref-in-Marked.ensures)) c.holds-in-Marked.ensures

pub tried-returns-then-is-wanted : goal.tried-returns-then-is-wanted
tried-returns-then-is-wanted t c =
    found_is c.args.bound (quantifier_view c.args.trial.quantifier) c.args.trial.names.now c.in-Some.rest.now c.in-Some.name.now (bounded c.args.bound (formula_view c.args.trial.formula.now))
    (assigned c.args.given.now) (assigned c.deref.result.now) c.loop-number.number c.in_ok-is.is' c.match-trial.wanted
    c.in-Some.ensures.cases.0
    (elim c.match-trial.branch [
      | tried-in-Exists w ↦ ap Some w.wanted-is ∙ ap (λ q. wants (quantifier_view q)) (sym w.in-Exists.is)
      | tried-in-ForAll w ↦ ap Some w.wanted-is ∙ ap (λ q. wants (quantifier_view q)) (sym w.in-ForAll.is)
    ])
    (omega (arith, c.loop-number-test.true))
    (ap assigned c.deref.ensures.value ∙ c.in_ok-more.ensures)
    c.in_ok-is.ensures
    (same_truths c.in_ok-is.is' c.match-trial.wanted c.if-is-wanted.true)
