use Rattle.std.proofs.Common.{arith}
use Rattle.formula_plan.proofs.NamesAdded.{term_added}
use Rattle.formula_plan.proofs.names.add_terms.Goals as goal

pub loop-term-preserved : goal.loop-term-preserved
loop-term-preserved c =
    term_added c.args.terms.now c.loop-term.term-index c.term-item.result c.args.free.now c.loop-term.free c.add_term.new.free
    (omega (arith, c.loop-term-test.true)) c.term-item.is c.loop-term.invariant c.in_ok-add_term.ensures
