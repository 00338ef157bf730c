use Rattle.std.proofs.Common.{arith, sym, ◌∙◌}
use Rattle.formula_resolve.proofs.FreeSystemLemmas.{none_more, found, none_at_all}
use Rattle.formula_resolve.proofs.variable.first_free.Goals as goal

pub loop-occurrence-preserved : goal.loop-occurrence-preserved
loop-occurrence-preserved c =
    none_more c.args.occurrences.now c.loop-occurrence.occurrence-index c.occurrence-item.result c.args.variable.now (omega (arith, c.loop-occurrence-test.true)) c.occurrence-item.is c.loop-occurrence.invariant
    (sym c.is_free.ensures ∙ c.if-is_free.false)

pub returns-then-is_free : goal.returns-then-is_free
returns-then-is_free c =
    sym (found c.args.occurrences.now c.loop-occurrence.occurrence-index c.occurrence-item.result c.args.variable.now (omega (arith, c.loop-occurrence-test.true)) c.occurrence-item.is c.loop-occurrence.invariant
    (sym c.is_free.ensures ∙ c.if-is_free.true))

pub returns : goal.returns
returns c = none_at_all c.args.occurrences.now c.loop-occurrence.occurrence-index c.args.variable.now c.loop-occurrence-test.false c.loop-occurrence.invariant
