use Rattle.std.proofs.Common.{◌∙◌, arith}
use Rattle.std.proofs.lemmas.List.{take_all}
use Rattle.formula_resolve.proofs.ListLemmas.{copied_then}
use Rattle.formula_resolve.proofs.headers.copied.Goals as goal

pub loop-name-preserved : goal.loop-name-preserved
loop-name-preserved c =
    copied_then c.push.new.self.items c.loop-name.copies.items c.args.names.now c.loop-name.name-index c.in_ok-copy.field-0 c.name-item.result
    c.in_ok-push.ensures.items c.loop-name.invariant c.in_ok-copy.ensures c.name-item.is (omega (arith, c.loop-name-test.true))

pub returns : goal.returns
returns c = c.loop-name.invariant ∙ take_all c.loop-name.name-index c.args.names.now c.loop-name-test.false
