use Rattle.std.proofs.Common.{◌<◌, length, arith, ◌∙◌}
use Rattle.reference.proofs.TreeSteps.{next_waits, some_waits, the_tree}
use Rattle.reference.proofs.tree.tree_of.Goals as goal

pub loop-symbol-preserved : goal.loop-symbol-preserved
loop-symbol-preserved c = next_waits c.symbols-symbols.result.now c.loop-symbol.symbol-index c.symbol-item.result c.loop-symbol.waiting.items c.take.new.waiting.items c.loop-symbol-test.true c.symbol-item.is c.loop-symbol.invariant c.in_ok-take.ensures

pub unwrap-requires : goal.unwrap-requires
unwrap-requires c =
    let some : 0 < length c.loop-symbol.waiting.items = some_waits c.symbols-symbols.result.now c.loop-symbol.symbol-index c.loop-symbol.waiting.items c.symbols-symbols.ensures.postfix c.loop-symbol-test.false c.loop-symbol.invariant in
    c.pop.ensures.variant.1 (omega arith)

pub returns : goal.returns
returns c =
    the_tree c.symbols-symbols.result.now c.loop-symbol.symbol-index c.loop-symbol.waiting.items c.pop.new.self.items c.pop.result c.unwrap.result c.symbols-symbols.ensures.postfix c.loop-symbol-test.false c.loop-symbol.invariant c.pop.ensures.items c.unwrap.ensures
    ∙ c.symbols-symbols.ensures.tree
