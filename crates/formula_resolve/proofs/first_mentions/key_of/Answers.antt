use Rattle.std.proofs.Common.{[], ◌∙◌, arith}
use Rattle.std.proofs.lemmas.List.{take_all}
use Rattle.formula_resolve.proofs.ListLemmas.{taken_then}
use Rattle.formula_resolve.proofs.first_mentions.key_of.Goals as goal

pub loop-byte-preserved : goal.loop-byte-preserved
loop-byte-preserved c =
    taken_then c.push.new.self.items c.loop-byte.key.items [] c.as_bytes-byte-items.result.now c.loop-byte.byte-index c.from.result c.in_ok-push.ensures.items c.loop-byte.invariant c.from.ensures (omega (arith, c.loop-byte-test.true))

pub returns : goal.returns
returns c = c.loop-byte.invariant ∙ take_all c.loop-byte.byte-index c.as_bytes-byte-items.result.now c.loop-byte-test.false ∙ c.as_bytes-byte-items.ensures
