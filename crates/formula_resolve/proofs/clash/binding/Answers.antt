use Rattle.std.proofs.Common.{◌∷◌, [], ap, ◌∙◌, arith}
use Rattle.std.proofs.lemmas.List.{take_all}
use Rattle.formula_resolve.proofs.ListLemmas.{taken_then}
use Rattle.formula_resolve.proofs.clash.binding.Goals as goal

pub loop-byte-preserved : goal.loop-byte-preserved
loop-byte-preserved c =
    taken_then c.push-in-loop-byte.new.self.items c.loop-byte.key.items (c.args.occurrence.now.binder ∷ []) c.as_bytes-byte-items.result.now c.loop-byte.byte-index c.from.result c.in_ok-push-2.ensures.items c.loop-byte.invariant c.from.ensures (omega (arith, c.loop-byte-test.true))

pub returns : goal.returns
returns c =
    c.loop-byte.invariant ∙ ap (λ bs. c.args.occurrence.now.binder ∷ bs) (take_all c.loop-byte.byte-index c.as_bytes-byte-items.result.now c.loop-byte-test.false ∙ c.as_bytes-byte-items.ensures)
