use Rattle.std.proofs.Common.{[], refl, arith}
use Rattle.std.proofs.lemmas.List.{ext_get_or}
use Rattle.pad_rename.proofs.renaming.are_equal.Goals as goal

pub returns : goal.returns
returns c = (
  (λ is. ext_get_or [] c.args.a.now c.args.b.now c.loop-place.invariant.0 (λ k inside. c.loop-place.invariant.1 k (omega arith))),
  (λ same. refl),
)
