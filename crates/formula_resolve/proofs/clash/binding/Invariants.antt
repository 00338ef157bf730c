use Rattle.std.proofs.Common.{◌≡◌, ◌∷◌, take}
use Rattle.formula_resolve.proofs.clash.binding.Given as goal

abbrev pub invariant-loop-byte : goal.invariant-loop-byte
invariant-loop-byte l = l.key.items ≡ l.occurrence.binder ∷ take l.byte-index l.byte-items
