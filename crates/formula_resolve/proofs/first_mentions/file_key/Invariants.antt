use Rattle.std.proofs.Common.{◌≡◌, ◌∷◌, take}
use Rattle.formula_resolve.proofs.first_mentions.file_key.Given as goal

abbrev pub invariant-loop-byte : goal.invariant-loop-byte
invariant-loop-byte l = l.key.items ≡ l.folder ∷ take l.byte-index l.byte-items
