use Rattle.std.proofs.Common.{◌≡◌, take}
use Rattle.base_change.specs.GroupKeys.{key_letters}
use Rattle.base_change.proofs.key_letters.key_letters.Given as goal

abbrev pub invariant-loop-number : goal.invariant-loop-number
invariant-loop-number l = l.letters.items ≡ key_letters l.function l.root (take l.number l.keys)
