use Rattle.std.proofs.Common.{◌≡◌, ◌+◌, drop}
use Rattle.macro_expand.specs.Views.{len_before as len_up_to}
use Rattle.macro_expand.proofs.bytes.len_before.Given as goal

abbrev pub invariant-loop-index : goal.invariant-loop-index
invariant-loop-index l = l.index + len_up_to l.mark (drop l.index l.bytes) ≡ len_up_to l.mark l.bytes
