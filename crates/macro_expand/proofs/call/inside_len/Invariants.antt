use Rattle.std.proofs.Common.{◌≡◌, ◌+◌, ◌≤◌, drop}
use Rattle.macro_expand.specs.Calls.{inside_len as len_inside}
use Rattle.macro_expand.proofs.call.inside_len.Given as goal

-- what is enclosed of what is left, with the parentheses that are open, is the rest of that of the whole
abbrev pub invariant-loop-index : goal.invariant-loop-index
invariant-loop-index l = (l.index + len_inside l.nested (drop l.index l.bytes) ≡ len_inside 0 l.bytes) × (l.nested ≤ l.index)
