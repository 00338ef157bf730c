use Rattle.std.proofs.Common.{◌≡◌, ◌+◌, ◌≤◌, drop}
use Rattle.macro_expand.specs.Arguments.{first_len as len_of_first}
use Rattle.macro_expand.proofs.arguments.first_len.Given as goal

-- the first argument of what is left, with the parentheses and brackets that are open, is the rest of that of the whole
abbrev pub invariant-loop-index : goal.invariant-loop-index
invariant-loop-index l =
    (l.index + len_of_first l.parentheses l.brackets (drop l.index l.bytes) ≡ len_of_first 0 0 l.bytes) × (l.parentheses ≤ l.index) × (l.brackets ≤ l.index)
