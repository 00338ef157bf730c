use Rattle.std.proofs.Common.{◌≡◌, ◌+◌, drop}
use Rattle.text_grammar.specs.Prefixes.{prefix_len as len_of_prefix}
use Rattle.text_grammar.proofs.prefix.prefix_len.Given as goal

-- the prefix of what is left is the rest of the prefix of the whole
abbrev pub invariant-loop-index : goal.invariant-loop-index
invariant-loop-index l = l.index + len_of_prefix l.class (drop l.index l.bytes) ≡ len_of_prefix l.class l.bytes
