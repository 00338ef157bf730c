use Rattle.std.proofs.Common.{◌≡◌, ◌≤◌, take, count_by}
use Rattle.text_grammar.specs.Bytes.{is_line_end}
use Rattle.morphism_loading.proofs.lines.line_ends.Given as goal

-- the line ends so far
abbrev pub invariant-loop-byte : goal.invariant-loop-byte
invariant-loop-byte l = (l.count ≡ count_by is_line_end (take l.byte-index l.bytes)) × (l.count ≤ l.byte-index)
