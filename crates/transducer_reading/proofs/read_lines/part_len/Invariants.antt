use Rattle.std.proofs.Common.{◌≡◌, ◌+◌, drop, not}
use Rattle.std.specs.List.{prefix_len}
use Rattle.text_grammar.specs.Bytes.{is_blank}
use Rattle.transducer_reading.proofs.read_lines.part_len.Given as goal

abbrev pub invariant-loop-index : goal.invariant-loop-index
invariant-loop-index l = l.index + prefix_len (λ b. not (is_blank b)) (drop l.index l.bytes) ≡ prefix_len (λ b. not (is_blank b)) l.bytes
