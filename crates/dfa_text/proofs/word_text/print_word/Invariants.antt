use Rattle.std.proofs.Common.{◌≡◌, ◌++◌, length, IfSome}
use Rattle.std.specs.List.{flat_map, range_with_len}
use Rattle.digit_tuple.specs.Headers.{sets_of}
use Rattle.dfa_text.specs.LinePrefixes.{prefixes_of}
use Rattle.dfa_text.specs.Parts.{text_of_lines}
use Rattle.dfa_text.specs.RelationText.{state_lines}
use Rattle.dfa_text.proofs.word_text.print_word.Given as goal

abbrev pub invariant-loop-state : goal.invariant-loop-state
invariant-loop-state l = record {
  text : l.out.items ≡ l.initial.out.items ++ text_of_lines (flat_map (state_lines (sets_of l.header) l.d l.outputs) (range_with_len 0 l.state));
  tracks : length l.scratch.places.items ≡ length l.d.sizes;
  prefixes : IfSome l.scratch.prefixes (λ prefixes. prefixes ≡ prefixes_of (sets_of l.header));
}
