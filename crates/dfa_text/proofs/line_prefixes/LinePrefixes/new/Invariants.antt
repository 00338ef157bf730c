use Rattle.std.proofs.Common.{◌≡◌, length}
use Rattle.digit_tuple.specs.Headers.{sets_of}
use Rattle.dfa_text.proofs.LinePrefixLemmas.{AreFirstPrefixes}
use Rattle.dfa_text.proofs.line_prefixes.LinePrefixes.new.Given as goal

abbrev pub invariant-loop-letter : goal.invariant-loop-letter
invariant-loop-letter l = record {
  are : AreFirstPrefixes (sets_of l.header) l.bytes.items l.ends l.letter;
  tracks : length l.places.items ≡ length l.alphabet;
}
