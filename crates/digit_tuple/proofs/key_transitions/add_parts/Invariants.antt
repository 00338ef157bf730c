use Rattle.std.proofs.Common.{length}
use Rattle.digit_tuple.specs.Keys.{AreKeyTransitions, part_of, some_nonzero}
use Rattle.digit_tuple.specs.KeySpans.{AreSpans, transitions_in}
use Rattle.digit_tuple.proofs.key_transitions.add_parts.Given as goal

abbrev pub invariant-loop-letter : goal.invariant-loop-letter
invariant-loop-letter l = record {
  within : AreSpans (length l.numbers) l.spans.items;
  parts : AreKeyTransitions l.letter (λ letter. some_nonzero (part_of l.numbers l.width letter)) (transitions_in l.numbers l.spans.items);
}
