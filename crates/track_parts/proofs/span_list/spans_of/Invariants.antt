use Rattle.std.proofs.Common.{◌≡◌, length}
use Rattle.track_parts.proofs.SpanLemmas.{AreSpansTo}
use Rattle.track_parts.proofs.span_list.spans_of.Given as goal

abbrev pub invariant-loop-track : goal.invariant-loop-track
invariant-loop-track l = AreSpansTo l.alphabet l.places l.digits.items l.spans.items l.track
