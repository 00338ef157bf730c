use Rattle.std.proofs.Common.{◌≡◌, drop}
use Rattle.digit_tuple.specs.Letters.{product}
use Rattle.track_parts.specs.Spans.{letters_in}
use Rattle.track_parts.proofs.letters_in.letters_in.Given as goal

abbrev pub invariant-loop-track : goal.invariant-loop-track
invariant-loop-track l = record {
  letters : l.letters.items ≡ letters_in (drop l.track l.alphabet) (drop l.track l.spans);
  weight : l.weight ≡ product (drop l.track l.alphabet);
}
