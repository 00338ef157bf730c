use Rattle.std.proofs.Common.{◌≡◌, ◌≤◌, drop, length}
use Rattle.digit_tuple.specs.Letters.{product}
use Rattle.dfa_reading.specs.LineLetters.{letters_taken}
use Rattle.dfa_reading.proofs.line_letters.letters_from_last.Given as goal

abbrev pub invariant-tracks : goal.invariant-tracks
invariant-tracks l = record {
  within : l.track ≤ length l.sizes;
  letters : l.letters.items ≡ letters_taken (drop l.track l.sizes) (drop l.track l.digits);
  weight : l.weight ≡ product (drop l.track l.sizes);
}

abbrev pub decreases-tracks : goal.decreases-tracks
decreases-tracks l = l.track
