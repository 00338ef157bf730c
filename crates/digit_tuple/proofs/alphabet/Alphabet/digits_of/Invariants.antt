use Rattle.std.proofs.Common.{◌≡◌, ◌<◌, ◌+◌, ◌*◌, take, drop}
use Rattle.digit_tuple.specs.Letters.{product, code_of, AreDigits}
use Rattle.digit_tuple.proofs.alphabet.Alphabet.digits_of.Given as goal

abbrev pub invariant-loop-track : goal.invariant-loop-track
invariant-loop-track l = record {
  weight : l.weight ≡ product (drop l.track l.self);
  below : l.rest < l.weight;
  digits : AreDigits (take l.track l.self) (take l.track l.out);
  code : code_of (take l.track l.self) (take l.track l.out) * l.weight + l.rest ≡ l.fn.letter;
}
