use Rattle.std.proofs.Common.{◌≡◌, ◌<◌, ◌+◌, ◌*◌, take, drop}
use Rattle.digit_tuple.specs.Letters.{product, code_of}
use Rattle.digit_tuple.proofs.alphabet.Alphabet.letter_of.Given as goal

abbrev pub invariant-loop-track : goal.invariant-loop-track
invariant-loop-track l = record {
  below : l.letter < product (take l.track l.self);
  code : l.letter * product (drop l.track l.self) + code_of (drop l.track l.self) (drop l.track l.digits) ≡ code_of l.self l.digits;
}
