use Rattle.std.proofs.Common.{◌≡◌, ◌+◌, length}
use Rattle.digit_tuple.specs.Deterministic.{letters_of, states_of}
use Rattle.constants.specs.Continuations.{read}
use Rattle.constants.specs.WordCounts.{AreRows}
use Rattle.constants.specs.Prefixes.{IsPrefix, Fits}
use Rattle.constants.proofs.PlaceLemmas.{IsPart}
use Rattle.constants.proofs.representation.word_at.Given as goal

abbrev pub invariant-loop-row : goal.invariant-loop-row
invariant-loop-row l = record {
  prefix : IsPrefix l.fn.direction l.language l.word.items l.prefix;
  fits : Fits (states_of l.language) l.prefix;
  counts : AreRows l.fn.direction l.language l.lesser.items;
  part : IsPart (letters_of l.language) (read l.fn.direction l.language) l.number l.word.items (length l.lesser.items) l.rest;
  long : length l.word.items + length l.lesser.items ≡ length l.fn.rows.items;
}

abbrev pub decreases-loop-row : goal.decreases-loop-row
decreases-loop-row l = length l.lesser.items
