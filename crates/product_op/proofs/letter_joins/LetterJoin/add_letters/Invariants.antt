use Rattle.std.proofs.Common.{◌<◌}
use Rattle.std.specs.List.{All}
use Rattle.product_op.specs.LetterJoins.{HoldJoined}
use Rattle.product_op.proofs.letter_joins.LetterJoin.add_letters.Given as goal

abbrev pub invariant-loop-transition : goal.invariant-loop-transition
invariant-loop-transition l = record {
  below : All (λ a. a < l.letters) l.found.items;
  joined : HoldJoined l.letters l.self l.first l.second l.transition-index l.found.items;
}
