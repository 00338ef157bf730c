use Rattle.std.proofs.Common.{◌≡◌, length, arith, below_more, subst}
use Rattle.std.proofs.lemmas.List.{get_or_read}
use Rattle.product_op.specs.declared.letter_joins.LeastLetter.{LeastLetter}
use Rattle.product_op.specs.LetterJoins.{HoldSums, least_of, letter_at}
use Rattle.product_op.proofs.letter_joins.LetterJoin.add_letters.Goals as goal

pub loop-transition-preserved : goal.loop-transition-preserved
loop-transition-preserved c =
    let join = c.args.self.now in
    let first = c.args.first.now in
    let second = c.args.second.now in
    let place = c.loop-transition.transition-index in
    let after = c.add_joined.new.found.items in
    let added = c.in_ok-add_joined.ensures in
    let within = c.requires.first place (record { letter = 0; target = 0 }) c.loop-transition-test.true in
    let own : c.index.result.now ≡ least_of join.first.items (letter_at first place) = get_or_read join.first.items (letter_at first place) c.index.result.now within c.index.ensures (record { letter = 0; shared = 0 }) in
    record {
      below = added.below;
      joined = below_more (λ i. HoldSums c.args.letters (least_of join.first.items (letter_at first i)) join.second.items second (length second) after) place
          (λ i less j low a small adds. added.kept a (c.loop-transition.invariant.joined i less j low a small adds))
          (subst (λ (x : LeastLetter). HoldSums c.args.letters x join.second.items second (length second) after) own added.sums);
    }

pub returns-clause-joined : goal.returns-clause-joined
returns-clause-joined c i less = c.loop-transition.invariant.joined i (omega (arith, less, c.loop-transition-test.false))
