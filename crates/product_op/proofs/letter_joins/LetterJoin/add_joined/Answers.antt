use Rattle.std.proofs.Common.{◌≡◌, ◌+◌, ℕ, List, Vec, Global, sym, ap, ◌∙◌, subst, arith}
use Rattle.std.proofs.lemmas.List.{get_or_read}
use Rattle.product_op.specs.declared.letter_joins.LeastLetter.{LeastLetter}
use Rattle.product_op.specs.LetterJoins.{AddUp, least_of, letter_at}
use Rattle.product_op.proofs.LetterJoinLemmas.{AreSums, AreSums-push, AreSums-skip}
use Rattle.product_op.proofs.letter_joins.LetterJoin.add_joined.Goals as goal
use Rattle.product_op.proofs.letter_joins.LetterJoin.add_joined.Goals.{then-own-other+in_ok-push, else-own-other}

pub loop-transition-preserved : goal.loop-transition-preserved
loop-transition-preserved c =
    let others = c.args.self.now.second.items in
    let row = c.args.second.now in
    let place = c.loop-transition.transition-index in
    let found = c.loop-transition.found.items in
    let old = c.args.found.now.items in
    let within = c.requires.second place (record { letter = 0; target = 0 }) c.loop-transition-test.true in
    let other : c.index-other.result.now ≡ least_of others (letter_at row place) = get_or_read others (letter_at row place) c.index-other.result.now within c.index-other.ensures (record { letter = 0; shared = 0 }) in
    let is_more = λ (xs : List ℕ). AreSums c.args.letters c.args.own others row (place + 1) old xs in
    elim c.if-own-other.branch [
      | then-own-other+in_ok-push w ↦
          subst is_more (sym (ap (λ (v : Vec ℕ Global). v.items) w.found-is ∙ w.in_ok-push.ensures.items))
          (AreSums-push c.args.letters c.args.own others row place old found c.loop-transition.invariant w.sum_with.result w.sum_with.ensures.below
          (λ a small adds. w.sum_with.ensures.sum a small (subst (λ (x : LeastLetter). AddUp c.args.own x a) (sym other) adds)))
      | else-own-other w ↦
          subst is_more (sym (ap (λ (v : Vec ℕ Global). v.items) w.found-is))
          (AreSums-skip c.args.letters c.args.own others row place old found c.loop-transition.invariant (λ a adds. absurd (w.if-own-other.false (adds.0 ∙ ap (λ (x : LeastLetter). x.shared) (sym other)))))
    ]

pub returns-clause-sums : goal.returns-clause-sums
returns-clause-sums c i less = c.loop-transition.invariant.sums i (omega (arith, less, c.loop-transition-test.false))
