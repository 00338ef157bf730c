use Rattle.std.proofs.Common.{ℕ, suc, sym, subst, IfOk}
use Rattle.digit_tuple.specs.declared.direction.Direction.{Direction}
use Rattle.constants.specs.WordCounts.{AreCounts}
use Rattle.constants.proofs.word_counts.next_row.Goals as goal

pub returns-in-Msd : goal.returns-in-Msd
returns-in-Msd c =
    let a = c.args.language.now in
    let row = c.args.row.now in
    subst (λ (direction : Direction). IfOk c.counts_from.result (λ next. (n : ℕ) → AreCounts direction a n row → AreCounts direction a (suc n) next.items)) (sym c.in-Msd.is) c.counts_from.ensures

pub returns-in-Lsd : goal.returns-in-Lsd
returns-in-Lsd c =
    let a = c.args.language.now in
    let row = c.args.row.now in
    subst (λ (direction : Direction). IfOk c.counts_into.result (λ next. (n : ℕ) → AreCounts direction a n row → AreCounts direction a (suc n) next.items)) (sym c.in-Lsd.is) c.counts_into.ensures
