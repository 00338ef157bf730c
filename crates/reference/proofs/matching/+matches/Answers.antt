use Rattle.std.proofs.Common.{◌≡◌, ◌+◌, length, arith, refl, sym, ◌∙◌}
use Rattle.std.proofs.lemmas.Bool.{eqb-true, eqb-false}
use Rattle.std.proofs.lemmas.List.{take_rest}
use Rattle.regex_build.specs.Expression.{star}
use Rattle.reference.specs.Trees.{expression}
use Rattle.reference.proofs.Cuts.{no_follow, no_star, star_cut, no_prefix, no_back, one_of_any, plus_empty, refuted, found, answers_yes, answers_no}
use Rattle.reference.proofs.matching.+matches.Goals as goal
use Rattle.reference.proofs.matching.+matches.Goals.{matches_follow-else-matches-via-then-matches+else-matches-2, matches_follow-else-matches-via-else-matches}
use Rattle.reference.proofs.matching.+matches.Goals.{matches_star-else-matches-via-then-matches+else-matches_star, matches_star-else-matches-via-else-matches}

pub matches-returns-in-Any : goal.matches-returns-in-Any
matches-returns-in-Any t c = rw c.in-Any.is (one_of_any c.args.word.now)

pub matches-returns-then-is_empty : goal.matches-returns-then-is_empty
matches-returns-then-is_empty t c =
    let none : length c.args.word.now ≡ 0 = eqb-true (length c.args.word.now) 0 (sym c.is_empty-in-Plus.ensures ∙ c.if-is_empty.true) in
    rw (c.in-Plus.is, ← c.deref-then-is_empty.ensures) (plus_empty (expression c.deref-then-is_empty.result.now) c.args.word.now c.matches-then-is_empty.result none c.matches-then-is_empty.ensures)

pub matches_follow-returns-else-matches : goal.matches_follow-returns-else-matches
matches_follow-returns-else-matches t c = answers_no (no_follow (expression c.args.first.now) (expression c.args.second.now) c.args.word.now (c.loop-cut.cut + 1) (omega arith)
    (elim c.else-matches.branch [
      | matches_follow-else-matches-via-then-matches+else-matches-2 w ↦ no_back (expression c.args.first.now) (expression c.args.second.now) c.args.word.now _ 0 c.loop-cut.cut (take_rest c.args.word.now c.loop-cut.cut) (refuted w.matches-then-matches.result w.if-matches-2.false w.matches-then-matches.ensures.1) c.loop-cut.invariant
      | matches_follow-else-matches-via-else-matches w ↦ no_prefix (expression c.args.first.now) (expression c.args.second.now) c.args.word.now _ 0 c.loop-cut.cut refl (refuted c.matches.result w.if-matches.false c.matches.ensures.1) c.loop-cut.invariant
    ]))

pub matches_star-returns-then-matches_star : goal.matches_star-returns-then-matches_star
matches_star-returns-then-matches_star t c = answers_yes (star_cut (expression c.args.once.now) c.args.word.now c.loop-cut.cut
    (found c.matches.result c.if-matches.true c.matches.ensures.0)
    (rw (← take_rest c.args.word.now c.loop-cut.cut) (found c.matches_star.result c.if-matches_star.true c.matches_star.ensures.0)))

pub matches_star-returns-else-matches : goal.matches_star-returns-else-matches
matches_star-returns-else-matches t c =
    let some : (length c.args.word.now ≡ 0 → ⊥) = eqb-false (length c.args.word.now) 0 (sym c.is_empty.ensures ∙ c.if-is_empty.false) in
    answers_no (no_star (expression c.args.once.now) c.args.word.now (c.loop-cut.cut + 1) (omega arith) (omega arith)
    (elim c.else-matches.branch [
      | matches_star-else-matches-via-then-matches+else-matches_star w ↦ no_back (expression c.args.once.now) (star (expression c.args.once.now)) c.args.word.now _ 1 c.loop-cut.cut (take_rest c.args.word.now c.loop-cut.cut) (refuted w.matches_star.result w.if-matches_star.false w.matches_star.ensures.1) c.loop-cut.invariant
      | matches_star-else-matches-via-else-matches w ↦ no_prefix (expression c.args.once.now) (star (expression c.args.once.now)) c.args.word.now _ 1 c.loop-cut.cut refl (refuted c.matches.result w.if-matches.false c.matches.ensures.1) c.loop-cut.invariant
    ]))
