use Rattle.std.proofs.Common.{◌≡◌, ◌+◌, Bool, ◌&&◌, drop, sym, ap, ◌∙◌, arith}
use Rattle.dfa_reading.specs.StarTables.{same_stars}
use Rattle.dfa_reading.proofs.StarTableLemmas.{same_stars-next}
use Rattle.dfa_reading.proofs.star_table.has_stars.Goals as goal

pub loop-track-preserved : goal.loop-track-preserved
loop-track-preserved c =
    let digits = c.args.digits.now in
    let pattern = c.args.pattern.now in
    let i = c.loop-track.track in
    let rest = same_stars (drop (i + 1) digits) (drop (i + 1) pattern) in
    ap (λ (b : Bool). b && rest) (sym c.if-not-is_alike.false ∙ c.is_alike.ensures) ∙ sym (same_stars-next digits pattern i c.loop-track-test.true (omega (arith, c.loop-track-test.true, c.if-digits-pattern.false))) ∙ c.loop-track.invariant

pub returns-then-not-is_alike : goal.returns-then-not-is_alike
returns-then-not-is_alike c =
    let digits = c.args.digits.now in
    let pattern = c.args.pattern.now in
    let i = c.loop-track.track in
    let rest = same_stars (drop (i + 1) digits) (drop (i + 1) pattern) in
    ap (λ (b : Bool). b && rest) (sym c.if-not-is_alike.true ∙ c.is_alike.ensures) ∙ sym (same_stars-next digits pattern i c.loop-track-test.true (omega (arith, c.loop-track-test.true, c.if-digits-pattern.false))) ∙ c.loop-track.invariant
