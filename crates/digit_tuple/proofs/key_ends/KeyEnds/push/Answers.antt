use Rattle.std.proofs.Common.{◌≡◌, ◌+◌, ◌*◌, ◌++◌, ◌∷◌, [], ℕ, List, length, sym, ap, ◌∙◌, arith}
use Rattle.std.proofs.lemmas.Bool.{eqb-true}
use Rattle.digit_tuple.specs.KeyParts.{even_ends}
use Rattle.digit_tuple.proofs.KeyEndLemmas.{ends-next, even-next, even_ends-none, even-none, length-ends}
use Rattle.digit_tuple.proofs.key_ends.KeyEnds.push.Goals as goal
use Rattle.digit_tuple.proofs.key_ends.KeyEnds.push.Goals.{then-self-eq0, else-self-eq0}

pub invariant_of-self : goal.invariant_of-self
invariant_of-self c =
    let inside = c.self.inside in
    let even = inside.even in
    let used : even * inside.width ≡ even * c.if-self-eq0.width = elim c.if-self-eq0.branch [
      | then-self-eq0 w ↦ even-none inside.width c.if-self-eq0.width even w.if-self-eq0.true
      | else-self-eq0 w ↦ ap (λ n. even * n) (sym w.width-is)
    ] in
    let next : (even + 1) * c.if-self-eq0.width ≡ c.args.end = even-next even c.if-self-eq0.width (even * inside.width) c.args.end used c.if-used-end.true c.if-end-used.true in
    (omega (arith, next, c.ranges.end), omega (arith, c.if-len.false, c.len.ensures.len, length-ends inside.width even inside.ends.items, ap (λ (es : List ℕ). length es) c.self.view_is))

pub invariant_of-self-in-Continue-1 : goal.invariant_of-self-in-Continue-1
invariant_of-self-in-Continue-1 c =
    let inside = c.self.inside in
    (c.self.invariant.0, omega (arith, c.if-len.false, c.len.ensures.len, length-ends inside.width inside.even inside.ends.items, ap (λ (es : List ℕ). length es) c.self.view_is, c.in_ok-push.ensures.len, inside.ends.ok, c.push.new.self.ok))

pub returns-then-end-used-clause-ok : goal.returns-then-end-used-clause-ok
returns-then-end-used-clause-ok c =
    let inside = c.self.inside in
    let even = inside.even in
    let used : even * inside.width ≡ even * c.if-self-eq0.width = elim c.if-self-eq0.branch [
      | then-self-eq0 w ↦ even-none inside.width c.if-self-eq0.width even w.if-self-eq0.true
      | else-self-eq0 w ↦ ap (λ n. even * n) (sym w.width-is)
    ] in
    let same : even_ends c.if-self-eq0.width even ≡ even_ends inside.width even = elim c.if-self-eq0.branch [
      | then-self-eq0 w ↦ even_ends-none c.if-self-eq0.width inside.width even w.if-self-eq0.true
      | else-self-eq0 w ↦ ap (λ n. even_ends n even) w.width-is
    ] in
    let next : (even + 1) * c.if-self-eq0.width ≡ c.args.end = even-next even c.if-self-eq0.width (even * inside.width) c.args.end used c.if-used-end.true c.if-end-used.true in
    let count : inside.ends.len ≡ 0 = eqb-true inside.ends.len 0 (sym c.is_empty.ensures ∙ c.if-is_empty.true) in
    ends-next inside.width c.if-self-eq0.width even c.args.end inside.ends.items (omega (arith, count, inside.ends.ok)) same next ∙ ap (λ (es : List ℕ). es ++ c.args.end ∷ []) c.self.view_is
