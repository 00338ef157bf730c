use Rattle.std.proofs.Common.{List, ℕ, length, ap, arith}
use Rattle.digit_tuple.proofs.KeyEndLemmas.{length-ends}
use Rattle.digit_tuple.proofs.key_ends.KeyEnds.len.Goals as goal

pub returns-clause-len : goal.returns-clause-len
returns-clause-len c =
    let inside = c.self.inside in
    omega (arith, c.len.ensures, inside.ends.ok, length-ends inside.width inside.even inside.ends.items, ap (λ (es : List ℕ). length es) c.self.view_is)
