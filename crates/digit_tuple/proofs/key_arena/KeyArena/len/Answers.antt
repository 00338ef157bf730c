use Rattle.std.proofs.Common.{length, ap, arith}
use Rattle.digit_tuple.proofs.KeyPartLemmas.{length-parts}
use Rattle.digit_tuple.proofs.key_arena.KeyArena.len.Goals as goal

pub returns-clause-len : goal.returns-clause-len
returns-clause-len c =
    let inside = c.self.inside in
    omega (arith, length-parts inside.numbers.items 0 inside.ends, ap length c.self.view_is, c.len.ensures.len)
