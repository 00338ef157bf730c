use Rattle.std.proofs.Common.{arith}
use Rattle.digit_tuple.proofs.NameLemmas.{place_of-contained}
use Rattle.digit_tuple.proofs.names.place_in.Goals as goal

pub overflow_cast-result : goal.overflow_cast-result
overflow_cast-result c =
    let spot = place_of-contained c.args.names.now c.args.name.now c.requires.there in
    omega (arith, c.in-Some.ensures.place, spot.0, c.requires.few)
