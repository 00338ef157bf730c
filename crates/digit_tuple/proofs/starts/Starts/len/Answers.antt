use Rattle.std.proofs.Common.{length, ap, arith}
use Rattle.digit_tuple.proofs.StartLemmas.{length-places_from}
use Rattle.digit_tuple.proofs.starts.Starts.len.Goals as goal

pub returns : goal.returns
returns c = omega (arith, c.len.ensures, length-places_from 0 c.self.inside.offsets.items c.self.inside.bases.items, ap length c.self.view_is)
