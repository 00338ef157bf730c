use Rattle.std.proofs.Common.{vec_len}
use Rattle.formula_parse.proofs.closings.+close.Given as goal

abbrev pub decreases-close : goal.decreases-close
decreases-close l = vec_len l.around.frames
