use Rattle.std.proofs.Common.{vec_len}
use Rattle.formula_parse.proofs.making.+under_tildes.Given as goal

abbrev pub decreases-under_tildes : goal.decreases-under_tildes
decreases-under_tildes l = vec_len l.tildes
