-- The table of an expression's letters accepts its matches.
use Rattle.regex_build.proofs.Accepting.{accepts_the_matches}
use Rattle.regex_build.proofs.position_table.positions_accept_the_matches.Goals as goal

pub returns : goal.returns
returns c = accepts_the_matches
