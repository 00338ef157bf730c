-- Parsing has one answer.
use Rattle.regex_build.proofs.OneParse.{one_parse}
use Rattle.regex_build.proofs.parsing.one_answer.Goals as goal

pub returns : goal.returns
returns c = one_parse
