use Rattle.morph_words.proofs.PrintedRules.{printed_derives}
use Rattle.morph_words.proofs.laws.printed_derives.Goals as goal

pub returns : goal.returns
returns c = printed_derives
