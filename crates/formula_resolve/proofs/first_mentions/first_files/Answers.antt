use Rattle.std.proofs.Common.{ap, ◌∙◌, arith}
use Rattle.std.proofs.lemmas.List.{take_all}
use Rattle.formula_resolve.specs.FirstMentions.{is_same_file, mentioned_files, first_files}
use Rattle.formula_resolve.proofs.FirstLemmas.{once_then}
use Rattle.formula_resolve.proofs.first_mentions.first_files.Goals as goal

pub loop-mention-preserved : goal.loop-mention-preserved
loop-mention-preserved c =
    once_then is_same_file mentioned_files c.args.mentions.now c.loop-mention.mention-index c.mention-item.result c.loop-mention.firsts c.in_ok-firsts.firsts
    (omega (arith, c.loop-mention-test.true)) c.mention-item.is c.loop-mention.invariant c.in_ok-firsts.ensures

pub returns : goal.returns
returns c = c.into_files.ensures ∙ c.loop-mention.invariant ∙ ap first_files (take_all c.loop-mention.mention-index c.args.mentions.now c.loop-mention-test.false)
