use Rattle.std.proofs.Common.{bytes_eq, ap, ◌∙◌, arith}
use Rattle.std.proofs.lemmas.List.{take_all}
use Rattle.formula_resolve.specs.FirstMentions.{mentioned_systems, first_systems}
use Rattle.formula_resolve.proofs.FirstLemmas.{once_then}
use Rattle.formula_resolve.proofs.first_mentions.first_systems.Goals as goal

pub loop-mention-preserved : goal.loop-mention-preserved
loop-mention-preserved c =
    once_then bytes_eq (mentioned_systems c.args.headers.now) c.args.mentions.now c.loop-mention.mention-index c.mention-item.result c.loop-mention.firsts c.in_ok-firsts.firsts
    (omega (arith, c.loop-mention-test.true)) c.mention-item.is c.loop-mention.invariant c.in_ok-firsts.ensures

pub returns : goal.returns
returns c = c.into_names.ensures ∙ c.loop-mention.invariant ∙ ap (first_systems c.args.headers.now) (take_all c.loop-mention.mention-index c.args.mentions.now c.loop-mention-test.false)
