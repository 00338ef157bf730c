use Rattle.std.proofs.Common.{sym, ◌∙◌}
use Rattle.formula_resolve.specs.declared.mention.Mention.TheVariants.{Indexed}
use Rattle.formula_resolve.proofs.ListLemmas.{count_vec}
use Rattle.formula_resolve.proofs.mention.mention_of.Goals as goal

pub returns : goal.returns
returns c = λ i. Indexed (c.in_ok-copy.ensures i) ((c.len.ensures ∙ sym (count_vec c.args.index.now.places)) i)
