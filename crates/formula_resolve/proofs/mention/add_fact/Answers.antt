use Rattle.std.proofs.Common.{ap, sym, ◌∙◌, ◌∷◌, ◌++◌, []}
use Rattle.formula_parse.specs.Views.{fact_view}
use Rattle.formula_resolve.specs.Mentions.{fact_mentions}
use Rattle.formula_resolve.specs.declared.mention.Mention.TheVariants.{Called}
use Rattle.formula_resolve.proofs.ListLemmas.{count_vec}
use Rattle.formula_resolve.proofs.mention.add_fact.Goals as goal

pub returns-in_ok-push-in-Call : goal.returns-in_ok-push-in-Call
returns-in_ok-push-in-Call c =
    c.in_ok-push-in-Call.ensures.items
    ∙ (λ i. c.args.found.now.items ++ Called (c.in_ok-copy-in-Call.ensures i) ((c.len.ensures ∙ sym (count_vec c.in-Call.arguments)) i) ∷ [])
    ∙ sym (ap (λ f. c.args.found.now.items ++ fact_mentions (fact_view f)) c.in-Call.is)
