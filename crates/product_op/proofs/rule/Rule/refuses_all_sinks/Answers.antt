use Rattle.std.proofs.Common.{sym, ap, ◌∙◌}
use Rattle.std.proofs.lemmas.Bool.Decides.{Decides-ltb}
use Rattle.product_op.specs.SinkKeys.{refuses_all_sinks}
use Rattle.product_op.proofs.RuleLemmas.{refuses-both_more, refuses-not_first}
use Rattle.product_op.proofs.rule.Rule.refuses_all_sinks.Goals as goal

pub returns-then-count-gt2 : goal.returns-then-count-gt2
returns-then-count-gt2 c =
    (Decides-ltb 2 c.args.count).1 c.if-count-gt2.true ∙ sym (refuses-both_more c.in-Both.op c.args.count c.if-count-gt2.true) ∙ ap (λ r. refuses_all_sinks r c.args.count) (sym c.in-Both.is)

pub returns-in-NotFirst : goal.returns-in-NotFirst
returns-in-NotFirst c = refuses-not_first c.args.count ∙ ap (λ r. refuses_all_sinks r c.args.count) (sym c.in-NotFirst.is)
