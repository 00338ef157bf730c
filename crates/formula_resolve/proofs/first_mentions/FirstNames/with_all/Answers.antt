use Rattle.std.proofs.Common.{bytes_eq, fold, take, sym, ap, ◌∙◌, arith}
use Rattle.std.proofs.lemmas.List.{take_all}
use Rattle.std.proofs.lemmas.List.Sums.{fold_more}
use Rattle.formula_resolve.specs.FirstMentions.{with_new}
use Rattle.formula_resolve.proofs.first_mentions.FirstNames.with_all.Goals as goal

pub loop-name-preserved : goal.loop-name-preserved
loop-name-preserved c =
    let names = c.args.names.now in
    let i = c.loop-name.name-index in
    let name = c.name-item.result in
    c.in_ok-firsts.ensures ∙ ap (λ ns. with_new bytes_eq ns name) c.loop-name.invariant ∙ ap (with_new bytes_eq (fold (with_new bytes_eq) c.args.self (take i names))) c.name-item.is
    ∙ sym (fold_more (with_new bytes_eq) c.args.self names i name (omega (arith, c.loop-name-test.true)))

pub returns : goal.returns
returns c = c.loop-name.invariant ∙ ap (fold (with_new bytes_eq) c.args.self) (take_all c.loop-name.name-index c.args.names.now c.loop-name-test.false)
