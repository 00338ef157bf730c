use Rattle.std.proofs.Common.{◌≡◌, ap, sym, subst, ◌∙◌, ◌++◌, take, OnOk, arith}
use Rattle.std.proofs.lemmas.List.{take_all, append-nil}
use Rattle.formula_parse.specs.Trees as trees
use Rattle.formula_parse.specs.Views.{formula_view, operands_view, names_view, quantifier_view}
use Rattle.formula_parse.proofs.ViewSteps.{view_atom, view_negated, view_chain, view_quantified, view_marked}
use Rattle.formula_resolve.specs.Mentions.{mentions, mentions_among, marks}
use Rattle.formula_resolve.proofs.ListLemmas.{added_twice, added_then}
use Rattle.formula_resolve.proofs.WalkLemmas.{operand_more}
use Rattle.formula_resolve.proofs.mention.+add_mentions.Goals as goal

pub returns-in-Atom : goal.returns-in-Atom
returns-in-Atom t c =
    subst (λ (s : trees.Formula). OnOk c.add_fact.result (c.add_fact.new.found.items ≡ c.args.found.now.items ++ mentions s))
    (sym (ap formula_view c.in-Atom.is ∙ view_atom c.in-Atom.atom)) c.add_fact.ensures

pub returns-in-Negated : goal.returns-in-Negated
returns-in-Negated t c =
    subst (λ (s : trees.Formula). OnOk c.add_mentions.result (c.add_mentions.new.found.items ≡ c.args.found.now.items ++ mentions s))
    (sym (ap formula_view c.in-Negated.is ∙ view_negated c.in-Negated.inside ∙ ap (λ f. trees.negated (formula_view f)) (sym c.deref.ensures))) c.add_mentions.ensures

pub returns-after-loop-operand : goal.returns-after-loop-operand
returns-after-loop-operand t c =
    subst (λ (s : trees.Formula). OnOk c.add_mentions-in-Chain.result (c.add_mentions-in-Chain.new.found.items ≡ c.args.found.now.items ++ mentions s))
    (sym (ap formula_view c.in-Chain.is ∙ view_chain c.in-Chain.operands c.in-Chain.last ∙ ap (λ f. trees.chain (operands_view c.in-Chain.operands.items) (formula_view f)) (sym c.deref-in-Chain.ensures)))
    (added_twice c.add_mentions-in-Chain.result c.args.found.now.items c.loop-operand.found.items c.add_mentions-in-Chain.new.found.items (mentions_among (operands_view c.in-Chain.operands.items)) (mentions (formula_view c.deref-in-Chain.result.now))
    (c.loop-operand.invariant ∙ ap (λ os. c.args.found.now.items ++ mentions_among (operands_view os)) (take_all c.loop-operand.operand-index c.deref-operand-items.result.now c.loop-operand-test.false ∙ c.deref-operand-items.ensures.value))
    c.add_mentions-in-Chain.ensures)

pub returns-in-Quantified : goal.returns-in-Quantified
returns-in-Quantified t c =
    subst (λ (s : trees.Formula). OnOk c.add_mentions-in-Quantified.result (c.add_mentions-in-Quantified.new.found.items ≡ c.args.found.now.items ++ mentions s))
    (sym (ap formula_view c.in-Quantified.is ∙ view_quantified c.in-Quantified.field-0 c.in-Quantified.field-1 c.in-Quantified.inside ∙ ap (λ f. trees.quantified (quantifier_view c.in-Quantified.field-0) (names_view c.in-Quantified.field-1.items) (formula_view f)) (sym c.deref-in-Quantified.ensures)))
    c.add_mentions-in-Quantified.ensures

pub returns-in_ok-add_marks-in-Marked : goal.returns-in_ok-add_marks-in-Marked
returns-in_ok-add_marks-in-Marked t c =
    subst (λ (s : trees.Formula). OnOk c.add_mentions-in-Marked.result (c.add_mentions-in-Marked.new.found.items ≡ c.args.found.now.items ++ mentions s))
    (sym (ap formula_view c.in-Marked.is ∙ view_marked c.in-Marked.systems c.in-Marked.inside ∙ ap (λ f. trees.marked (names_view c.in-Marked.systems.items) (formula_view f)) (sym c.deref-in-Marked-2.ensures)))
    (added_twice c.add_mentions-in-Marked.result c.args.found.now.items c.add_marks.new.found.items c.add_mentions-in-Marked.new.found.items (marks (names_view c.in-Marked.systems.items)) (mentions (formula_view c.deref-in-Marked-2.result.now))
    (c.in_ok-add_marks-in-Marked.ensures ∙ ap (λ ms. c.args.found.now.items ++ marks (names_view ms)) c.deref-in-Marked.ensures.value)
    c.add_mentions-in-Marked.ensures)

pub loop-operand-init : goal.loop-operand-init
loop-operand-init t c = sym (append-nil c.args.found.now.items)

pub loop-operand-preserved : goal.loop-operand-preserved
loop-operand-preserved t c =
    let os = c.deref-operand-items.result.now in
    let i = c.loop-operand.operand-index in
    added_then c.args.found.now.items c.loop-operand.found.items c.add_mentions-in-loop-operand.new.found.items (mentions_among (operands_view (take i os))) (mentions (formula_view c.operand-item.result.formula))
    c.loop-operand.invariant c.in_ok-add_mentions-in-Chain.ensures
    ∙ ap (λ v. c.args.found.now.items ++ mentions_among v) (sym (operand_more os i c.operand-item.result (omega (arith, c.loop-operand-test.true)) c.operand-item.is))
