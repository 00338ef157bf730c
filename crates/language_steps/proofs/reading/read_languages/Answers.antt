use Rattle.std.proofs.Common.{◌≡◌, ◌+◌, ◌++◌, List, [], ◌∷◌, inr, sym, ap, ◌∙◌, subst, arith}
use Rattle.std.proofs.lemmas.Result.{err_from_is_err_and}
use Rattle.language_steps.specs.LanguageSteps.{named_language}
use Rattle.language_steps.specs.declared.reading.NamedLanguage.{NamedLanguage}
use Rattle.language_steps.proofs.Readings.{AreReadSoFar, all_read, none_read, read_more, read_refused}
use Rattle.language_steps.proofs.reading.read_languages.Goals as goal

pub loop-table-init : goal.loop-table-init
loop-table-init c = subst (λ (ls : List NamedLanguage). AreReadSoFar c.args.tables.now 0 c.args.steps.now ls c.args.steps.now) (sym c.new-languages.ensures.items) (none_read c.args.tables.now c.args.steps.now)

pub returns-in_err-language : goal.returns-in_err-language
returns-in_err-language c =
    let p = err_from_is_err_and c.from_residual.result c.from_residual.ensures.1 in
    let table = c.table-item.result in
    rw (p.1, p.2) (inr (read_refused c.args.tables.now c.args.steps.now c.loop-table.table-index table c.loop-table-test.true c.table-item.is c.loop-table.languages.items c.loop-table.steps c.loop-table.invariant
    c.in_err-language.field-0.0 c.read_language.new.steps c.in_err-language.ensures))

pub loop-table-preserved : goal.loop-table-preserved
loop-table-preserved c =
    let table = c.table-item.result in
    let d = c.in_ok-language.language in
    let before = c.loop-table.languages.items in
    let one : c.in_ok-named.field-0 ≡ named_language table d = c.in_ok-named.ensures ∙ (λ i. record { name = c.name.ensures i; language = d }) in
    let items : c.push.new.self.items ≡ before ++ named_language table d ∷ [] = c.in_ok-push.ensures.items ∙ ap (λ (l : NamedLanguage). before ++ l ∷ []) one in
    subst (λ (ls : List NamedLanguage). AreReadSoFar c.args.tables.now (c.loop-table.table-index + 1) c.args.steps.now ls c.read_language.new.steps) (sym items)
    (read_more c.args.tables.now c.args.steps.now c.loop-table.table-index table c.loop-table-test.true c.table-item.is before c.loop-table.steps c.loop-table.invariant d c.read_language.new.steps c.in_ok-language.ensures)

pub returns : goal.returns
returns c = all_read c.args.tables.now c.args.steps.now c.loop-table.table-index c.loop-table.languages.items c.loop-table.steps (omega (arith, c.loop-table-test.false)) c.loop-table.invariant
