use Rattle.wal_outside.specs.Views.{StoreView}
use Rattle.dfa_reading.proofs.SystemHeaders.{language_files_list_languages}
use Rattle.system_files.specs.TextViews.{found_view}
use Rattle.system_files.specs.SystemLoading.{FailsFiles}
use Rattle.system_files.specs.Taking.{IsTakenLanguage}
use Rattle.system_files.proofs.LoadSteps.{handed_on}
use Rattle.system_files.proofs.LanguageSteps.{takes_no_language, lists_none, lists_language}
use Rattle.system_files.proofs.taking.take_language.Goals as goal

pub returns-in_err-place-clause-loads : goal.returns-in_err-place-clause-loads
returns-in_err-place-clause-loads g c =
    let direction = c.args.user.now.direction in
    let part = c.args.user.now.part.now in
    let old : StoreView = g.T.Store.view c.args.store.now in
    let new : StoreView = g.T.Store.view c.take.new.store in
    handed_on (IsTakenLanguage direction part) (λ custom fault. FailsFiles custom direction part fault) c.args.texts.now c.take.new.texts old new c.in_err-place.field-0.0 c.from_residual.result c.from_residual.ensures.1
    (takes_no_language direction part c.args.texts.now c.take.new.texts old new c.in_err-place.field-0.0 c.in_err-place.ensures.loads)

pub returns-in_err-language-clause-loads : goal.returns-in_err-language-clause-loads
returns-in_err-language-clause-loads g c =
    let direction = c.args.user.now.direction in
    let part = c.args.user.now.part.now in
    let old : StoreView = g.T.Store.view c.args.store.now in
    let new : StoreView = g.T.Store.view c.take.new.store in
    handed_on (IsTakenLanguage direction part) (λ custom fault. FailsFiles custom direction part fault) c.args.texts.now c.take.new.texts old new c.in_err-language.field-0.0 c.from_residual-in_err-language.result c.from_residual-in_err-language.ensures.1
    (lists_none direction part c.args.texts.now c.take.new.texts old new c.in_ok-place.field-0 (found_view c.at-found.result.now) c.at-found.ensures c.in_ok-place.ensures.loads c.in_err-language.field-0.0 c.in_err-language.ensures)

pub returns-clause-loads : goal.returns-clause-loads
returns-clause-loads g c =
    lists_language c.args.user.now.direction c.args.user.now.part.now c.args.texts.now c.take.new.texts (g.T.Store.view c.args.store.now) (g.T.Store.view c.take.new.store) c.in_ok-place.field-0 (found_view c.at-found.result.now) c.at-found.ensures
    c.in_ok-place.ensures.loads c.in_ok-name.name c.in_ok-language.language c.in_ok-name.ensures c.in_ok-language.ensures

pub returns-clause-listed : goal.returns-clause-listed
returns-clause-listed g c = language_files_list_languages c.in_ok-language.ensures.text c.in_ok-language.language c.in_ok-language.ensures.lists
