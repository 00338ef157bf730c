use Rattle.std.proofs.Common.{◌≡◌, Ok, sym, ap, ◌∙◌, subst}
use Rattle.wal_outside.specs.Views.{StoreView}
use Rattle.system_files.specs.SystemFiles.{SystemFiles, AreFilesOf}
use Rattle.system_files.specs.SystemLoading.{FailsFiles, AreFilesLoaded}
use Rattle.system_files.specs.Looks.{digits_on}
use Rattle.system_files.proofs.LoadSteps.{handed_on}
use Rattle.system_files.proofs.AdderSteps.{are_over_digits, are_loaded, loads_no_language, loads_no_adder, loads_files}
use Rattle.system_files.proofs.loading.load_system.Goals as goal

pub returns-in_err-name : goal.returns-in_err-name
returns-in_err-name g c =
    let direction = c.args.user.now.direction in
    let part = c.args.user.now.part.now in
    let before = c.args.texts.now in
    let old : StoreView = g.T.Store.view c.args.store.now in
    let new : StoreView = g.T.Store.view c.take_language.new.store in
    are_loaded direction part before c.take_language.new.texts old new c.from_residual.result
    (handed_on (λ custom found files. AreFilesOf custom direction part files) (λ custom fault. FailsFiles custom direction part fault) before c.take_language.new.texts old new c.in_err-name.field-0.0 c.from_residual.result c.from_residual.ensures.1
    (loads_no_language direction part before c.take_language.new.texts old new c.in_err-name.field-0.0 c.in_err-name.ensures.loads))

pub returns-in_err-adder-2 : goal.returns-in_err-adder-2
returns-in_err-adder-2 g c =
    let direction = c.args.user.now.direction in
    let part = c.args.user.now.part.now in
    let before = c.args.texts.now in
    let old : StoreView = g.T.Store.view c.args.store.now in
    let mid : StoreView = g.T.Store.view c.take_language.new.store in
    let new : StoreView = g.T.Store.view c.load_part.new.store in
    let taken = c.in_ok-name.field-0 in
    let counted : c.digits_on-digits.result ≡ digits_on taken.language.header = c.digits_on-digits.ensures ∙ ap digits_on c.header.ensures in
    are_loaded direction part before c.load_part.new.texts old new c.from_residual-in_err-adder-2.result
    (handed_on (λ custom found files. AreFilesOf custom direction part files) (λ custom fault. FailsFiles custom direction part fault) before c.load_part.new.texts old new c.in_err-adder-2.field-0.0 c.from_residual-in_err-adder-2.result c.from_residual-in_err-adder-2.ensures.1
    (loads_no_adder direction part before c.take_language.new.texts old mid taken c.digits_on-digits.result counted c.in_ok-name.ensures.listed c.in_ok-name.ensures.loads c.in_ok-adder.adder c.in_ok-adder.ensures c.load_part.new.texts new
    c.in_err-adder-2.field-0.0 c.in_err-adder-2.ensures.loads))

pub new-requires : goal.new-requires
new-requires g c =
    let taken = c.in_ok-name.field-0 in
    let counted : c.digits_on-digits.result ≡ digits_on taken.language.header = c.digits_on-digits.ensures ∙ ap digits_on c.header.ensures in
    are_over_digits c.digits_on-digits.result taken.reversed taken.language c.in_ok-adder-2.adder counted c.in_ok-name.ensures.listed c.in_ok-adder-2.ensures.listed

pub returns : goal.returns
returns g c =
    let direction = c.args.user.now.direction in
    let part = c.args.user.now.part.now in
    let before = c.args.texts.now in
    let old : StoreView = g.T.Store.view c.args.store.now in
    let mid : StoreView = g.T.Store.view c.take_language.new.store in
    let new : StoreView = g.T.Store.view c.load_part.new.store in
    let taken = c.in_ok-name.field-0 in
    let counted : c.digits_on-digits.result ≡ digits_on taken.language.header = c.digits_on-digits.ensures ∙ ap digits_on c.header.ensures in
    let loads = loads_files direction part before c.take_language.new.texts old mid taken c.digits_on-digits.result counted c.in_ok-name.ensures.listed c.in_ok-name.ensures.loads c.in_ok-adder.adder c.in_ok-adder.ensures c.load_part.new.texts new
    c.in_ok-adder-2.adder c.in_ok-adder-2.ensures.loads in
    subst (λ (files : SystemFiles). AreFilesLoaded direction part before old (Ok files) c.load_part.new.texts new) (sym c.new.ensures)
    (are_loaded direction part before c.load_part.new.texts old new (Ok (record { digits = c.digits_on-digits.result; reversed = taken.reversed; language = taken.language; adder = c.in_ok-adder-2.adder })) loads)
