use Rattle.std.proofs.Common.{◌≡◌, Bool}
use Rattle.std.specs.Prelude.{⊤}
use Rattle.dfa_loading.specs.declared.fault.LoadFault.TheVariants.{Memory}
use Rattle.wal_outside.specs.Views.{StoreView}
use Rattle.system_names.specs.UserNames.{adder_name}
use Rattle.system_files.specs.Looks.{FailsLook}
use Rattle.system_files.specs.SystemFiles.{is_reversed}
use Rattle.system_files.specs.SystemLoading.{FailsFiles}
use Rattle.system_files.proofs.LoadSteps.{fails_both, handed_on, loads_both, refused_so}
use Rattle.system_admission.proofs.ReadPairs.{adder_fails, has_language}
use Rattle.system_admission.proofs.pair.read_pair.Goals as goal

pub returns-in_err-reversed : goal.returns-in_err-reversed
returns-in_err-reversed g c =
    let direction = c.args.user.now.direction in
    let part = c.args.user.now.part.now in
    let old : StoreView = g.T.Store.view c.args.store.now in
    let new : StoreView = g.T.Store.view c.find_language.new.store in
    handed_on (λ custom found (reversed : Bool). reversed ≡ is_reversed custom direction part) (λ custom fault. FailsFiles custom direction part fault) c.args.texts.now c.find_language.new.texts old new c.in_err-reversed.field-0.0 c.from_residual.result c.from_residual.ensures.1
    c.in_err-reversed.ensures

pub returns-in_err-language : goal.returns-in_err-language
returns-in_err-language g c =
    let direction = c.args.user.now.direction in
    let part = c.args.user.now.part.now in
    let old : StoreView = g.T.Store.view c.args.store.now in
    let new : StoreView = g.T.Store.view c.find_language.new.store in
    handed_on (λ custom found (reversed : Bool). reversed ≡ is_reversed custom direction part) (λ custom fault. FailsFiles custom direction part fault) c.args.texts.now c.find_language.new.texts old new Memory c.from_residual-in_err-language.result c.from_residual-in_err-language.ensures.1
    (refused_so (λ custom found (reversed : Bool). reversed ≡ is_reversed custom direction part) (λ custom fault. FailsFiles custom direction part fault) (λ custom found (reversed : Bool). reversed ≡ is_reversed custom direction part) (λ custom fault. FailsFiles custom direction part fault)
    c.args.texts.now c.find_language.new.texts old new c.in_ok-reversed.reversed Memory tt c.in_ok-reversed.ensures (λ custom agrees is. tt))

pub returns-in_err-find_adder : goal.returns-in_err-find_adder
returns-in_err-find_adder g c =
    let direction = c.args.user.now.direction in
    let part = c.args.user.now.part.now in
    let old : StoreView = g.T.Store.view c.args.store.now in
    let mid : StoreView = g.T.Store.view c.find_language.new.store in
    let new : StoreView = g.T.Store.view c.find_adder.new.store in
    let name = c.in_ok-language.language in
    let fault = c.in_err-find_adder.field-0.0 in
    let kept = c.is_kept_language.ensures c.if-not-is_kept_language.false in
    handed_on (λ custom found (reversed : Bool). reversed ≡ is_reversed custom direction part) (λ custom fault. FailsFiles custom direction part fault) c.args.texts.now c.find_adder.new.texts old new fault c.from_residual-in_err-find_adder.result
    c.from_residual-in_err-find_adder.ensures.1
    (fails_both (λ custom found (reversed : Bool). reversed ≡ is_reversed custom direction part) (λ custom fault. FailsFiles custom direction part fault) (λ custom found (read : Unit {0}). ⊤) (λ custom fault. FailsLook (adder_name name) fault)
    (λ custom found (reversed : Bool). reversed ≡ is_reversed custom direction part) (λ custom fault. FailsFiles custom direction part fault) c.args.texts.now c.find_language.new.texts c.find_adder.new.texts old mid new c.in_ok-reversed.reversed c.in_ok-reversed.ensures fault
    c.in_err-find_adder.ensures
    (λ custom agrees reversed fails.
    let taken = c.in_ok-language.ensures custom reversed in
    let has = has_language custom direction part name taken c.find_language.new.texts agrees kept in
    adder_fails custom direction part name taken has.0 has.1 fault fails))

pub returns : goal.returns
returns g c =
    let direction = c.args.user.now.direction in
    let part = c.args.user.now.part.now in
    let old : StoreView = g.T.Store.view c.args.store.now in
    let mid : StoreView = g.T.Store.view c.find_language.new.store in
    let new : StoreView = g.T.Store.view c.find_adder.new.store in
    let name = c.in_ok-language.language in
    loads_both (λ custom found (reversed : Bool). reversed ≡ is_reversed custom direction part) (λ custom fault. FailsFiles custom direction part fault) (λ custom found (read : Unit {0}). ⊤) (λ custom fault. FailsLook (adder_name name) fault)
    (λ custom found (reversed : Bool). reversed ≡ is_reversed custom direction part) (λ custom fault. FailsFiles custom direction part fault) c.args.texts.now c.find_language.new.texts c.find_adder.new.texts old mid new c.in_ok-reversed.reversed c.in_ok-reversed.ensures tt
    c.in_ok-reversed.reversed c.in_ok-find_adder.ensures (λ custom earlier agrees reversed read. reversed)
