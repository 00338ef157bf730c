use Rattle.std.proofs.Common.{List, ℕ, subst}
use Rattle.std.specs.Prelude.{⊤}
use Rattle.wal_outside.specs.Views.{StoreView}
use Rattle.system_names.specs.UserNames.{adder_name}
use Rattle.system_files.specs.Looks.{IsAt, FailsLook}
use Rattle.system_files.proofs.LoadSteps.{fails_so, handed_on, loads_so}
use Rattle.system_files.proofs.reading.find_adder.Goals as goal

pub returns-in_err-look : goal.returns-in_err-look
returns-in_err-look g c =
    let name = c.in_ok-name.name in
    let fault = c.in_err-look.field-0.0 in
    let old : StoreView = g.T.Store.view c.args.store.now in
    let new : StoreView = g.T.Store.view c.look.new.store in
    handed_on (λ custom found (read : Unit {0}). ⊤) (λ custom fault. FailsLook (adder_name c.args.language.now) fault) c.args.texts.now c.look.new.texts old new fault c.from_residual-in_err-look.result c.from_residual-in_err-look.ensures.1
    (fails_so (λ custom found place. IsAt found name place) (λ custom fault. FailsLook name fault) (λ custom found (read : Unit {0}). ⊤) (λ custom fault. FailsLook (adder_name c.args.language.now) fault)
    c.args.texts.now c.look.new.texts old new fault c.in_err-look.ensures.loads (λ custom agrees fails. subst (λ (n : List ℕ). FailsLook n fault) c.in_ok-name.ensures fails))

pub returns : goal.returns
returns g c =
    let name = c.in_ok-name.name in
    let old : StoreView = g.T.Store.view c.args.store.now in
    let new : StoreView = g.T.Store.view c.look.new.store in
    loads_so (λ custom found place. IsAt found name place) (λ custom fault. FailsLook name fault) (λ custom found (read : Unit {0}). ⊤) (λ custom fault. FailsLook (adder_name c.args.language.now) fault)
    c.args.texts.now c.look.new.texts old new c.in_ok-look.field-0 tt c.in_ok-look.ensures.loads (λ custom agrees at. tt)
