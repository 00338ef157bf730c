use Rattle.std.proofs.Common.{◌≡◌, Bool}
use Rattle.wal_outside.specs.Views.{StoreView}
use Rattle.system_files.specs.SystemFiles.{is_reversed}
use Rattle.system_files.specs.SystemLoading.{FailsFiles}
use Rattle.system_files.specs.Taking.{IsTaken}
use Rattle.system_files.proofs.LoadSteps.{fails_so, handed_on, loads_so}
use Rattle.system_files.proofs.reading.find_language.Goals as goal

pub returns-in_err-taken : goal.returns-in_err-taken
returns-in_err-taken g c =
    let direction = c.args.user.now.direction in
    let part = c.args.user.now.part.now in
    let old : StoreView = g.T.Store.view c.args.store.now in
    let new : StoreView = g.T.Store.view c.take.new.store in
    let fault = c.in_err-taken.field-0.0 in
    handed_on (λ custom found (reversed : Bool). reversed ≡ is_reversed custom direction part) (λ custom fault. FailsFiles custom direction part fault) c.args.texts.now c.take.new.texts old new fault c.from_residual.result c.from_residual.ensures.1
    (fails_so (IsTaken direction part) (λ custom fault. FailsFiles custom direction part fault) (λ custom found (reversed : Bool). reversed ≡ is_reversed custom direction part) (λ custom fault. FailsFiles custom direction part fault)
    c.args.texts.now c.take.new.texts old new fault c.in_err-taken.ensures.loads (λ custom agrees fails. fails))

pub returns : goal.returns
returns g c =
    let direction = c.args.user.now.direction in
    let part = c.args.user.now.part.now in
    let old : StoreView = g.T.Store.view c.args.store.now in
    let new : StoreView = g.T.Store.view c.take.new.store in
    let taken = c.in_ok-taken.taken in
    loads_so (IsTaken direction part) (λ custom fault. FailsFiles custom direction part fault) (λ custom found (reversed : Bool). reversed ≡ is_reversed custom direction part) (λ custom fault. FailsFiles custom direction part fault)
    c.args.texts.now c.take.new.texts old new taken taken.reversed c.in_ok-taken.ensures.loads (λ custom agrees is. is.reversed)
