use Rattle.std.proofs.Common.{◌≡◌, false, sym, ap, ◌∙◌}
use Rattle.std.proofs.lemmas.Option.{slice_get_within}
use Rattle.wal_outside.specs.Views.{StoreView}
use Rattle.dfa_loading.specs.declared.fault.LoadFault.TheVariants.{Memory}
use Rattle.digit_tuple.specs.declared.direction.Direction.{Direction}
use Rattle.system_names.specs.UserNames.{user_name, opposite}
use Rattle.system_files.specs.TextViews.{found_view}
use Rattle.system_files.specs.SystemLoading.{FailsFiles}
use Rattle.system_files.specs.Looks.{is_text}
use Rattle.system_files.specs.Taking.{IsTaken}
use Rattle.system_files.proofs.LoadSteps.{handed_on}
use Rattle.system_files.proofs.TakingSteps.{fails_first, takes_first, fails_second, looks_twice, takes_second, takes_none, takes_no_memory}
use Rattle.system_files.proofs.taking.take.Goals as goal

pub returns-in_err-place-clause-loads : goal.returns-in_err-place-clause-loads
returns-in_err-place-clause-loads g c =
    let direction = c.args.user.now.direction in
    let part = c.args.user.now.part.now in
    let old : StoreView = g.T.Store.view c.args.store.now in
    let new : StoreView = g.T.Store.view c.look.new.store in
    handed_on (IsTaken direction part) (λ custom fault. FailsFiles custom direction part fault) c.args.texts.now c.look.new.texts old new c.in_err-place.field-0.0 c.from_residual-in_err-place.result c.from_residual-in_err-place.ensures.1
    (fails_first direction part c.in_ok-name.field-0 c.args.texts.now c.look.new.texts old new c.in_err-place.field-0.0 c.in_ok-name.ensures c.in_err-place.ensures.loads)

pub at-requires : goal.at-requires
at-requires g c = slice_get_within c.look.new.texts c.in_ok-place.place _ c.in_ok-place.ensures.at.there

pub returns-then-is_there-clause-at : goal.returns-then-is_there-clause-at
returns-then-is_there-clause-at g c = slice_get_within c.look.new.texts c.in_ok-place.place _ c.in_ok-place.ensures.at.there

pub returns-then-is_there-clause-loads : goal.returns-then-is_there-clause-loads
returns-then-is_there-clause-loads g c =
    takes_first c.args.user.now.direction c.args.user.now.part.now c.in_ok-name.field-0 c.args.texts.now c.look.new.texts (g.T.Store.view c.args.store.now) (g.T.Store.view c.look.new.store) c.in_ok-place.place (found_view c.at.result.now) c.in_ok-name.ensures
    c.at.ensures (sym c.is_there.ensures ∙ c.if-is_there.true) c.in_ok-place.ensures.loads

pub returns-in_err-place-2-clause-loads : goal.returns-in_err-place-2-clause-loads
returns-in_err-place-2-clause-loads g c =
    let direction = c.args.user.now.direction in
    let part = c.args.user.now.part.now in
    let old : StoreView = g.T.Store.view c.args.store.now in
    let mid : StoreView = g.T.Store.view c.look.new.store in
    let new : StoreView = g.T.Store.view c.look-2.new.store in
    let also : c.in_ok-name-2.field-0 ≡ user_name (opposite direction) part = c.in_ok-name-2.ensures ∙ ap (λ (d : Direction). user_name d c.opposite.result.part.now) c.opposite.ensures.direction ∙ ap (user_name (opposite direction)) c.opposite.ensures.part in
    let none : is_text (found_view c.at.result.now).finding ≡ false = sym c.is_there.ensures ∙ c.if-is_there.false in
    handed_on (IsTaken direction part) (λ custom fault. FailsFiles custom direction part fault) c.args.texts.now c.look-2.new.texts old new c.in_err-place-2.field-0.0 c.from_residual-in_err-place-2.result c.from_residual-in_err-place-2.ensures.1
    (fails_second direction part c.in_ok-name.field-0 c.in_ok-name-2.field-0 c.args.texts.now c.look.new.texts c.look-2.new.texts old mid new c.in_ok-place.place (found_view c.at.result.now) c.in_ok-name.ensures also c.at.ensures none
    c.in_ok-place.ensures.loads c.in_err-place-2.field-0.0 c.in_err-place-2.ensures.loads)

pub at-requires-2 : goal.at-requires-2
at-requires-2 g c = slice_get_within c.look-2.new.texts c.in_ok-place-2.place _ c.in_ok-place-2.ensures.at.there

pub returns-then-is_there-2-clause-at : goal.returns-then-is_there-2-clause-at
returns-then-is_there-2-clause-at g c = slice_get_within c.look-2.new.texts c.in_ok-place-2.place _ c.in_ok-place-2.ensures.at.there

pub returns-then-is_there-2-clause-loads : goal.returns-then-is_there-2-clause-loads
returns-then-is_there-2-clause-loads g c =
    let direction = c.args.user.now.direction in
    let part = c.args.user.now.part.now in
    let old : StoreView = g.T.Store.view c.args.store.now in
    let mid : StoreView = g.T.Store.view c.look.new.store in
    let new : StoreView = g.T.Store.view c.look-2.new.store in
    let also : c.in_ok-name-2.field-0 ≡ user_name (opposite direction) part = c.in_ok-name-2.ensures ∙ ap (λ (d : Direction). user_name d c.opposite.result.part.now) c.opposite.ensures.direction ∙ ap (user_name (opposite direction)) c.opposite.ensures.part in
    let none : is_text (found_view c.at.result.now).finding ≡ false = sym c.is_there.ensures ∙ c.if-is_there.false in
    let looks = looks_twice direction part c.in_ok-name.field-0 c.in_ok-name-2.field-0 c.args.texts.now c.look.new.texts c.look-2.new.texts old mid new c.in_ok-place.place (found_view c.at.result.now) c.in_ok-name.ensures also c.at.ensures none
    c.in_ok-place.ensures.loads c.in_ok-place-2.place c.in_ok-place-2.ensures.loads in
    takes_second direction part c.args.texts.now c.look-2.new.texts old new c.in_ok-place-2.place (found_view c.at-2.result.now) c.at-2.ensures looks (sym c.is_there-2.ensures ∙ c.if-is_there-2.true)

pub returns-in_err-name-3-clause-loads : goal.returns-in_err-name-3-clause-loads
returns-in_err-name-3-clause-loads g c =
    let direction = c.args.user.now.direction in
    let part = c.args.user.now.part.now in
    let old : StoreView = g.T.Store.view c.args.store.now in
    let mid : StoreView = g.T.Store.view c.look.new.store in
    let new : StoreView = g.T.Store.view c.look-2.new.store in
    let also : c.in_ok-name-2.field-0 ≡ user_name (opposite direction) part = c.in_ok-name-2.ensures ∙ ap (λ (d : Direction). user_name d c.opposite.result.part.now) c.opposite.ensures.direction ∙ ap (user_name (opposite direction)) c.opposite.ensures.part in
    let none : is_text (found_view c.at.result.now).finding ≡ false = sym c.is_there.ensures ∙ c.if-is_there.false in
    let looks = looks_twice direction part c.in_ok-name.field-0 c.in_ok-name-2.field-0 c.args.texts.now c.look.new.texts c.look-2.new.texts old mid new c.in_ok-place.place (found_view c.at.result.now) c.in_ok-name.ensures also c.at.ensures none
    c.in_ok-place.ensures.loads c.in_ok-place-2.place c.in_ok-place-2.ensures.loads in
    handed_on (IsTaken direction part) (λ custom fault. FailsFiles custom direction part fault) c.args.texts.now c.look-2.new.texts old new Memory c.from_residual-in_err-name-3.result c.from_residual-in_err-name-3.ensures.1
    (takes_no_memory direction part c.args.texts.now c.look-2.new.texts old new c.in_ok-place-2.place (found_view c.at-2.result.now) c.at-2.ensures looks)

pub returns-clause-loads : goal.returns-clause-loads
returns-clause-loads g c =
    let direction = c.args.user.now.direction in
    let part = c.args.user.now.part.now in
    let old : StoreView = g.T.Store.view c.args.store.now in
    let mid : StoreView = g.T.Store.view c.look.new.store in
    let new : StoreView = g.T.Store.view c.look-2.new.store in
    let also : c.in_ok-name-2.field-0 ≡ user_name (opposite direction) part = c.in_ok-name-2.ensures ∙ ap (λ (d : Direction). user_name d c.opposite.result.part.now) c.opposite.ensures.direction ∙ ap (user_name (opposite direction)) c.opposite.ensures.part in
    let none : is_text (found_view c.at.result.now).finding ≡ false = sym c.is_there.ensures ∙ c.if-is_there.false in
    let looks = looks_twice direction part c.in_ok-name.field-0 c.in_ok-name-2.field-0 c.args.texts.now c.look.new.texts c.look-2.new.texts old mid new c.in_ok-place.place (found_view c.at.result.now) c.in_ok-name.ensures also c.at.ensures none
    c.in_ok-place.ensures.loads c.in_ok-place-2.place c.in_ok-place-2.ensures.loads in
    takes_none direction part c.args.texts.now c.look-2.new.texts old new c.in_ok-place-2.place (found_view c.at-2.result.now) c.at-2.ensures looks c.in_ok-name-3.field-0 c.in_ok-name-3.ensures (sym c.is_there-2.ensures ∙ c.if-is_there-2.false)
