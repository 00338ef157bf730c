use Rattle.std.proofs.lemmas.Option.{slice_get_within}
use Rattle.wal_outside.specs.Views.{StoreView}
use Rattle.system_files.specs.TextViews.{found_view}
use Rattle.system_files.specs.Looks.{IsAt, FailsLook, IsPartAt, FailsPart}
use Rattle.system_files.proofs.FoundLemmas.{listed_here, listed_so, look_fails}
use Rattle.system_files.proofs.LoadSteps.{fails_so, handed_on}
use Rattle.system_files.proofs.looking.load_part.Goals as goal

pub returns-in_err-place-clause-loads : goal.returns-in_err-place-clause-loads
returns-in_err-place-clause-loads g c =
    let old : StoreView = g.T.Store.view c.args.store.now in
    let new : StoreView = g.T.Store.view c.look.new.store in
    let part = c.args.part in
    let name = c.args.name in
    handed_on (λ custom found listed. IsPartAt part custom name listed) (λ custom fault. FailsPart part custom name fault) c.args.texts.now c.look.new.texts old new c.in_err-place.field-0.0 c.from_residual.result c.from_residual.ensures.1
    (fails_so (λ custom found place. IsAt found name place) (λ custom fault. FailsLook name fault) (λ custom found listed. IsPartAt part custom name listed) (λ custom fault. FailsPart part custom name fault)
    c.args.texts.now c.look.new.texts old new c.in_err-place.field-0.0 c.in_err-place.ensures.loads (λ custom agrees fails. look_fails part custom name c.in_err-place.field-0.0 fails))

pub at-requires : goal.at-requires
at-requires g c = slice_get_within c.look.new.texts c.in_ok-place.place _ c.in_ok-place.ensures.at.there

pub returns-clause-listed : goal.returns-clause-listed
returns-clause-listed g c = listed_so c.args.part (found_view c.at.result.now) c.listed_in.result c.listed_in.ensures

pub returns-clause-loads : goal.returns-clause-loads
returns-clause-loads g c =
    listed_here c.args.part c.args.name c.args.texts.now c.look.new.texts (g.T.Store.view c.args.store.now) (g.T.Store.view c.look.new.store) c.in_ok-place.place (found_view c.at.result.now) c.listed_in.result c.at.ensures c.in_ok-place.ensures.at c.listed_in.ensures
    c.in_ok-place.ensures.loads
