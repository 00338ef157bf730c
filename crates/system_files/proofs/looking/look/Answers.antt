use Rattle.wal_outside.specs.Views.{StoreView}
use Rattle.system_files.specs.SystemTexts.{FoundText}
use Rattle.system_files.specs.TextViews.{found_view}
use Rattle.system_files.proofs.FoundLemmas.{added_at, looked}
use Rattle.system_files.proofs.looking.look.Goals as goal

pub returns-clause-at : goal.returns-clause-at
returns-clause-at g c =
    rw (c.in_ok-add.ensures.ok, c.in_ok-add.ensures.place) (added_at c.args.name c.args.texts.now (found_view c.in_ok-found.found) c.in_ok-found.ensures.gives.0)

pub returns-clause-loads : goal.returns-clause-loads
returns-clause-loads g c =
    let old : StoreView = g.T.Store.view c.args.store.now in
    let new : StoreView = g.T.Store.view c.read.new.store in
    let one : FoundText = found_view c.in_ok-found.found in
    rw (c.in_ok-add.ensures.ok, c.in_ok-add.ensures.place) (looked c.args.name c.args.texts.now one old new c.in_ok-found.found c.in_ok-found.ensures.gives.0 c.in_ok-found.ensures.reported c.in_ok-found.ensures.has_read)
