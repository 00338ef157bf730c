use Rattle.wal_outside.specs.Views.{StoreView}
use Rattle.dfa_loading.proofs.ListSteps.{none_loaded, loading_stops, loaded_more}
use Rattle.dfa_loading.proofs.loading.load.Goals as goal

pub loop-file-init : goal.loop-file-init
loop-file-init g c = none_loaded (g.T.Store.view c.args.store.now) c.new-tables.result c.new-tables.ensures.items

pub returns-in_err-table : goal.returns-in_err-table
returns-in_err-table g c =
    let old : StoreView = g.T.Store.view c.args.store.now in
    let mid : StoreView = g.T.Store.view c.loop-file.store in
    let new : StoreView = g.T.Store.view c.load_file.new.store in
    loading_stops c.args.files.now c.loop-file.file-index c.file-item.result old mid new c.loop-file.tables c.in_err-table.field-0.0 c.from_residual.result c.loop-file-test.true c.file-item.is c.requires c.loop-file.invariant c.in_err-table.ensures c.from_residual.ensures.1

pub loop-file-preserved : goal.loop-file-preserved
loop-file-preserved g c =
    let old : StoreView = g.T.Store.view c.args.store.now in
    let mid : StoreView = g.T.Store.view c.loop-file.store in
    let new : StoreView = g.T.Store.view c.load_file.new.store in
    loaded_more c.args.files.now c.loop-file.file-index c.file-item.result old mid new c.loop-file.tables c.push.new.self c.in_ok-table.table c.loop-file-test.true c.file-item.is c.requires c.in_ok-push.ensures.items c.loop-file.invariant c.in_ok-table.ensures
