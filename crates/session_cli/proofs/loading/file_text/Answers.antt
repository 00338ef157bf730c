use Rattle.wal_outside.specs.Views.{StoreView}
use Rattle.session_cli.proofs.LoadedTexts.{found_there, absent_there, long_there, failed_there, memory_there}
use Rattle.session_cli.proofs.loading.file_text.Goals as goal

pub returns-in-Found : goal.returns-in-Found
returns-in-Found g c =
    let old : StoreView = g.T.Store.view c.args.store.now in
    let new : StoreView = g.T.Store.view c.read.new.self in
    found_there c.args.name old new c.read.new.into (rw c.as_str.ensures at c.in-Found.ensures.answer) c.in-Found.ensures.size c.in-Found.ensures.unchanged c.in-Found.ensures.faults c.in-Found.ensures.place

pub returns-in-Absent : goal.returns-in-Absent
returns-in-Absent g c =
    let old : StoreView = g.T.Store.view c.args.store.now in
    let new : StoreView = g.T.Store.view c.read.new.self in
    rw c.from.ensures (absent_there c.args.name old new c.read.new.into.items (rw c.as_str.ensures at c.in-Absent.ensures.answer) c.in-Absent.ensures.unchanged c.in-Absent.ensures.faults c.in-Absent.ensures.place)

pub returns-in-TooLong : goal.returns-in-TooLong
returns-in-TooLong g c =
    let old : StoreView = g.T.Store.view c.args.store.now in
    let new : StoreView = g.T.Store.view c.read.new.self in
    rw c.from-in-TooLong.ensures (long_there c.args.name old new c.read.new.into.items (rw c.as_str.ensures at c.in-TooLong.ensures.answer) c.in-TooLong.ensures.unchanged c.in-TooLong.ensures.faults c.in-TooLong.ensures.place)

pub returns-in-Failed : goal.returns-in-Failed
returns-in-Failed g c =
    let old : StoreView = g.T.Store.view c.args.store.now in
    let new : StoreView = g.T.Store.view c.read.new.self in
    failed_there c.args.name old new c.in-Failed.ensures.unchanged c.in-Failed.ensures.faults (rw c.as_str.ensures at c.in-Failed.ensures.place)

pub returns-in-Memory : goal.returns-in-Memory
returns-in-Memory g c =
    let old : StoreView = g.T.Store.view c.args.store.now in
    let new : StoreView = g.T.Store.view c.read.new.self in
    memory_there c.args.name old new c.in-Memory.ensures.unchanged c.in-Memory.ensures.faults c.in-Memory.ensures.place
