use Rattle.std.proofs.Common.{◌≡◌, ap, rules, Ok, Err}
use Rattle.macro_loading.specs.MacroFiles.{IsExpanded}
use Rattle.macro_loading.proofs.ExpandedSteps.{ready_first, held_by, AreOfOneStore, same_by, wanted_by, made_by, refused_by}
use Rattle.macro_loading.proofs.expanding.expanded.Goals as goal

pub returns-in-Ok : goal.returns-in-Ok
returns-in-Ok g c =
    let held = held_by g.T.Store.view in
    let old = c.new-macros.result in
    let new = c.expand_from-result.new.macros in
    let ready = ready_first (held old) c.new-macros.ensures.texts c.new-macros.ensures.want in
    let name : new.store.ghost_name ≡ old.store.ghost_name = same_by AreOfOneStore held c.args.text.now old new c.expand_from-result.result c.expand_from-result.ensures in
    let made : IsExpanded c.args.text.now (g.T.Store.view c.args.store.now) (Ok c.in-Ok.bytes) (g.T.Store.view new.store.now) =
    made_by AreOfOneStore held c.args.text.now old new ready c.expand_from-result.result c.in-Ok.bytes (g.T.Store.view c.args.store.now) c.in-Ok.is (ap g.T.Store.view c.new-macros.ensures.store) c.expand_from-result.ensures in
    search rules

pub fault_of-requires : goal.fault_of-requires
fault_of-requires g c =
    let held = held_by g.T.Store.view in
    let old = c.new-macros.result in
    let new = c.expand_from-result.new.macros in
    let ready = ready_first (held old) c.new-macros.ensures.texts c.new-macros.ensures.want in
    wanted_by AreOfOneStore held c.args.text.now old new ready c.expand_from-result.result c.in-Err.fault c.in-Err.is c.expand_from-result.ensures

pub returns : goal.returns
returns g c =
    let held = held_by g.T.Store.view in
    let old = c.new-macros.result in
    let new = c.expand_from-result.new.macros in
    let ready = ready_first (held old) c.new-macros.ensures.texts c.new-macros.ensures.want in
    let name : new.store.ghost_name ≡ old.store.ghost_name = same_by AreOfOneStore held c.args.text.now old new c.expand_from-result.result c.expand_from-result.ensures in
    let refused : IsExpanded c.args.text.now (g.T.Store.view c.args.store.now) (Err c.fault_of.result) (g.T.Store.view new.store.now) =
    refused_by AreOfOneStore held c.args.text.now old new ready c.expand_from-result.result c.in-Err.fault c.fault_of.result (g.T.Store.view c.args.store.now) c.in-Err.is c.fault_of.ensures (ap g.T.Store.view c.new-macros.ensures.store) c.expand_from-result.ensures in
    search rules
