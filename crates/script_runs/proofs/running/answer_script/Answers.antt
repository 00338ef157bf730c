use Rattle.std.proofs.Common.{◌≡◌, ◌<◌, true, false, Ok, Err, refl, sym, ◌∙◌, ap, subst, arith}
use Rattle.wal_outside.specs.Causes.{CountsFault}
use Rattle.wal_outside.specs.Views.{SourceView, StoreView, SinkView}
use Rattle.script_cut.specs.Kept.{Kept}
use Rattle.script_cut.specs.Cutting.{HasCut}
use Rattle.script_cut.specs.declared.cut.Cut.TheVariants as cuts
use Rattle.script_cut.specs.declared.cut.CutFault.TheVariants as cut_faults
use Rattle.script_runs.specs.declared.coming.Coming.TheVariants as coming
use Rattle.script_runs.specs.declared.flow.Flow.TheVariants as flows
use Rattle.script_runs.specs.declared.status.Status.TheVariants as status
use Rattle.script_runs.specs.Coming.{coming_of}
use Rattle.script_runs.specs.Taking.{HasAnswered}
use Rattle.script_runs.proofs.Cutting.{kept_by, no_end, end_of, failed_of, memory_of}
use Rattle.script_runs.proofs.TextSteps.{TakesOne, under}
use Rattle.script_runs.proofs.Between.{IsBetween, begun_of, between_first, between_next, between_ends, between_stops, between_wants, between_end, between_failed, between_memory, between_falls}
use Rattle.script_runs.proofs.running.answer_script.Goals as goal

pub items-init : goal.items-init
items-init g c =
    let l = g.A.Answering.language c.new-progress.result.answering in
    let sound = g.met.A.Answering.sound c.new-progress.result.answering in
    record {
      between = rw (c.new-progress.ensures.script, c.new-progress.ensures.tally) (between_first l sound (g.S.Source.view c.args.script.now) (g.T.Store.view c.args.store.now) (g.K.Sink.view c.args.out.now));
      answering = refl;
    }

pub items-smaller-in-GoesOn : goal.items-smaller-in-GoesOn
items-smaller-in-GoesOn g c =
    let falls : c.cut.new.self.room < c.items.progress.script.room = between_falls (g.S.Source.view c.items.script) (g.S.Source.view c.cut.new.from) c.items.progress.script c.cut.new.self c.cut.result c.in-Item.item (sym c.in-Item.ensures) (λ past. c.in-GoesOn.ensures.limit past refl) c.cut.ensures.cut in
    omega (arith, falls, c.in-GoesOn.ensures.spent.falls)

pub items-preserved-in-GoesOn : goal.items-preserved-in-GoesOn
items-preserved-in-GoesOn g c =
    let l = g.A.Answering.language c.new-progress.result.answering in
    let from : SourceView = g.S.Source.view c.args.script.now in
    let to : SourceView = g.S.Source.view c.items.script in
    let next : SourceView = g.S.Source.view c.cut.new.from in
    let old : StoreView = g.T.Store.view c.args.store.now in
    let held : SinkView = g.K.Sink.view c.args.out.now in
    let mid : StoreView = g.T.Store.view c.items.store in
    let sink : SinkView = g.K.Sink.view c.items.out in
    let new : StoreView = g.T.Store.view c.answer_item.new.store in
    let now : SinkView = g.K.Sink.view c.answer_item.new.out in
    let item_is : coming_of c.cut.result ≡ coming.Item c.in-Item.item = sym c.in-Item.ensures in
    let begun : c.items.progress.script.over ≡ false = begun_of c.items.progress.script.over c.cut.result c.cut.ensures.again (no_end c.cut.result c.in-Item.item item_is) in
    let kept : next.faults ≡ to.faults = kept_by c.cut.result c.in-Item.item to.faults next.faults item_is c.cut.ensures.faults in
    let P : Kept → Type 0 = λ kept. IsBetween l from next kept old new held now c.answer_item.new.progress.tally in
    record {
      between = subst P (sym c.in-GoesOn.ensures.spent.only) (between_next l from to next c.items.progress.script c.cut.new.self c.cut.result old mid held sink c.items.progress.tally begun c.items.invariant.between c.cut.ensures.cut c.in-Item.item item_is flows.GoesOn c.answer_item.new.progress.script.room new now c.answer_item.new.progress.tally (under g.A.Answering.language (λ l. TakesOne l 0 c.in-Item.item mid c.cut.new.self.room new c.answer_item.new.progress.script.room sink now c.items.progress.tally c.answer_item.new.progress.tally flows.GoesOn) _ _ c.items.invariant.answering c.in-GoesOn.ensures.takes) refl (λ past. c.in-GoesOn.ensures.limit past refl) c.in-GoesOn.ensures.spent.falls kept);
      answering = c.in-GoesOn.ensures.kept ∙ c.items.invariant.answering;
    }

pub items-smaller : goal.items-smaller
items-smaller g c =
    let falls : c.cut.new.self.room < c.items.progress.script.room = between_falls (g.S.Source.view c.items.script) (g.S.Source.view c.cut.new.from) c.items.progress.script c.cut.new.self c.cut.result c.in-Item.item (sym c.in-Item.ensures) (λ past. c.in-GoesOn.ensures.limit past refl) c.cut.ensures.cut in
    omega (arith, falls, c.in-GoesOn.ensures.spent.falls)

pub items-preserved : goal.items-preserved
items-preserved g c =
    let l = g.A.Answering.language c.new-progress.result.answering in
    let from : SourceView = g.S.Source.view c.args.script.now in
    let to : SourceView = g.S.Source.view c.items.script in
    let next : SourceView = g.S.Source.view c.cut.new.from in
    let old : StoreView = g.T.Store.view c.args.store.now in
    let held : SinkView = g.K.Sink.view c.args.out.now in
    let mid : StoreView = g.T.Store.view c.items.store in
    let sink : SinkView = g.K.Sink.view c.items.out in
    let new : StoreView = g.T.Store.view c.answer_item.new.store in
    let now : SinkView = g.K.Sink.view c.answer_item.new.out in
    let item_is : coming_of c.cut.result ≡ coming.Item c.in-Item.item = sym c.in-Item.ensures in
    let begun : c.items.progress.script.over ≡ false = begun_of c.items.progress.script.over c.cut.result c.cut.ensures.again (no_end c.cut.result c.in-Item.item item_is) in
    let kept : next.faults ≡ to.faults = kept_by c.cut.result c.in-Item.item to.faults next.faults item_is c.cut.ensures.faults in
    let P : Kept → Type 0 = λ kept. IsBetween l from next kept old new held now c.answer_item.new.progress.tally in
    record {
      between = subst P (sym c.in-GoesOn.ensures.spent.only) (between_next l from to next c.items.progress.script c.cut.new.self c.cut.result old mid held sink c.items.progress.tally begun c.items.invariant.between c.cut.ensures.cut c.in-Item.item item_is flows.GoesOn c.answer_item.new.progress.script.room new now c.answer_item.new.progress.tally (under g.A.Answering.language (λ l. TakesOne l 0 c.in-Item.item mid c.cut.new.self.room new c.answer_item.new.progress.script.room sink now c.items.progress.tally c.answer_item.new.progress.tally flows.GoesOn) _ _ c.items.invariant.answering c.in-GoesOn.ensures.takes) refl (λ past. c.in-GoesOn.ensures.limit past refl) c.in-GoesOn.ensures.spent.falls kept);
      answering = c.in-GoesOn.ensures.kept ∙ c.items.invariant.answering;
    }

pub returns-in-Ends : goal.returns-in-Ends
returns-in-Ends g c =
    let l = g.A.Answering.language c.new-progress.result.answering in
    let from : SourceView = g.S.Source.view c.args.script.now in
    let to : SourceView = g.S.Source.view c.items.script in
    let next : SourceView = g.S.Source.view c.cut.new.from in
    let old : StoreView = g.T.Store.view c.args.store.now in
    let held : SinkView = g.K.Sink.view c.args.out.now in
    let mid : StoreView = g.T.Store.view c.items.store in
    let sink : SinkView = g.K.Sink.view c.items.out in
    let new : StoreView = g.T.Store.view c.answer_item.new.store in
    let now : SinkView = g.K.Sink.view c.answer_item.new.out in
    let item_is : coming_of c.cut.result ≡ coming.Item c.in-Item.item = sym c.in-Item.ensures in
    let begun : c.items.progress.script.over ≡ false = begun_of c.items.progress.script.over c.cut.result c.cut.ensures.again (no_end c.cut.result c.in-Item.item item_is) in
    let kept : next.faults ≡ to.faults = kept_by c.cut.result c.in-Item.item to.faults next.faults item_is c.cut.ensures.faults in
    under g.A.Answering.language (λ l. HasAnswered l from next old new held now (Ok c.answer_item.new.progress.tally)) _ _ c.new-progress.ensures.answering (between_ends l from to next c.items.progress.script c.cut.new.self c.cut.result old mid held sink c.items.progress.tally begun c.items.invariant.between c.cut.ensures.cut c.in-Item.item item_is flows.Ends c.answer_item.new.progress.script.room new now c.answer_item.new.progress.tally (under g.A.Answering.language (λ l. TakesOne l 0 c.in-Item.item mid c.cut.new.self.room new c.answer_item.new.progress.script.room sink now c.items.progress.tally c.answer_item.new.progress.tally flows.Ends) _ _ c.items.invariant.answering c.in-Ends.ensures.takes) refl kept)

pub returns-in-Stopped : goal.returns-in-Stopped
returns-in-Stopped g c =
    let l = g.A.Answering.language c.new-progress.result.answering in
    let from : SourceView = g.S.Source.view c.args.script.now in
    let to : SourceView = g.S.Source.view c.items.script in
    let next : SourceView = g.S.Source.view c.cut.new.from in
    let old : StoreView = g.T.Store.view c.args.store.now in
    let held : SinkView = g.K.Sink.view c.args.out.now in
    let mid : StoreView = g.T.Store.view c.items.store in
    let sink : SinkView = g.K.Sink.view c.items.out in
    let new : StoreView = g.T.Store.view c.answer_item.new.store in
    let now : SinkView = g.K.Sink.view c.answer_item.new.out in
    let item_is : coming_of c.cut.result ≡ coming.Item c.in-Item.item = sym c.in-Item.ensures in
    let begun : c.items.progress.script.over ≡ false = begun_of c.items.progress.script.over c.cut.result c.cut.ensures.again (no_end c.cut.result c.in-Item.item item_is) in
    let kept : next.faults ≡ to.faults = kept_by c.cut.result c.in-Item.item to.faults next.faults item_is c.cut.ensures.faults in
    under g.A.Answering.language (λ l. HasAnswered l from next old new held now (Err c.stop_status.result)) _ _ c.new-progress.ensures.answering (between_stops l from to next c.items.progress.script c.cut.new.self c.cut.result old mid held sink c.items.progress.tally begun c.items.invariant.between c.cut.ensures.cut c.in-Item.item item_is (flows.Stopped c.in-Stopped.fault) c.answer_item.new.progress.script.room new now c.answer_item.new.progress.tally (under g.A.Answering.language (λ l. TakesOne l 0 c.in-Item.item mid c.cut.new.self.room new c.answer_item.new.progress.script.room sink now c.items.progress.tally c.answer_item.new.progress.tally (flows.Stopped c.in-Stopped.fault)) _ _ c.items.invariant.answering c.in-Stopped.ensures.takes) c.in-Stopped.fault c.stop_status.result refl kept c.stop_status.ensures)

pub returns-in-WantsMemory : goal.returns-in-WantsMemory
returns-in-WantsMemory g c =
    let l = g.A.Answering.language c.new-progress.result.answering in
    let from : SourceView = g.S.Source.view c.args.script.now in
    let to : SourceView = g.S.Source.view c.items.script in
    let next : SourceView = g.S.Source.view c.cut.new.from in
    let old : StoreView = g.T.Store.view c.args.store.now in
    let held : SinkView = g.K.Sink.view c.args.out.now in
    let mid : StoreView = g.T.Store.view c.items.store in
    let sink : SinkView = g.K.Sink.view c.items.out in
    let new : StoreView = g.T.Store.view c.answer_item.new.store in
    let now : SinkView = g.K.Sink.view c.answer_item.new.out in
    let item_is : coming_of c.cut.result ≡ coming.Item c.in-Item.item = sym c.in-Item.ensures in
    let begun : c.items.progress.script.over ≡ false = begun_of c.items.progress.script.over c.cut.result c.cut.ensures.again (no_end c.cut.result c.in-Item.item item_is) in
    let kept : next.faults ≡ to.faults = kept_by c.cut.result c.in-Item.item to.faults next.faults item_is c.cut.ensures.faults in
    under g.A.Answering.language (λ l. HasAnswered l from next old new held now (Err status.Memory)) _ _ c.new-progress.ensures.answering (between_wants l from to next c.items.progress.script c.cut.new.self c.cut.result old mid held sink c.items.progress.tally begun c.items.invariant.between c.cut.ensures.cut c.in-Item.item item_is flows.WantsMemory c.answer_item.new.progress.script.room new now c.answer_item.new.progress.tally (under g.A.Answering.language (λ l. TakesOne l 0 c.in-Item.item mid c.cut.new.self.room new c.answer_item.new.progress.script.room sink now c.items.progress.tally c.answer_item.new.progress.tally flows.WantsMemory) _ _ c.items.invariant.answering c.in-WantsMemory.ensures.takes) refl kept)

pub returns-in-End : goal.returns-in-End
returns-in-End g c =
    let l = g.A.Answering.language c.new-progress.result.answering in
    let from : SourceView = g.S.Source.view c.args.script.now in
    let to : SourceView = g.S.Source.view c.items.script in
    let next : SourceView = g.S.Source.view c.cut.new.from in
    let old : StoreView = g.T.Store.view c.args.store.now in
    let held : SinkView = g.K.Sink.view c.args.out.now in
    let mid : StoreView = g.T.Store.view c.items.store in
    let sink : SinkView = g.K.Sink.view c.items.out in
    let is : c.cut.result ≡ Ok cuts.End = end_of c.cut.result (sym c.in-End.ensures) in
    let cut : HasCut c.items.progress.script to (Ok cuts.End) c.cut.new.self next = rw is at c.cut.ensures.cut in
    let kept : next.faults ≡ to.faults = rw is at c.cut.ensures.faults in
    under g.A.Answering.language (λ l. HasAnswered l from next old mid held sink (Ok c.items.progress.tally)) _ _ c.new-progress.ensures.answering (between_end l c.items.progress.script.over from to next c.items.progress.script c.cut.new.self old mid held sink c.items.progress.tally refl c.items.invariant.between cut kept (λ over. ap (λ s. g.S.Source.view s) (c.cut.ensures.again over).1.1))

pub returns-in-Failed : goal.returns-in-Failed
returns-in-Failed g c =
    let l = g.A.Answering.language c.new-progress.result.answering in
    let from : SourceView = g.S.Source.view c.args.script.now in
    let to : SourceView = g.S.Source.view c.items.script in
    let next : SourceView = g.S.Source.view c.cut.new.from in
    let old : StoreView = g.T.Store.view c.args.store.now in
    let held : SinkView = g.K.Sink.view c.args.out.now in
    let mid : StoreView = g.T.Store.view c.items.store in
    let sink : SinkView = g.K.Sink.view c.items.out in
    let is : c.cut.result ≡ Err cut_faults.Failed = failed_of c.cut.result (sym c.in-Failed.ensures) in
    let begun : c.items.progress.script.over ≡ false = begun_of c.items.progress.script.over c.cut.result c.cut.ensures.again (λ end. cc) in
    let counts : CountsFault true to.faults next.faults = rw is at c.cut.ensures.faults in
    under g.A.Answering.language (λ l. HasAnswered l from next old mid held sink (Err status.Outside)) _ _ c.new-progress.ensures.answering (between_failed l from to next c.items.progress.script c.cut.new.self c.cut.result old mid held sink c.items.progress.tally begun c.items.invariant.between c.cut.ensures.cut is counts.1)

pub returns-in-Memory : goal.returns-in-Memory
returns-in-Memory g c =
    let l = g.A.Answering.language c.new-progress.result.answering in
    let from : SourceView = g.S.Source.view c.args.script.now in
    let to : SourceView = g.S.Source.view c.items.script in
    let next : SourceView = g.S.Source.view c.cut.new.from in
    let old : StoreView = g.T.Store.view c.args.store.now in
    let held : SinkView = g.K.Sink.view c.args.out.now in
    let mid : StoreView = g.T.Store.view c.items.store in
    let sink : SinkView = g.K.Sink.view c.items.out in
    let is : c.cut.result ≡ Err cut_faults.Memory = memory_of c.cut.result (sym c.in-Memory.ensures) in
    let begun : c.items.progress.script.over ≡ false = begun_of c.items.progress.script.over c.cut.result c.cut.ensures.again (λ end. cc) in
    let kept : next.faults ≡ to.faults = rw is at c.cut.ensures.faults in
    under g.A.Answering.language (λ l. HasAnswered l from next old mid held sink (Err status.Memory)) _ _ c.new-progress.ensures.answering (between_memory l from to next c.items.progress.script c.cut.new.self c.cut.result old mid held sink c.items.progress.tally begun c.items.invariant.between c.cut.ensures.cut kept)
