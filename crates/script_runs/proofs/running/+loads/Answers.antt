use Rattle.std.proofs.Common.{rules, ◌+◌, ◌*◌, ◌-◌, ◌<◌, ◌≤◌, Ok, refl, sym, ◌∙◌, ap, subst, arith}
use Rattle.script_runs.specs.declared.flow.Flow.TheVariants as flows
use Rattle.wal_outside.specs.Memory.{sure_left}
use Rattle.script_cut.specs.Cutting.{place_of}
use Rattle.script_runs.proofs.Cutting.{end_of, spends_then}
use Rattle.script_runs.proofs.Between.{between_falls}
use Rattle.script_runs.proofs.TextSteps.{text_first, text_ends, text_next, text_cut, text_memory, TakesAll, TakesOne, under}
use Rattle.script_runs.proofs.ItemSteps.{result_enters, result_ends, result_refused, result_stopped, result_loads, not_both, limit_ends, ended_stays, stopped_stays}
use Rattle.script_runs.specs.Handing.{MayLoad}
use Rattle.script_runs.proofs.running.+loads.Goals as goal

pub answer_item-returns-in-Err-clause-takes : goal.answer_item-returns-in-Err-clause-takes
answer_item-returns-in-Err-clause-takes g t c = λ cut is ledger stores.
    result_stopped _ (g.met.A.Answering.sound c.args.progress.now.answering) c.args.depth ledger (g.T.Store.view c.args.store.now) (g.T.Store.view c.reply_to-reply.new.store) c.args.progress.now.script.room c.reply_to-reply.new.self.script.room cut c.args.item.now.line is.line (g.K.Sink.view c.args.out.now) (g.K.Sink.view c.hand_over.new.out) c.args.progress.now.tally c.reply_to-reply.new.self.tally c.reply_to-reply.result (c.reply_to-reply.ensures.reply cut is ledger stores) c.reply_to-reply.ensures.counts stores c.in-Err.fault (rw c.reply_to-reply.ensures.kept at c.in-Err.ensures)

pub answer_item-returns-in-Ok-Enters-clause-takes : goal.answer_item-returns-in-Ok-Enters-clause-takes
answer_item-returns-in-Ok-Enters-clause-takes g t c = λ cut is ledger stores.
    result_enters _ (g.met.A.Answering.sound c.args.progress.now.answering) c.args.depth ledger (g.T.Store.view c.args.store.now) (g.T.Store.view c.reply_to-reply.new.store) c.args.progress.now.script.room c.reply_to-reply.new.self.script.room cut c.args.item.now.line is.line (g.K.Sink.view c.args.out.now) (g.K.Sink.view c.hand_over.new.out) c.args.progress.now.tally c.reply_to-reply.new.self.tally c.reply_to-reply.result (c.reply_to-reply.ensures.reply cut is ledger stores) c.reply_to-reply.ensures.counts stores _ (c.in-Ok-Enters.is ∙ ap Ok c.in-Ok-Enters.field-0-is) (rw c.reply_to-reply.ensures.kept at c.in-Ok.ensures)

pub answer_item-returns-in-Ok-Loads-clause-takes : goal.answer_item-returns-in-Ok-Loads-clause-takes
answer_item-returns-in-Ok-Loads-clause-takes g t c = λ cut is ledger stores.
    result_loads _ (g.met.A.Answering.sound c.args.progress.now.answering) c.args.depth ledger (g.T.Store.view c.args.store.now) (g.T.Store.view c.reply_to-reply.new.store) c.args.progress.now.script.room c.reply_to-reply.new.self.script.room cut c.args.item.now.line is.line (g.K.Sink.view c.args.out.now) (g.K.Sink.view c.hand_over.new.out) c.args.progress.now.tally c.reply_to-reply.new.self.tally c.reply_to-reply.result (c.reply_to-reply.ensures.reply cut is ledger stores) c.reply_to-reply.ensures.counts stores c.in-Ok-Loads.text (c.in-Ok-Loads.is ∙ ap Ok c.in-Ok-Loads.field-0-is) (rw c.reply_to-reply.ensures.kept at c.in-Ok.ensures) (g.T.Store.view c.answer_text.new.store) c.answer_text.new.progress.script.room (g.K.Sink.view c.answer_text.new.out) c.answer_text.new.progress.tally c.answer_text.result
    (under g.A.Answering.language (λ l. TakesAll l (c.args.depth + 1) c.in-Ok-Loads.text.items (g.T.Store.view c.reply_to-reply.new.store) c.reply_to-reply.new.self.script.room (g.T.Store.view c.answer_text.new.store) c.answer_text.new.progress.script.room (g.K.Sink.view c.hand_over.new.out) (g.K.Sink.view c.answer_text.new.out) c.reply_to-reply.new.self.tally c.answer_text.new.progress.tally c.answer_text.result) _ _ c.reply_to-reply.ensures.kept c.answer_text.ensures.takes)

pub answer_item-returns-in-Ok-Ends-clause-takes : goal.answer_item-returns-in-Ok-Ends-clause-takes
answer_item-returns-in-Ok-Ends-clause-takes g t c = λ cut is ledger stores.
    result_ends _ (g.met.A.Answering.sound c.args.progress.now.answering) c.args.depth ledger (g.T.Store.view c.args.store.now) (g.T.Store.view c.reply_to-reply.new.store) c.args.progress.now.script.room c.reply_to-reply.new.self.script.room cut c.args.item.now.line is.line (g.K.Sink.view c.args.out.now) (g.K.Sink.view c.hand_over.new.out) c.args.progress.now.tally c.reply_to-reply.new.self.tally c.reply_to-reply.result (c.reply_to-reply.ensures.reply cut is ledger stores) c.reply_to-reply.ensures.counts stores (c.in-Ok-Ends.is ∙ ap Ok c.in-Ok-Ends.field-0-is) (rw c.reply_to-reply.ensures.kept at c.in-Ok.ensures)

pub answer_item-returns-in-Err-reply-clause-takes : goal.answer_item-returns-in-Err-reply-clause-takes
answer_item-returns-in-Err-reply-clause-takes g t c = λ cut is ledger stores.
    result_refused _ (g.met.A.Answering.sound c.args.progress.now.answering) c.args.depth ledger (g.T.Store.view c.args.store.now) (g.T.Store.view c.reply_to-reply.new.store) c.args.progress.now.script.room c.reply_to-reply.new.self.script.room cut c.args.item.now.line is.line (g.K.Sink.view c.args.out.now) (g.K.Sink.view c.hand_over.new.out) c.args.progress.now.tally c.reply_to-reply.new.self.tally c.reply_to-reply.result (c.reply_to-reply.ensures.reply cut is ledger stores) c.reply_to-reply.ensures.counts stores c.in-Err-reply.refusal c.in-Err-reply.is (rw c.reply_to-reply.ensures.kept at c.in-Ok.ensures) c.flow_of_refusal.result (rw c.reply_to-reply.ensures.kept at c.flow_of_refusal.ensures)

pub answer_item-answer_text-requires : goal.answer_item-answer_text-requires
answer_item-answer_text-requires g t c κs within =
    let less : c.args.depth < 8 = subst (λ r. MayLoad c.args.depth r) (c.in-Ok-Loads.is ∙ ap Ok c.in-Ok-Loads.field-0-is) c.reply_to-reply.ensures.loads in
    let falls : 2 * (8 - (c.args.depth + 1)) + 1 < t = omega (arith, less, c.decreases) in
    let some : 0 < c.args.depth + 1 = omega arith in
    let few : c.args.depth + 1 ≤ 8 = omega (arith, less) in
    search (rules, falls, some, few)

pub answer_item-returns-in-Ok-Enters-clause-limit : goal.answer_item-returns-in-Ok-Enters-clause-limit
answer_item-returns-in-Ok-Enters-clause-limit g t c = λ past. absurd (not_both c.reply_to-reply.result _ _ c.in-Ok-Enters.is (c.reply_to-reply.ensures.limit past))

pub answer_item-returns-in-Ok-Loads-clause-limit : goal.answer_item-returns-in-Ok-Loads-clause-limit
answer_item-returns-in-Ok-Loads-clause-limit g t c = λ past. absurd (not_both c.reply_to-reply.result _ _ c.in-Ok-Loads.is (c.reply_to-reply.ensures.limit past))

pub answer_item-returns-in-Err-reply-clause-limit : goal.answer_item-returns-in-Err-reply-clause-limit
answer_item-returns-in-Err-reply-clause-limit g t c = λ past.
    limit_ends (g.A.Answering.language c.args.progress.now.answering) (g.met.A.Answering.sound c.args.progress.now.answering) c.reply_to-reply.result c.in-Err-reply.refusal (c.reply_to-reply.ensures.limit past) c.in-Err-reply.is c.flow_of_refusal.result (rw c.reply_to-reply.ensures.kept at c.flow_of_refusal.ensures)

pub answer_text-items-init : goal.answer_text-items-init
answer_text-items-init g t c = record {
  reached = rw c.new-cutter.ensures (text_first _ (sure_left c.new-source.result) (g.T.Store.view c.args.store.now) c.args.progress.now.script.room (g.K.Sink.view c.args.out.now) c.args.progress.now.tally c.args.depth);
  answering = refl;
  spent = record { only = refl; falls = omega arith };
}

pub answer_text-items-smaller-in-GoesOn : goal.answer_text-items-smaller-in-GoesOn
answer_text-items-smaller-in-GoesOn g t c =
    between_falls _ _ c.items.cutter c.cut.new.self c.cut.result c.in-Item.item (sym c.in-Item.ensures) (λ past. c.in-GoesOn.ensures.limit past refl) c.cut.ensures.cut

pub answer_text-items-preserved-in-GoesOn : goal.answer_text-items-preserved-in-GoesOn
answer_text-items-preserved-in-GoesOn g t c = record {
  reached = text_next _ (sure_left c.new-source.result) (g.T.Store.view c.args.store.now) c.args.progress.now.script.room (g.K.Sink.view c.args.out.now) c.args.progress.now.tally _ _ c.items.cutter c.cut.new.self c.cut.result (sure_left c.items.source) (sure_left c.cut.new.from) c.cut.ensures.cut refl refl (g.T.Store.view c.items.store) c.items.progress.script.room (g.K.Sink.view c.items.out) c.items.progress.tally c.in-Item.item (sym c.in-Item.ensures) flows.GoesOn (g.T.Store.view c.answer_item.new.store) c.answer_item.new.progress.script.room (g.K.Sink.view c.answer_item.new.out) c.answer_item.new.progress.tally c.args.depth c.requires.some refl (λ past. c.in-GoesOn.ensures.limit past refl) (under g.A.Answering.language (λ l. TakesOne l c.args.depth c.in-Item.item (g.T.Store.view c.items.store) c.items.progress.script.room (g.T.Store.view c.answer_item.new.store) c.answer_item.new.progress.script.room (g.K.Sink.view c.items.out) (g.K.Sink.view c.answer_item.new.out) c.items.progress.tally c.answer_item.new.progress.tally flows.GoesOn) _ _ c.items.invariant.answering c.in-GoesOn.ensures.takes) c.items.invariant.reached;
  answering = c.in-GoesOn.ensures.kept ∙ c.items.invariant.answering;
  spent = spends_then c.args.progress.now.script c.items.progress.script c.answer_item.new.progress.script c.items.invariant.spent c.in-GoesOn.ensures.spent;
}

pub answer_text-items-smaller : goal.answer_text-items-smaller
answer_text-items-smaller g t c =
    between_falls _ _ c.items.cutter c.cut.new.self c.cut.result c.in-Item.item (sym c.in-Item.ensures) (λ past. c.in-GoesOn.ensures.limit past refl) c.cut.ensures.cut

pub answer_text-items-preserved : goal.answer_text-items-preserved
answer_text-items-preserved g t c = record {
  reached = text_next _ (sure_left c.new-source.result) (g.T.Store.view c.args.store.now) c.args.progress.now.script.room (g.K.Sink.view c.args.out.now) c.args.progress.now.tally _ _ c.items.cutter c.cut.new.self c.cut.result (sure_left c.items.source) (sure_left c.cut.new.from) c.cut.ensures.cut refl refl (g.T.Store.view c.items.store) c.items.progress.script.room (g.K.Sink.view c.items.out) c.items.progress.tally c.in-Item.item (sym c.in-Item.ensures) flows.GoesOn (g.T.Store.view c.answer_item.new.store) c.answer_item.new.progress.script.room (g.K.Sink.view c.answer_item.new.out) c.answer_item.new.progress.tally c.args.depth c.requires.some refl (λ past. c.in-GoesOn.ensures.limit past refl) (under g.A.Answering.language (λ l. TakesOne l c.args.depth c.in-Item.item (g.T.Store.view c.items.store) c.items.progress.script.room (g.T.Store.view c.answer_item.new.store) c.answer_item.new.progress.script.room (g.K.Sink.view c.items.out) (g.K.Sink.view c.answer_item.new.out) c.items.progress.tally c.answer_item.new.progress.tally flows.GoesOn) _ _ c.items.invariant.answering c.in-GoesOn.ensures.takes) c.items.invariant.reached;
  answering = c.in-GoesOn.ensures.kept ∙ c.items.invariant.answering;
  spent = spends_then c.args.progress.now.script c.items.progress.script c.answer_item.new.progress.script c.items.invariant.spent c.in-GoesOn.ensures.spent;
}

pub answer_text-returns-in_default : goal.answer_text-returns-in_default
answer_text-returns-in_default g t c = record {
  kept = c.answer_item.ensures.kept ∙ c.items.invariant.answering;
  spent = spends_then c.args.progress.now.script c.items.progress.script c.answer_item.new.progress.script c.items.invariant.spent c.answer_item.ensures.spent;
  takes = rw c.new-source.ensures at (text_cut _ (sure_left c.new-source.result) (g.T.Store.view c.args.store.now) c.args.progress.now.script.room (g.K.Sink.view c.args.out.now) c.args.progress.now.tally _ _ c.items.cutter c.cut.new.self c.cut.result (sure_left c.items.source) (sure_left c.cut.new.from) c.cut.ensures.cut refl refl (g.T.Store.view c.items.store) c.items.progress.script.room (g.K.Sink.view c.items.out) c.items.progress.tally c.in-Item.item (sym c.in-Item.ensures) c.answer_item.result (g.T.Store.view c.answer_item.new.store) c.answer_item.new.progress.script.room (g.K.Sink.view c.answer_item.new.out) c.answer_item.new.progress.tally c.args.depth c.requires.some c.in_default.not-GoesOn (under g.A.Answering.language (λ l. TakesOne l c.args.depth c.in-Item.item (g.T.Store.view c.items.store) c.items.progress.script.room (g.T.Store.view c.answer_item.new.store) c.answer_item.new.progress.script.room (g.K.Sink.view c.items.out) (g.K.Sink.view c.answer_item.new.out) c.items.progress.tally c.answer_item.new.progress.tally c.answer_item.result) _ _ c.items.invariant.answering c.answer_item.ensures.takes) c.items.invariant.reached);
}

pub answer_text-returns-in-End-clause-takes : goal.answer_text-returns-in-End-clause-takes
answer_text-returns-in-End-clause-takes g t c =
    rw c.new-source.ensures at (text_ends _ (sure_left c.new-source.result) (g.T.Store.view c.args.store.now) c.args.progress.now.script.room (g.K.Sink.view c.args.out.now) c.args.progress.now.tally _ _ c.items.cutter c.cut.new.self c.cut.result (sure_left c.items.source) (sure_left c.cut.new.from) c.cut.ensures.cut refl refl (g.T.Store.view c.items.store) c.items.progress.script.room (g.K.Sink.view c.items.out) c.items.progress.tally c.args.depth (end_of c.cut.result (sym c.in-End.ensures)) c.items.invariant.reached)

pub answer_text-returns-in-Failed-clause-takes : goal.answer_text-returns-in-Failed-clause-takes
answer_text-returns-in-Failed-clause-takes g t c =
    rw c.new-source.ensures at (text_memory _ (sure_left c.new-source.result) (g.T.Store.view c.args.store.now) c.args.progress.now.script.room (g.K.Sink.view c.args.out.now) c.args.progress.now.tally c.args.depth (place_of c.items.cutter (sure_left c.items.source)) (g.T.Store.view c.items.store) c.items.progress.script.room (g.K.Sink.view c.items.out) c.items.progress.tally c.items.invariant.reached)

pub answer_item-returns-in-Err-clause-kept : goal.answer_item-returns-in-Err-clause-kept
answer_item-returns-in-Err-clause-kept g t c = c.reply_to-reply.ensures.kept

pub answer_item-returns-in-Err-clause-spent : goal.answer_item-returns-in-Err-clause-spent
answer_item-returns-in-Err-clause-spent g t c = c.reply_to-reply.ensures.spent

pub answer_item-returns-in-Ok-Enters-clause-kept : goal.answer_item-returns-in-Ok-Enters-clause-kept
answer_item-returns-in-Ok-Enters-clause-kept g t c = c.reply_to-reply.ensures.kept

pub answer_item-returns-in-Ok-Enters-clause-spent : goal.answer_item-returns-in-Ok-Enters-clause-spent
answer_item-returns-in-Ok-Enters-clause-spent g t c = c.reply_to-reply.ensures.spent

pub answer_item-returns-in-Ok-Ends-clause-kept : goal.answer_item-returns-in-Ok-Ends-clause-kept
answer_item-returns-in-Ok-Ends-clause-kept g t c = c.reply_to-reply.ensures.kept

pub answer_item-returns-in-Ok-Ends-clause-spent : goal.answer_item-returns-in-Ok-Ends-clause-spent
answer_item-returns-in-Ok-Ends-clause-spent g t c = c.reply_to-reply.ensures.spent

pub answer_item-returns-in-Err-reply-clause-kept : goal.answer_item-returns-in-Err-reply-clause-kept
answer_item-returns-in-Err-reply-clause-kept g t c = c.reply_to-reply.ensures.kept

pub answer_item-returns-in-Err-reply-clause-spent : goal.answer_item-returns-in-Err-reply-clause-spent
answer_item-returns-in-Err-reply-clause-spent g t c = c.reply_to-reply.ensures.spent

pub answer_item-returns-in-Err-clause-limit : goal.answer_item-returns-in-Err-clause-limit
answer_item-returns-in-Err-clause-limit g t c = λ past. stopped_stays c.in-Err.fault

pub answer_item-returns-in-Ok-Ends-clause-limit : goal.answer_item-returns-in-Ok-Ends-clause-limit
answer_item-returns-in-Ok-Ends-clause-limit g t c = λ past. ended_stays

pub answer_item-returns-in-Ok-Loads-clause-kept : goal.answer_item-returns-in-Ok-Loads-clause-kept
answer_item-returns-in-Ok-Loads-clause-kept g t c = c.answer_text.ensures.kept ∙ c.reply_to-reply.ensures.kept

pub answer_item-returns-in-Ok-Loads-clause-spent : goal.answer_item-returns-in-Ok-Loads-clause-spent
answer_item-returns-in-Ok-Loads-clause-spent g t c =
    spends_then c.args.progress.now.script c.reply_to-reply.new.self.script c.answer_text.new.progress.script c.reply_to-reply.ensures.spent c.answer_text.ensures.spent

pub answer_item-overflow_add-depth : goal.answer_item-overflow_add-depth
answer_item-overflow_add-depth g t c = omega (arith, c.requires)

pub answer_text-returns-in-End-clause-kept : goal.answer_text-returns-in-End-clause-kept
answer_text-returns-in-End-clause-kept g t c = c.items.invariant.answering

pub answer_text-returns-in-End-clause-spent : goal.answer_text-returns-in-End-clause-spent
answer_text-returns-in-End-clause-spent g t c = c.items.invariant.spent

pub answer_text-returns-in-Failed-clause-kept : goal.answer_text-returns-in-Failed-clause-kept
answer_text-returns-in-Failed-clause-kept g t c = c.items.invariant.answering

pub answer_text-returns-in-Failed-clause-spent : goal.answer_text-returns-in-Failed-clause-spent
answer_text-returns-in-Failed-clause-spent g t c = c.items.invariant.spent
