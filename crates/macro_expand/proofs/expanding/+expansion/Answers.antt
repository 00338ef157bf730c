use Rattle.std.proofs.Common.{◌∙◌, refl, sym, ap, arith, ℕ, ◌<◌, List, length, map, Err}
use Rattle.std.proofs.lemmas.List.{take_rest, map-append}
use Rattle.macro_expand.specs.declared.fault.MacroFault.TheVariants as faults
use Rattle.macro_expand.specs.Pieces.{pieces}
use Rattle.macro_expand.specs.Expansion.{each, expand_piece, expand_call_within}
use Rattle.macro_expand.specs.Views.{call_view, pieces_view, expanded_view, given_view}
use Rattle.macro_expand.proofs.EachSteps.{piece_put, limited_known}
use Rattle.macro_expand.proofs.SourceSteps.{came_known, all_left, left_value, left_plain, left_refused, left_more}
use Rattle.macro_expand.proofs.TextSteps.{left_after, left_refused_so, left_within, nothing_left}
use Rattle.macro_expand.proofs.CallSteps.{texts_within, call_too_deep, call_too_many}
use Rattle.macro_expand.proofs.SourceCalls.{arguments_refused, arguments_done, text_refused, text_follows}
use Rattle.macro_expand.proofs.GivenSteps.{argument_refused, argument_expanded}
use Rattle.macro_expand.proofs.expanding.+expansion.Goals as goal

pub expand_text-pieces-init : goal.expand_text-pieces-init
expand_text-pieces-init g t c = record {
  whole_is = all_left g.M.MacroTexts.found g.M.MacroTexts.becomes _ _ c.args.macros.now (g.met.M.MacroTexts.stays c.args.macros.now)
      (λ texts. ap (λ (bs : List ℕ). each (expand_piece (expand_call_within texts c.args.levels)) (pieces c.args.text.now) (record { bytes = bs; calls = c.args.calls })) c.new.ensures.items);
  short = rw c.new.ensures.items (omega arith);
  within = omega arith;
}

pub expand_text-returns : goal.expand_text-returns
expand_text-returns g t c = left_value g.M.MacroTexts.found g.M.MacroTexts.becomes g.M.MacroTexts.lacks expanded_view _ _ c.args.macros.now c.pieces.macros c.pieces.done c.pieces.invariant.whole_is
    (λ texts. nothing_left (expand_call_within texts c.args.levels) c.args.text.now c.pieces.at (expanded_view c.pieces.done) (omega arith))

pub expand_text-returns-in_err-expand_piece : goal.expand_text-returns-in_err-expand_piece
expand_text-returns-in_err-expand_piece g t c = left_refused g.M.MacroTexts.found g.M.MacroTexts.becomes g.M.MacroTexts.lacks g.met.M.MacroTexts.goes_on g.met.M.MacroTexts.lacks_then _ expanded_view
    (λ texts. each (expand_piece (expand_call_within texts c.args.levels)) (pieces_view c.first_piece-piece.result) (expanded_view c.pieces.done)) _ _ c.args.macros.now c.pieces.macros c.expand_piece.new.macros c.in_err-expand_piece.field-0.0 c.from_residual.result
    (λ texts e h. left_refused_so (expand_call_within texts c.args.levels) c.args.text.now c.pieces.at _ c.first_piece-piece.result c.after.result.now c.after.ensures c.first_piece-piece.ensures refl (expanded_view c.pieces.done) e h)
    c.pieces.invariant.whole_is c.in_err-expand_piece.ensures.made c.from_residual.ensures.1

pub expand_text-pieces-preserved : goal.expand_text-pieces-preserved
expand_text-pieces-preserved g t c = record {
  whole_is = left_more g.M.MacroTexts.found g.M.MacroTexts.becomes g.M.MacroTexts.lacks g.met.M.MacroTexts.goes_on g.met.M.MacroTexts.lacks_then (λ nothing. expanded_view c.expand_piece.new.done)
      (λ texts. each (expand_piece (expand_call_within texts c.args.levels)) (pieces_view c.first_piece-piece.result) (expanded_view c.pieces.done)) _ _ _ c.args.macros.now c.pieces.macros c.expand_piece.new.macros _
      (λ texts h. sym (left_after (expand_call_within texts c.args.levels) c.args.text.now c.pieces.at c.len-at.result c.first_piece-piece.result c.after.result.now c.after.ensures c.first_piece-piece.ensures c.len-at.ensures (expanded_view c.pieces.done) _ _ refl h))
      c.pieces.invariant.whole_is c.in_ok-expand_piece.ensures.made;
  short = c.in_ok-expand_piece.ensures.short;
  within = left_within (expand_call_within (g.M.MacroTexts.found c.pieces.macros) c.args.levels) c.args.text.now c.pieces.at c.len-at.result c.first_piece-piece.result c.after.result.now c.after.ensures c.first_piece-piece.ensures c.len-at.ensures c.pieces.invariant.within;
}

pub expand_call-returns-then-levels-eq0 : goal.expand_call-returns-then-levels-eq0
expand_call-returns-then-levels-eq0 g t c = left_plain g.M.MacroTexts.found g.M.MacroTexts.becomes g.M.MacroTexts.lacks expanded_view _ _ (Err (faults.MacroDepth c.args.call.now.name.now)) c.args.macros.now c.args.macros.now _ (λ texts. refl) (λ name h. absurd (cc))
    (all_left g.M.MacroTexts.found g.M.MacroTexts.becomes _ _ c.args.macros.now (g.met.M.MacroTexts.stays c.args.macros.now) (λ texts. sym (call_too_deep texts c.args.levels (call_view c.args.call.now) c.args.calls c.if-levels-eq0.true)))
    (ap (λ (name : List ℕ). Err (faults.MacroDepth name)) (sym c.in_ok-name_of.ensures))

pub expand_call-returns-then-calls-ge-MOST_CALLS : goal.expand_call-returns-then-calls-ge-MOST_CALLS
expand_call-returns-then-calls-ge-MOST_CALLS g t c = left_plain g.M.MacroTexts.found g.M.MacroTexts.becomes g.M.MacroTexts.lacks expanded_view _ _ (Err faults.MacroLong) c.args.macros.now c.args.macros.now _ (λ texts. refl) (λ name h. absurd (cc))
    (all_left g.M.MacroTexts.found g.M.MacroTexts.becomes _ _ c.args.macros.now (g.met.M.MacroTexts.stays c.args.macros.now) (λ texts. sym (call_too_many texts c.args.levels (call_view c.args.call.now) c.args.calls (omega arith) c.if-calls-ge-MOST_CALLS.true)))
    refl

pub expand_call-returns-in_err-given : goal.expand_call-returns-in_err-given
expand_call-returns-in_err-given g t c =
    arguments_refused g.M.MacroTexts.found g.M.MacroTexts.becomes g.M.MacroTexts.lacks g.met.M.MacroTexts.goes_on g.met.M.MacroTexts.lacks_then c.args.levels (call_view c.args.call.now) c.args.calls (omega arith) (omega arith) given_view expanded_view _
    (ap (map (λ argument. argument.now)) c.deref.ensures.value ∙ c.in_ok-arguments.ensures) c.args.macros.now c.expand_arguments.new.macros c.in_err-given.field-0.0 c.from_residual-in_err-given.result
    (g.met.M.MacroTexts.stays c.args.macros.now) c.in_err-given.ensures c.from_residual-in_err-given.ensures.1

pub expand_call-returns-in_err-text : goal.expand_call-returns-in_err-text
expand_call-returns-in_err-text g t c =
    let first = arguments_done g.M.MacroTexts.found g.M.MacroTexts.becomes g.M.MacroTexts.lacks g.met.M.MacroTexts.goes_on g.met.M.MacroTexts.lacks_then c.args.levels (call_view c.args.call.now) c.args.calls (omega arith) (omega arith) given_view _
    (ap (map (λ argument. argument.now)) c.deref.ensures.value ∙ c.in_ok-arguments.ensures) c.args.macros.now c.expand_arguments.new.macros c.in_ok-given.given
    (g.met.M.MacroTexts.stays c.args.macros.now) c.in_ok-given.ensures in
    text_refused g.M.MacroTexts.found g.M.MacroTexts.becomes g.M.MacroTexts.lacks g.met.M.MacroTexts.goes_on g.met.M.MacroTexts.lacks_then c.args.levels (call_view c.args.call.now) c.args.calls (omega arith) (omega arith) (λ made. made.items) expanded_view (given_view c.in_ok-given.given) c.in_ok-name.name _
    c.in_ok-name.ensures (ap (map (λ text. text.items)) c.deref-2.ensures.value) c.args.macros.now c.expand_arguments.new.macros c.filled_text.new.macros c.in_err-text.field-0.0 c.from_residual-in_err-text.result
    first c.in_err-text.ensures c.from_residual-in_err-text.ensures.1

pub expand_call-returns : goal.expand_call-returns
expand_call-returns g t c =
    let first = arguments_done g.M.MacroTexts.found g.M.MacroTexts.becomes g.M.MacroTexts.lacks g.met.M.MacroTexts.goes_on g.met.M.MacroTexts.lacks_then c.args.levels (call_view c.args.call.now) c.args.calls (omega arith) (omega arith) given_view _
    (ap (map (λ argument. argument.now)) c.deref.ensures.value ∙ c.in_ok-arguments.ensures) c.args.macros.now c.expand_arguments.new.macros c.in_ok-given.given
    (g.met.M.MacroTexts.stays c.args.macros.now) c.in_ok-given.ensures in
    text_follows g.M.MacroTexts.found g.M.MacroTexts.becomes g.M.MacroTexts.lacks g.met.M.MacroTexts.goes_on g.met.M.MacroTexts.lacks_then c.args.levels (call_view c.args.call.now) c.args.calls (omega arith) (omega arith) (λ made. made.items) expanded_view (given_view c.in_ok-given.given) c.in_ok-name.name _
    c.in_ok-name.ensures (ap (map (λ text. text.items)) c.deref-2.ensures.value) c.args.macros.now c.expand_arguments.new.macros c.filled_text.new.macros c.expand_text.new.macros c.in_ok-text.text _ c.deref-3.ensures.value c.expand_text.result
    first c.in_ok-text.ensures c.expand_text.ensures

pub expand_piece-returns-in-Plain-clause-made : goal.expand_piece-returns-in-Plain-clause-made
expand_piece-returns-in-Plain-clause-made g t c = rw c.in-Plain.is (record {
  gives = λ texts among lack. piece_put (expand_call_within texts c.args.levels) c.in-Plain.bytes.now (expanded_view c.args.done.now) _ c.put.result c.requires.short refl c.put.ensures.made;
  kept = λ name text e. e;
  came = came_known g.M.MacroTexts.becomes g.M.MacroTexts.lacks c.args.macros.now c.args.macros.now _ _ c.put.result (g.met.M.MacroTexts.stays c.args.macros.now) (limited_known _) c.put.ensures.made;
})

pub expand_arguments-returns-in_err-bytes : goal.expand_arguments-returns-in_err-bytes
expand_arguments-returns-in_err-bytes g t c = left_refused g.M.MacroTexts.found g.M.MacroTexts.becomes g.M.MacroTexts.lacks g.met.M.MacroTexts.goes_on g.met.M.MacroTexts.lacks_then expanded_view given_view _ _ _ c.args.macros.now c.arguments.macros c.expand_text.new.macros c.in_err-bytes.field-0.0 c.from_residual.result
    (λ texts e h. argument_refused (texts_within texts c.args.levels) c.arguments.left.now _ _ (given_view c.arguments.given) e (omega arith) refl h)
    c.arguments.invariant c.in_err-bytes.ensures c.from_residual.ensures.1

pub expand_arguments-arguments-preserved : goal.expand_arguments-arguments-preserved
expand_arguments-arguments-preserved g t c =
    let some : 0 < length c.arguments.left.now = c.in-len1-up.len_at_least in
    left_more g.M.MacroTexts.found g.M.MacroTexts.becomes g.M.MacroTexts.lacks g.met.M.MacroTexts.goes_on g.met.M.MacroTexts.lacks_then expanded_view _ _ _ _ c.args.macros.now c.arguments.macros c.expand_text.new.macros _
    (λ texts h. argument_expanded (texts_within texts c.args.levels) c.arguments.left.now _ _ _ (given_view c.arguments.given) _ _ some refl (take_rest c.arguments.left.now 1)
    (ap (map (λ text. text.items)) c.in_ok-push.ensures.items ∙ map-append (λ text. text.items) c.arguments.given.texts.items _) h)
    c.arguments.invariant c.in_ok-bytes.ensures
