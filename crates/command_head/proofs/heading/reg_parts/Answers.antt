use Rattle.std.proofs.Common.{ℕ, List, sym, length, Result, Ok, Err, IfOk, subst}
use Rattle.std.proofs.lemmas.Result.{err_from_is_err_and}
use Rattle.command_head.specs.declared.fault.HeadFault.{HeadFault}
use Rattle.command_head.specs.declared.head.RegParts.{RegParts}
use Rattle.command_head.specs.Readings.{Reads, placed}
use Rattle.command_head.specs.Heads.{AtWord, step, reg_at}
use Rattle.command_head.specs.HeadViews.{alphabets_of, head_view, stage_view}
use Rattle.command_head.specs.Formed.{AreFormed}
use Rattle.command_head.proofs.ReadingSteps.{Fails-handed_on}
use Rattle.command_head.proofs.HeadShape.{reg_formed, reg_refused, left_first, left_more, left_refused, left_none, few_open}
use Rattle.command_head.proofs.heading.reg_parts.Goals as goal

pub returns-in_err-stage-clause-read : goal.returns-in_err-stage-clause-read
returns-in_err-stage-clause-read c =
    let p = err_from_is_err_and c.from_residual.result c.from_residual.ensures.1 in
    rw (p.1, p.2)
    (Fails-handed_on _ (placed 0 (step AtWord c.split_at.result.0.now)) (reg_at c.args.text.now)
    (λ e h. reg_refused c.args.text.now e (rw (← c.prefix_len.ensures.len, ← c.split_at.ensures.front) h)) c.in_err-stage.ensures)

pub parts-init : goal.parts-init
parts-init c = left_first c.args.text.now _ _ _ c.prefix_len.result _ _ _ c.prefix_len.ensures.len c.split_at.ensures.front c.split_at.ensures.back c.rest_of-rest.ensures.whole c.rest_of-rest.ensures.blank c.rest_of-rest.ensures.bytes c.in_ok-stage.ensures

pub step-requires-in-parts : goal.step-requires-in-parts
step-requires-in-parts c = few_open c.args.text.now (stage_view c.parts.stage) _ _ _ c.requires c.parts.invariant

pub returns-in_err-stage-2-clause-read : goal.returns-in_err-stage-2-clause-read
returns-in_err-stage-2-clause-read c =
    let p = err_from_is_err_and c.from_residual-in_err-stage-2.result c.from_residual-in_err-stage-2.ensures.1 in
    rw (p.1, p.2)
    (Fails-handed_on _ (placed c.first_part-part.result.at (step (stage_view c.parts.stage) c.first_part-part.result.bytes.now)) (reg_at c.args.text.now)
    (λ e h. left_refused c.args.text.now (stage_view c.parts.stage) _ _ _ _ _ c.is_empty.result c.parts.invariant c.is_empty.ensures c.parts-test.true c.first_part-part.ensures.at c.first_part-part.ensures.bytes e h)
    c.in_err-stage-2.ensures)

pub parts-smaller : goal.parts-smaller
parts-smaller c =
    (left_more c.args.text.now (stage_view c.parts.stage) _ _ _ _ _ _ _ _ _ c.is_empty.result c.parts.invariant c.is_empty.ensures c.parts-test.true c.first_part-part.ensures.at c.first_part-part.ensures.bytes
    c.first_part-part.ensures.whole c.first_part-part.ensures.blank c.first_part-part.ensures.rest c.in_ok-stage-2.ensures).shorter

pub parts-preserved : goal.parts-preserved
parts-preserved c =
    (left_more c.args.text.now (stage_view c.parts.stage) _ _ _ _ _ _ _ _ _ c.is_empty.result c.parts.invariant c.is_empty.ensures c.parts-test.true c.first_part-part.ensures.at c.first_part-part.ensures.bytes
    c.first_part-part.ensures.whole c.first_part-part.ensures.blank c.first_part-part.ensures.rest c.in_ok-stage-2.ensures).left

pub returns-clause-read : goal.returns-clause-read
returns-clause-read c =
    let same = left_none c.args.text.now (stage_view c.parts.stage) _ _ _ c.is_empty.result c.parts.invariant c.is_empty.ensures c.parts-test.false in
    subst (Reads head_view c.end.result) (sym same) c.end.ensures

-- what is read gives tracks that are well formed
formed : (result : Result RegParts HeadFault) (text : List ℕ) → Reads head_view result (reg_at text) → IfOk result (λ parts. AreFormed (length text) (alphabets_of parts.alphabets))
formed (Ok parts) text h = reg_formed text (head_view parts) h
formed (Err e) text h = tt

pub returns-clause-formed : goal.returns-clause-formed
returns-clause-formed c =
    let same = left_none c.args.text.now (stage_view c.parts.stage) _ _ _ c.is_empty.result c.parts.invariant c.is_empty.ensures c.parts-test.false in
    formed c.end.result c.args.text.now (subst (Reads head_view c.end.result) (sym same) c.end.ensures)
