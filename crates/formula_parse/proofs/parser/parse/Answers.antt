use Rattle.std.proofs.Common.{subst, Result}
use Rattle.formula_parse.specs.StateViews.{state_view}
use Rattle.formula_parse.specs.LexemeViews.{mode_view, lexed_view}
use Rattle.formula_parse.specs.Advances.{Advances}
use Rattle.formula_parse.specs.declared.fault.ParseFault.{ParseFault}
use Rattle.formula_parse.specs.declared.state.State.{State}
use Rattle.formula_parse.proofs.ParseSteps.{place_start, place_next, place_fault, place_done, place_finish}
use Rattle.formula_parse.proofs.parser.parse.Goals as goal

pub loop-spot-init : goal.loop-spot-init
loop-spot-init c = place_start c.args.text.now (state_view c.in_ok-state.state) c.in_ok-state.ensures

pub returns-in-Err : goal.returns-in-Err
returns-in-Err c =
    let s = state_view c.loop-spot.state in
    let r = c.in-Ok.spot in
    place_fault
    c.args.text.now
    (mode_view c.loop-spot.mode)
    c.loop-spot.at
    s
    r
    c.in-Err.fault
    c.loop-spot.invariant
    c.in-Ok.ensures
    (subst (λ (x : Result State ParseFault). Advances s (lexed_view r.lexed) r.at x) c.in-Err.is c.read_spot.ensures)

pub finish-requires : goal.finish-requires
finish-requires c =
    let r = c.in-Ok.spot in
    place_done (state_view c.loop-spot.state) (lexed_view r.lexed) r.at c.in-Ok-read_spot.next (c.is_end-ends.ensures.0 c.if-ends.true) c.in-Ok-read_spot.ensures

pub returns-then-ends : goal.returns-then-ends
returns-then-ends c =
    let r = c.in-Ok.spot in
    place_finish
    c.args.text.now
    (mode_view c.loop-spot.mode)
    c.loop-spot.at
    (state_view c.loop-spot.state)
    r
    c.in-Ok-read_spot.next
    c.finish.result
    c.loop-spot.invariant
    c.in-Ok.ensures
    (c.is_end-ends.ensures.0 c.if-ends.true)
    c.in-Ok-read_spot.ensures
    c.finish.ensures

pub loop-spot-preserved : goal.loop-spot-preserved
loop-spot-preserved c =
    let r = c.in-Ok.spot in
    place_next
    c.args.text.now
    (mode_view c.loop-spot.mode)
    (mode_view c.mode_after-mode.result)
    c.loop-spot.at
    (state_view c.loop-spot.state)
    r
    c.in-Ok-read_spot.next
    c.loop-spot.invariant
    c.in-Ok.ensures
    c.in-Ok-read_spot.ensures
    c.mode_after-mode.ensures
    (λ h. let yes = c.is_end-ends.ensures.1 h in absurd (cc c.if-ends.false))
