use Rattle.std.proofs.Common.{Bool, [], Err, refl, inl, ◌∙◌, subst, ◌≡◌, ℕ, ◌-◌, ◌<◌, arith}
use Rattle.std.proofs.lemmas.Result.{err_from_is_err_and}
use Rattle.wal_outside.specs.Causes.{CountsFault}
use Rattle.script_cut.specs.Asking.{is_failed_cut}
use Rattle.script_cut.specs.Kept.{advance}
use Rattle.script_cut.specs.Passing.{HasHeld}
use Rattle.script_cut.specs.Reading.{IsStillInGaps}
use Rattle.script_cut.proofs.CallEnds.{still_after}
use Rattle.script_cut.proofs.ReadingSteps.{gaps_still-more, gaps_still-read}
use Rattle.script_cut.proofs.PassingSteps.{gaps_none, gaps_more, gaps_end, gaps_done, gaps_over, gaps_stop}
use Rattle.script_cut.proofs.cutter.Cutter.pass_gaps.Goals as goal

pub pieces-init : goal.pieces-init
pieces-init g c = record {
  gaps = gaps_none c.args.self.now (g.S.Source.view c.args.from.now) c.requires;
  still = inl (refl, record { before = []; split = refl; gaps = refl; open_is = refl });
  text = refl;
  faults = refl;
}

pub returns-in_err-count-clause-gaps : goal.returns-in_err-count-clause-gaps
returns-in_err-count-clause-gaps g c =
    let p = err_from_is_err_and c.from_residual.result c.from_residual.ensures.1 in
    rw (p.1, p.2) (gaps_stop c.args.self.now c.pieces.self c.supply.new.self (g.S.Source.view c.args.from.now) (g.S.Source.view c.pieces.from) (g.S.Source.view c.supply.new.from) c.pieces.commented c.in_err-count.field-0.0 c.pieces.invariant.gaps c.supply.ensures.passes c.in_err-count.ensures.supplies)

pub returns-in_default-clause-gaps : goal.returns-in_default-clause-gaps
returns-in_default-clause-gaps g c =
    gaps_over c.args.self.now c.pieces.self c.supply.new.self (g.S.Source.view c.args.from.now) (g.S.Source.view c.pieces.from) (g.S.Source.view c.supply.new.from) c.pieces.commented c.pieces.invariant.gaps c.supply.ensures.passes (rw c.in_default.is at c.in_ok-count.ensures.supplies)

pub returns-then-part-count-clause-gaps : goal.returns-then-part-count-clause-gaps
returns-then-part-count-clause-gaps g c =
    let held : HasHeld c.in-Some.count c.supply.new.self = rw c.in-Some.is at c.in_ok-count.ensures.supplies in
    let n : ℕ = c.gaps_ahead-part.result.len in
    let end = gaps_end c.supply.new.self c.pieces.commented c.in-Some.count n held c.gaps_ahead-part.ensures.len c.if-part-count.true in
    let room : 0 < c.supply.new.self.room - n = omega (arith, held.room, c.if-part-count.true) in
    rw c.pass.ensures (gaps_done c.args.self.now _ (g.S.Source.view c.args.from.now) (g.S.Source.view c.supply.new.from) _ (gaps_more c.args.self.now c.pieces.self c.supply.new.self (g.S.Source.view c.args.from.now) (g.S.Source.view c.pieces.from) (g.S.Source.view c.supply.new.from) c.pieces.commented c.in-Some.count n c.pieces.invariant.gaps c.supply.ensures.passes held c.gaps_ahead-part.ensures.len c.gaps_ahead-part.ensures.within) end.0 end.1 room)

pub pieces-preserved : goal.pieces-preserved
pieces-preserved g c =
    let held : HasHeld c.in-Some.count c.supply.new.self = rw c.in-Some.is at c.in_ok-count.ensures.supplies in
    record {
      gaps = rw (c.pass.ensures, c.gaps_ahead-part.ensures.open) (gaps_more c.args.self.now c.pieces.self c.supply.new.self (g.S.Source.view c.args.from.now) (g.S.Source.view c.pieces.from) (g.S.Source.view c.supply.new.from) c.pieces.commented c.in-Some.count c.gaps_ahead-part.result.len c.pieces.invariant.gaps c.supply.ensures.passes held c.gaps_ahead-part.ensures.len c.gaps_ahead-part.ensures.within);
      still = rw (c.pass.ensures, c.gaps_ahead-part.ensures.open) (gaps_still-more (c.supply.new.from ≡ c.args.from.now) c.args.self.now c.supply.new.self c.pieces.commented c.in-Some.count c.gaps_ahead-part.result.len (gaps_still-read (c.pieces.from ≡ c.args.from.now) (c.supply.new.from ≡ c.pieces.from) (c.supply.new.from ≡ c.args.from.now) c.args.self.now c.pieces.self c.supply.new.self c.pieces.commented (λ p q. q ∙ p) c.pieces.invariant.still c.supply.ensures.still) c.gaps_ahead-part.ensures.len c.gaps_ahead-part.ensures.within);
      text = rw c.pass.ensures (c.supply.ensures.text ∙ c.pieces.invariant.text);
      faults = c.in_ok-count.ensures.faults ∙ c.pieces.invariant.faults;
    }

pub returns-then-part-count-clause-still : goal.returns-then-part-count-clause-still
returns-then-part-count-clause-still g c =
    let held : HasHeld c.in-Some.count c.supply.new.self = rw c.in-Some.is at c.in_ok-count.ensures.supplies in
    let n : ℕ = c.gaps_ahead-part.result.len in
    let end = gaps_end c.supply.new.self c.pieces.commented c.in-Some.count n held c.gaps_ahead-part.ensures.len c.if-part-count.true in
    let P : Bool → Type 0 = λ inside. IsStillInGaps (c.supply.new.from ≡ c.args.from.now) c.args.self.now (advance n c.supply.new.self) inside in
    rw c.pass.ensures (subst P end.0 (gaps_still-more (c.supply.new.from ≡ c.args.from.now) c.args.self.now c.supply.new.self c.pieces.commented c.in-Some.count n (gaps_still-read (c.pieces.from ≡ c.args.from.now) (c.supply.new.from ≡ c.pieces.from) (c.supply.new.from ≡ c.args.from.now) c.args.self.now c.pieces.self c.supply.new.self c.pieces.commented (λ p q. q ∙ p) c.pieces.invariant.still c.supply.ensures.still) c.gaps_ahead-part.ensures.len c.gaps_ahead-part.ensures.within))

pub supply-requires : goal.supply-requires
supply-requires g c = c.pieces.invariant.gaps.over

pub gaps_ahead-part-requires : goal.gaps_ahead-part-requires
gaps_ahead-part-requires g c =
    let held : HasHeld c.in-Some.count c.supply.new.self = rw c.in-Some.is at c.in_ok-count.ensures.supplies in
    held.held

pub pass-requires-clause-held : goal.pass-requires-clause-held
pass-requires-clause-held g c =
    let held : HasHeld c.in-Some.count c.supply.new.self = rw c.in-Some.is at c.in_ok-count.ensures.supplies in
    omega (arith, c.gaps_ahead-part.ensures.within, held.held)

pub pass-requires-clause-room : goal.pass-requires-clause-room
pass-requires-clause-room g c =
    let held : HasHeld c.in-Some.count c.supply.new.self = rw c.in-Some.is at c.in_ok-count.ensures.supplies in
    omega (arith, c.gaps_ahead-part.ensures.within, held.room)

pub returns-in_default-clause-still : goal.returns-in_default-clause-still
returns-in_default-clause-still g c =
    still_after (c.supply.new.from ≡ c.args.from.now) c.args.self.now c.supply.new.self c.pieces.commented (gaps_still-read (c.pieces.from ≡ c.args.from.now) (c.supply.new.from ≡ c.pieces.from) (c.supply.new.from ≡ c.args.from.now) c.args.self.now c.pieces.self c.supply.new.self c.pieces.commented (λ p q. q ∙ p) c.pieces.invariant.still c.supply.ensures.still)

pub returns-in_default-clause-text : goal.returns-in_default-clause-text
returns-in_default-clause-text g c = c.supply.ensures.text ∙ c.pieces.invariant.text

pub returns-in_default-clause-faults : goal.returns-in_default-clause-faults
returns-in_default-clause-faults g c = c.in_ok-count.ensures.faults ∙ c.pieces.invariant.faults

pub returns-in_err-count-clause-still : goal.returns-in_err-count-clause-still
returns-in_err-count-clause-still g c =
    let p = err_from_is_err_and c.from_residual.result c.from_residual.ensures.1 in
    rw p.1 (still_after (c.supply.new.from ≡ c.args.from.now) c.args.self.now c.supply.new.self c.pieces.commented (gaps_still-read (c.pieces.from ≡ c.args.from.now) (c.supply.new.from ≡ c.pieces.from) (c.supply.new.from ≡ c.args.from.now) c.args.self.now c.pieces.self c.supply.new.self c.pieces.commented (λ p q. q ∙ p) c.pieces.invariant.still c.supply.ensures.still))

pub returns-in_err-count-clause-text : goal.returns-in_err-count-clause-text
returns-in_err-count-clause-text g c = c.supply.ensures.text ∙ c.pieces.invariant.text

pub returns-in_err-count-clause-faults : goal.returns-in_err-count-clause-faults
returns-in_err-count-clause-faults g c =
    let p = err_from_is_err_and c.from_residual.result c.from_residual.ensures.1 in
    let P : ℕ → Type 0 = λ before. CountsFault (is_failed_cut {T = Bool} (Err c.in_err-count.field-0.0)) before (g.S.Source.view c.supply.new.from).faults in
    rw (p.1, p.2) (subst P c.pieces.invariant.faults c.in_err-count.ensures.faults)

pub returns-then-part-count-clause-text : goal.returns-then-part-count-clause-text
returns-then-part-count-clause-text g c = rw c.pass.ensures (c.supply.ensures.text ∙ c.pieces.invariant.text)

pub returns-then-part-count-clause-faults : goal.returns-then-part-count-clause-faults
returns-then-part-count-clause-faults g c = c.in_ok-count.ensures.faults ∙ c.pieces.invariant.faults

pub pieces-smaller : goal.pieces-smaller
pieces-smaller g c =
    let held : HasHeld c.in-Some.count c.supply.new.self = rw c.in-Some.is at c.in_ok-count.ensures.supplies in
    rw c.pass.ensures (omega (arith, c.if-part-count.false, held.some, held.room, c.supply.ensures.passes.passes.room_is))
