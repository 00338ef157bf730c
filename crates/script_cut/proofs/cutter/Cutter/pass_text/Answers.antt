use Rattle.std.proofs.Common.{Bool, [], Err, refl, inl, ◌∙◌, subst, ◌≡◌, ℕ, ◌+◌, ◌<◌, length, arith, length-drop}
use Rattle.std.proofs.lemmas.Result.{err_from_is_err_and}
use Rattle.wal_outside.specs.Causes.{CountsFault}
use Rattle.script_cut.specs.Asking.{is_failed_cut}
use Rattle.script_cut.specs.Passing.{HasHeld}
use Rattle.script_cut.proofs.CallEnds.{still_after_text}
use Rattle.script_cut.proofs.ReadingSteps.{text_still-more, text_still-read}
use Rattle.script_cut.proofs.PassingSteps.{text_none, text_over, text_more, text_end, text_done, text_stop}
use Rattle.script_cut.proofs.cutter.Cutter.pass_text.Goals as goal

pub pieces-init : goal.pieces-init
pieces-init g c = record {
  text = text_none c.args.self.now (g.S.Source.view c.args.from.now) c.requires.empty c.requires.begun;
  still = inl (refl, record { text = []; split = refl; whole = refl; open_is = refl });
  faults = refl;
}

pub returns-in_default-clause-text : goal.returns-in_default-clause-text
returns-in_default-clause-text g c =
    text_over c.args.self.now c.pieces.self c.supply.new.self (g.S.Source.view c.args.from.now) (g.S.Source.view c.pieces.from) (g.S.Source.view c.supply.new.from) c.pieces.len c.pieces.quoted c.pieces.invariant.text c.supply.ensures.passes c.supply.ensures.text (rw c.in_default.is at c.in_ok-count.ensures.supplies)

pub returns-in_err-count-clause-text : goal.returns-in_err-count-clause-text
returns-in_err-count-clause-text g c =
    let p = err_from_is_err_and c.from_residual.result c.from_residual.ensures.1 in
    rw (p.1, p.2) (text_stop c.args.self.now c.pieces.self c.supply.new.self (g.S.Source.view c.args.from.now) (g.S.Source.view c.pieces.from) (g.S.Source.view c.supply.new.from) c.pieces.len c.pieces.quoted c.in_err-count.field-0.0 c.pieces.invariant.text c.supply.ensures.passes c.in_err-count.ensures.supplies)

pub returns-in_err-take-clause-text : goal.returns-in_err-take-clause-text
returns-in_err-take-clause-text g c =
    let held : HasHeld c.in-Some.count c.supply.new.self = rw c.in-Some.is at c.in_ok-count.ensures.supplies in
    let p = err_from_is_err_and c.from_residual-in_err-take.result c.from_residual-in_err-take.ensures.1 in
    rw (p.1, p.2, c.in_err-take.ensures.only, c.in_err-take.ensures.memory) (text_stop c.args.self.now c.pieces.self c.supply.new.self (g.S.Source.view c.args.from.now) (g.S.Source.view c.pieces.from) (g.S.Source.view c.supply.new.from) c.pieces.len c.pieces.quoted _ c.pieces.invariant.text c.supply.ensures.passes held.over)

pub returns-then-part-count-clause-text : goal.returns-then-part-count-clause-text
returns-then-part-count-clause-text g c =
    let held : HasHeld c.in-Some.count c.supply.new.self = rw c.in-Some.is at c.in_ok-count.ensures.supplies in
    let n : ℕ = c.text_ahead-part.result.len in
    let end = text_end c.supply.new.self c.pieces.quoted c.in-Some.count n held c.text_ahead-part.ensures.len c.if-part-count.true in
    let some : 0 < length c.take.new.self.held = rw c.in_ok-take.ensures.passed (omega (arith, length-drop n c.supply.new.self.held, held.held, c.if-part-count.true)) in
    let room : 0 < c.take.new.self.room = rw c.in_ok-take.ensures.passed (omega (arith, held.room, c.if-part-count.true)) in
    rw (c.pass_terminator-shown.ensures.passed, c.pass_terminator-shown.ensures.shown) (text_done c.args.self.now c.take.new.self (g.S.Source.view c.args.from.now) (g.S.Source.view c.supply.new.from) (c.pieces.len + n) _
    (rw c.in_ok-take.ensures.passed (text_more c.args.self.now c.pieces.self c.supply.new.self (g.S.Source.view c.args.from.now) (g.S.Source.view c.pieces.from) (g.S.Source.view c.supply.new.from) c.pieces.len c.pieces.quoted c.in-Some.count n c.pieces.invariant.text c.supply.ensures.passes c.supply.ensures.text held c.text_ahead-part.ensures.len c.text_ahead-part.ensures.within))
    end.0 (rw c.in_ok-take.ensures.passed end.1) some room)

pub pieces-preserved : goal.pieces-preserved
pieces-preserved g c =
    let held : HasHeld c.in-Some.count c.supply.new.self = rw c.in-Some.is at c.in_ok-count.ensures.supplies in
    record {
      text = rw (c.in_ok-take.ensures.passed, c.text_ahead-part.ensures.open) (text_more c.args.self.now c.pieces.self c.supply.new.self (g.S.Source.view c.args.from.now) (g.S.Source.view c.pieces.from) (g.S.Source.view c.supply.new.from) c.pieces.len c.pieces.quoted c.in-Some.count c.text_ahead-part.result.len c.pieces.invariant.text c.supply.ensures.passes c.supply.ensures.text held c.text_ahead-part.ensures.len c.text_ahead-part.ensures.within);
      still = rw (c.in_ok-take.ensures.passed, c.text_ahead-part.ensures.open) (text_still-more (c.supply.new.from ≡ c.args.from.now) c.args.self.now c.supply.new.self c.pieces.quoted c.in-Some.count c.text_ahead-part.result.len _ (text_still-read (c.pieces.from ≡ c.args.from.now) (c.supply.new.from ≡ c.pieces.from) (c.supply.new.from ≡ c.args.from.now) c.args.self.now c.pieces.self c.supply.new.self c.pieces.quoted (λ p q. q ∙ p) c.pieces.invariant.still c.supply.ensures.still) c.text_ahead-part.ensures.len c.text_ahead-part.ensures.within);
      faults = c.in_ok-count.ensures.faults ∙ c.pieces.invariant.faults;
    }

pub supply-requires : goal.supply-requires
supply-requires g c = c.pieces.invariant.text.over

pub text_ahead-part-requires : goal.text_ahead-part-requires
text_ahead-part-requires g c =
    let held : HasHeld c.in-Some.count c.supply.new.self = rw c.in-Some.is at c.in_ok-count.ensures.supplies in
    held.held

pub take-requires-clause-held : goal.take-requires-clause-held
take-requires-clause-held g c =
    let held : HasHeld c.in-Some.count c.supply.new.self = rw c.in-Some.is at c.in_ok-count.ensures.supplies in
    omega (arith, c.text_ahead-part.ensures.within, held.held)

pub take-requires-clause-room : goal.take-requires-clause-room
take-requires-clause-room g c =
    let held : HasHeld c.in-Some.count c.supply.new.self = rw c.in-Some.is at c.in_ok-count.ensures.supplies in
    omega (arith, c.text_ahead-part.ensures.within, held.room)

pub returns-in_default-clause-still : goal.returns-in_default-clause-still
returns-in_default-clause-still g c =
    still_after_text (c.supply.new.from ≡ c.args.from.now) c.args.self.now c.supply.new.self c.pieces.quoted (text_still-read (c.pieces.from ≡ c.args.from.now) (c.supply.new.from ≡ c.pieces.from) (c.supply.new.from ≡ c.args.from.now) c.args.self.now c.pieces.self c.supply.new.self c.pieces.quoted (λ p q. q ∙ p) c.pieces.invariant.still c.supply.ensures.still)

pub returns-in_default-clause-faults : goal.returns-in_default-clause-faults
returns-in_default-clause-faults g c = c.in_ok-count.ensures.faults ∙ c.pieces.invariant.faults

pub returns-in_err-count-clause-still : goal.returns-in_err-count-clause-still
returns-in_err-count-clause-still g c =
    still_after_text (c.supply.new.from ≡ c.args.from.now) c.args.self.now c.supply.new.self c.pieces.quoted (text_still-read (c.pieces.from ≡ c.args.from.now) (c.supply.new.from ≡ c.pieces.from) (c.supply.new.from ≡ c.args.from.now) c.args.self.now c.pieces.self c.supply.new.self c.pieces.quoted (λ p q. q ∙ p) c.pieces.invariant.still c.supply.ensures.still)

pub returns-in_err-count-clause-faults : goal.returns-in_err-count-clause-faults
returns-in_err-count-clause-faults g c =
    let p = err_from_is_err_and c.from_residual.result c.from_residual.ensures.1 in
    let P : ℕ → Type 0 = λ before. CountsFault (is_failed_cut {T = Bool} (Err c.in_err-count.field-0.0)) before (g.S.Source.view c.supply.new.from).faults in
    rw (p.1, p.2) (subst P c.pieces.invariant.faults c.in_err-count.ensures.faults)

pub returns-then-part-count-clause-faults : goal.returns-then-part-count-clause-faults
returns-then-part-count-clause-faults g c = c.in_ok-count.ensures.faults ∙ c.pieces.invariant.faults

pub take-requires-clause-fits : goal.take-requires-clause-fits
take-requires-clause-fits g c = λ few. let same : c.supply.new.self.text ≡ c.pieces.invariant.text.text = c.supply.ensures.text ∙ c.pieces.invariant.text.text_is (omega (arith, few)) in
    rw same (rw c.pieces.invariant.text.len_is at few)

pub returns-in_err-take-clause-still : goal.returns-in_err-take-clause-still
returns-in_err-take-clause-still g c =
    still_after_text (c.supply.new.from ≡ c.args.from.now) c.args.self.now c.supply.new.self c.pieces.quoted (text_still-read (c.pieces.from ≡ c.args.from.now) (c.supply.new.from ≡ c.pieces.from) (c.supply.new.from ≡ c.args.from.now) c.args.self.now c.pieces.self c.supply.new.self c.pieces.quoted (λ p q. q ∙ p) c.pieces.invariant.still c.supply.ensures.still)

pub returns-then-part-count-clause-still : goal.returns-then-part-count-clause-still
returns-then-part-count-clause-still g c =
    still_after_text (c.supply.new.from ≡ c.args.from.now) c.args.self.now c.supply.new.self c.pieces.quoted (text_still-read (c.pieces.from ≡ c.args.from.now) (c.supply.new.from ≡ c.pieces.from) (c.supply.new.from ≡ c.args.from.now) c.args.self.now c.pieces.self c.supply.new.self c.pieces.quoted (λ p q. q ∙ p) c.pieces.invariant.still c.supply.ensures.still)

pub returns-in_err-take-clause-faults : goal.returns-in_err-take-clause-faults
returns-in_err-take-clause-faults g c =
    let p = err_from_is_err_and c.from_residual-in_err-take.result c.from_residual-in_err-take.ensures.1 in
    rw (p.1, p.2, c.in_err-take.ensures.only) (c.in_ok-count.ensures.faults ∙ c.pieces.invariant.faults)

pub pass_terminator-shown-requires-clause-held : goal.pass_terminator-shown-requires-clause-held
pass_terminator-shown-requires-clause-held g c =
    let held : HasHeld c.in-Some.count c.supply.new.self = rw c.in-Some.is at c.in_ok-count.ensures.supplies in
    rw c.in_ok-take.ensures.passed (omega (arith, length-drop c.text_ahead-part.result.len c.supply.new.self.held, held.held, c.if-part-count.true))

pub pass_terminator-shown-requires-clause-room : goal.pass_terminator-shown-requires-clause-room
pass_terminator-shown-requires-clause-room g c =
    let held : HasHeld c.in-Some.count c.supply.new.self = rw c.in-Some.is at c.in_ok-count.ensures.supplies in
    rw c.in_ok-take.ensures.passed (omega (arith, held.room, c.if-part-count.true))

pub pieces-smaller : goal.pieces-smaller
pieces-smaller g c =
    let held : HasHeld c.in-Some.count c.supply.new.self = rw c.in-Some.is at c.in_ok-count.ensures.supplies in
    rw c.in_ok-take.ensures.passed (omega (arith, c.if-part-count.false, held.some, held.room, c.supply.ensures.passes.passes.room_is))
