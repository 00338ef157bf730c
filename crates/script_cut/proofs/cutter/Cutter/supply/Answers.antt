use Rattle.std.proofs.Common.{◌≡◌, true, [], length, refl, sym, ap, ◌∙◌, subst, arith}
use Rattle.std.proofs.lemmas.List.{nil_from_length}
use Rattle.std.proofs.lemmas.Result.{err_from_is_err_and}
use Rattle.script_cut.specs.Kept.{Kept}
use Rattle.script_cut.specs.Passing.{IsSupplied}
use Rattle.script_cut.proofs.CallEnds.{refill_stops}
use Rattle.script_cut.proofs.PassingSteps.{supplied-over}
use Rattle.script_cut.proofs.cutter.Cutter.supply.Goals as goal

pub returns-then-held-eq0-clause-passes : goal.returns-then-held-eq0-clause-passes
returns-then-held-eq0-clause-passes g c =
    let P : Kept → Type 0 = λ new. IsSupplied c.args.self.now (g.S.Source.view c.args.from.now) (record new { over = true }) (g.S.Source.view c.refill.new.from) in
    subst P (sym c.self.view_is) (supplied-over _ _ _ _ c.in_ok-refill.ensures.supplied)

pub returns-then-held-eq0-clause-supplies : goal.returns-then-held-eq0-clause-supplies
returns-then-held-eq0-clause-supplies g c =
    let none : c.self.inside.window ≡ [] = nil_from_length c.self.inside.window (sym (ap length c.bytes-held.ensures) ∙ c.if-held-eq0.true) in
    record { over = refl; held = none; ended = c.in_ok-refill.ensures.ended (sym (ap (λ (k : Kept). k.held) c.self.view_is) ∙ none) }

pub returns-then-held-eq0-clause-still : goal.returns-then-held-eq0-clause-still
returns-then-held-eq0-clause-still g c = λ some. let here = c.in_ok-refill.ensures.still some in (here.0, ap (λ (k : Kept). k.held) c.self.view_is ∙ here.1)

pub returns-then-held-eq0-clause-text : goal.returns-then-held-eq0-clause-text
returns-then-held-eq0-clause-text g c = ap (λ (k : Kept). k.text) (c.self.view_is ∙ c.in_ok-refill.ensures.same)

pub returns-then-held-eq0-clause-faults : goal.returns-then-held-eq0-clause-faults
returns-then-held-eq0-clause-faults g c = c.in_ok-refill.ensures.faults

pub returns-then-self-eq0-clause-passes : goal.returns-then-self-eq0-clause-passes
returns-then-self-eq0-clause-passes g c = c.in_ok-refill.ensures.supplied

pub returns-then-self-eq0-clause-supplies : goal.returns-then-self-eq0-clause-supplies
returns-then-self-eq0-clause-supplies g c = (
  (λ none. c.if-held-eq0.false (ap length (c.bytes-held.ensures ∙ (ap (λ (k : Kept). k.held) c.self.view_is ∙ none)))),
  sym (ap (λ (k : Kept). k.room) c.self.view_is) ∙ c.if-self-eq0.true,
  ap (λ (k : Kept). k.line) c.self.view_is,
  ap (λ (k : Kept). k.over) c.in_ok-refill.ensures.same ∙ c.requires,
)

pub returns-then-self-eq0-clause-still : goal.returns-then-self-eq0-clause-still
returns-then-self-eq0-clause-still g c = c.in_ok-refill.ensures.still

pub returns-then-self-eq0-clause-text : goal.returns-then-self-eq0-clause-text
returns-then-self-eq0-clause-text g c = ap (λ (k : Kept). k.text) c.in_ok-refill.ensures.same

pub returns-then-self-eq0-clause-faults : goal.returns-then-self-eq0-clause-faults
returns-then-self-eq0-clause-faults g c = c.in_ok-refill.ensures.faults

pub returns-in_err-refill-clause-passes : goal.returns-in_err-refill-clause-passes
returns-in_err-refill-clause-passes g c = c.in_err-refill.ensures.supplied

pub returns-in_err-refill-clause-supplies : goal.returns-in_err-refill-clause-supplies
returns-in_err-refill-clause-supplies g c =
    let p = err_from_is_err_and c.from_residual.result c.from_residual.ensures.1 in
    rw (p.1, p.2) (refill_stops c.args.self.now c.refill.new.self (g.S.Source.view c.refill.new.from) c.in_err-refill.field-0.0 c.in_err-refill.ensures.ended (ap (λ (k : Kept). k.over) c.in_err-refill.ensures.same ∙ c.requires))

pub returns-in_err-refill-clause-still : goal.returns-in_err-refill-clause-still
returns-in_err-refill-clause-still g c = c.in_err-refill.ensures.still

pub returns-in_err-refill-clause-text : goal.returns-in_err-refill-clause-text
returns-in_err-refill-clause-text g c = ap (λ (k : Kept). k.text) c.in_err-refill.ensures.same

pub returns-in_err-refill-clause-faults : goal.returns-in_err-refill-clause-faults
returns-in_err-refill-clause-faults g c =
    let p = err_from_is_err_and c.from_residual.result c.from_residual.ensures.1 in
    rw (p.1, p.2) c.in_err-refill.ensures.faults

pub returns-clause-passes : goal.returns-clause-passes
returns-clause-passes g c = c.in_ok-refill.ensures.supplied

pub returns-clause-supplies : goal.returns-clause-supplies
returns-clause-supplies g c =
    let held : length c.bytes-held.result.now ≡ length c.refill.new.self.held = ap length (c.bytes-held.ensures ∙ ap (λ (k : Kept). k.held) c.self.view_is) in
    let room : c.self.inside.room ≡ c.refill.new.self.room = ap (λ (k : Kept). k.room) c.self.view_is in
    record {
      some = omega (arith, c.min.ensures, c.if-held-eq0.false, c.if-self-eq0.false);
      held = omega (arith, c.min.ensures, held);
      room = omega (arith, c.min.ensures, room);
      over = ap (λ (k : Kept). k.over) c.in_ok-refill.ensures.same ∙ c.requires;
    }

pub returns-clause-still : goal.returns-clause-still
returns-clause-still g c = c.in_ok-refill.ensures.still

pub returns-clause-text : goal.returns-clause-text
returns-clause-text g c = ap (λ (k : Kept). k.text) c.in_ok-refill.ensures.same

pub returns-clause-faults : goal.returns-clause-faults
returns-clause-faults g c = c.in_ok-refill.ensures.faults
