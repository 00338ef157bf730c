use Rattle.std.proofs.Common.{◌≡◌, ℕ, ◌+◌, ◌≤◌, ◌==◌, List, [], length, refl, sym, ap, ◌∙◌, arith, subst}
use Rattle.std.proofs.lemmas.Bool.{eqb-true, false≢true}
use Rattle.std.proofs.lemmas.List.{nil_from_length}
use Rattle.script_cut.specs.Kept.{Kept}
use Rattle.script_cut.specs.Passing.{IsSupplied}
use Rattle.script_cut.proofs.PassingSteps.{supplied-held, supplied-call, supplied-failed}
use Rattle.script_cut.proofs.cutter.Cutter.refill.Goals as goal

pub returns-then-not-is_empty-clause-supplied : goal.returns-then-not-is_empty-clause-supplied
returns-then-not-is_empty-clause-supplied g c = supplied-held c.args.self.now (g.S.Source.view c.args.from.now)

pub returns-in-Err-clause-supplied : goal.returns-in-Err-clause-supplied
returns-in-Err-clause-supplied g c =
    let empty : length c.self.inside.window ≡ 0 = ap length (sym c.bytes.ensures) ∙ eqb-true (length c.bytes.result.now) 0 (sym c.is_empty.ensures ∙ c.if-not-is_empty.false) in
    let none : c.self.inside.window ≡ [] = nil_from_length c.self.inside.window empty in
    let P : Kept → Type 0 = λ old. IsSupplied old (g.S.Source.view c.args.from.now) (record { text = c.self.inside.text.items; held = c.fill.new.self; room = c.self.inside.room; line = c.self.inside.line; over = c.self.inside.over }) (g.S.Source.view c.fill.new.from) in
    subst P c.self.view_is (supplied-failed _ _ _ c.fill.new.self none c.in-Err.ensures.filled)

pub returns-clause-supplied : goal.returns-clause-supplied
returns-clause-supplied g c =
    let empty : length c.self.inside.window ≡ 0 = ap length (sym c.bytes.ensures) ∙ eqb-true (length c.bytes.result.now) 0 (sym c.is_empty.ensures ∙ c.if-not-is_empty.false) in
    let none : c.self.inside.window ≡ [] = nil_from_length c.self.inside.window empty in
    let few : length c.fill.new.self ≤ c.self.inside.room + 1 = omega (arith, c.fill.ensures.within, c.min-most.ensures) in
    let P : Kept → Type 0 = λ old. IsSupplied old (g.S.Source.view c.args.from.now) (record { text = c.self.inside.text.items; held = c.fill.new.self; room = c.self.inside.room; line = c.self.inside.line; over = c.self.inside.over }) (g.S.Source.view c.fill.new.from) in
    subst P c.self.view_is (supplied-call _ _ _ c.fill.new.self none c.in_default.ensures.filled.0 few)

pub returns-then-not-is_empty-clause-ended : goal.returns-then-not-is_empty-clause-ended
returns-then-not-is_empty-clause-ended g c = λ none.
    let P : List ℕ → Type 0 = λ held. c.is_empty.result ≡ (length held == 0) in
    absurd (false≢true (sym c.if-not-is_empty.true ∙ subst P (c.bytes.ensures ∙ (ap (λ (k : Kept). k.held) c.self.view_is ∙ none)) c.is_empty.ensures))

pub returns-then-not-is_empty-clause-still : goal.returns-then-not-is_empty-clause-still
returns-then-not-is_empty-clause-still g c = λ some. (refl, refl)

pub returns-then-not-is_empty-clause-same : goal.returns-then-not-is_empty-clause-same
returns-then-not-is_empty-clause-same g c = refl

pub returns-then-not-is_empty-clause-faults : goal.returns-then-not-is_empty-clause-faults
returns-then-not-is_empty-clause-faults g c = refl

pub returns-in-Err-clause-ended : goal.returns-in-Err-clause-ended
returns-in-Err-clause-ended g c = c.in-Err.ensures.filled.1

pub returns-in-Err-clause-still : goal.returns-in-Err-clause-still
returns-in-Err-clause-still g c = λ some.
    let empty : length c.self.inside.window ≡ 0 = ap length (sym c.bytes.ensures) ∙ eqb-true (length c.bytes.result.now) 0 (sym c.is_empty.ensures ∙ c.if-not-is_empty.false) in
    absurd (some (sym (ap (λ (k : Kept). k.held) c.self.view_is) ∙ nil_from_length c.self.inside.window empty))

pub returns-in-Err-clause-same : goal.returns-in-Err-clause-same
returns-in-Err-clause-same g c = ap (λ (k : Kept). let next : Kept = record k { held = c.fill.new.self } in next) c.self.view_is

pub returns-in-Err-clause-faults : goal.returns-in-Err-clause-faults
returns-in-Err-clause-faults g c = c.in-Err.ensures.faults

pub returns-clause-ended : goal.returns-clause-ended
returns-clause-ended g c = c.in_default.ensures.filled.1

pub returns-clause-still : goal.returns-clause-still
returns-clause-still g c = λ some.
    let empty : length c.self.inside.window ≡ 0 = ap length (sym c.bytes.ensures) ∙ eqb-true (length c.bytes.result.now) 0 (sym c.is_empty.ensures ∙ c.if-not-is_empty.false) in
    absurd (some (sym (ap (λ (k : Kept). k.held) c.self.view_is) ∙ nil_from_length c.self.inside.window empty))

pub returns-clause-same : goal.returns-clause-same
returns-clause-same g c = ap (λ (k : Kept). let next : Kept = record k { held = c.fill.new.self } in next) c.self.view_is

pub returns-clause-faults : goal.returns-clause-faults
returns-clause-faults g c = c.in_default.ensures.faults
