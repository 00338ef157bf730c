use Rattle.std.proofs.Common.{◌≡◌, ◌⊎◌, ◌≤◌, Ok, List, ℕ, length, refl, sym, ap, ◌∙◌, subst, inl, arith, length-append}
use Rattle.std.proofs.lemmas.Bool.{false≢true}
use Rattle.script_cut.specs.Cuts.{HasNoCommand}
use Rattle.script_cut.specs.Cutting.{HasCut}
use Rattle.script_cut.specs.Kept.{Kept, kept_bytes}
use Rattle.script_cut.specs.declared.cut.Cut.TheVariants as cuts
use Rattle.script_cut.proofs.CutSteps.{cut_anew, cut_over}
use Rattle.script_cut.proofs.cutter.Cutter.cut.Goals as goal

pub next_item-answer-requires-clause-empty : goal.next_item-answer-requires-clause-empty
next_item-answer-requires-clause-empty g c = c.clear.ensures.items

pub next_item-answer-requires-clause-begun : goal.next_item-answer-requires-clause-begun
next_item-answer-requires-clause-begun g c = c.if-self.false

pub returns-then-self-clause-cut : goal.returns-then-self-clause-cut
returns-then-self-clause-cut g c =
    let P : Kept → Type 0 = λ old. HasCut old (g.S.Source.view c.args.from.now) (Ok cuts.End) (record { text = c.clear.new.self.items; held = c.self.inside.window; room = c.self.inside.room; line = c.self.inside.line; over = c.self.inside.over }) (g.S.Source.view c.args.from.now) in
    subst P c.self.view_is (cut_over (record { text = c.self.inside.text.items; held = c.self.inside.window; room = c.self.inside.room; line = c.self.inside.line; over = c.self.inside.over }) c.clear.new.self.items (g.S.Source.view c.args.from.now) c.if-self.true)

pub returns-then-self-clause-last : goal.returns-then-self-clause-last
returns-then-self-clause-last g c = c.if-self.true

pub returns-then-self-clause-again : goal.returns-then-self-clause-again
returns-then-self-clause-again g c = λ over. (refl, (c.if-self.true, refl))

pub returns-then-self-clause-still : goal.returns-then-self-clause-still
returns-then-self-clause-still g c = inl refl

pub returns-then-self-clause-bound : goal.returns-then-self-clause-bound
returns-then-self-clause-bound g c = omega (arith, length-append c.clear.new.self.items c.self.inside.window, ap length c.clear.ensures.items, c.self.invariant.bytes)

pub returns-then-self-clause-faults : goal.returns-then-self-clause-faults
returns-then-self-clause-faults g c = refl

pub returns-clause-cut : goal.returns-clause-cut
returns-clause-cut g c =
    let P : Kept → Type 0 = λ old. HasCut old (g.S.Source.view c.args.from.now) c.next_item-answer.result c.next_item-answer.new.self (g.S.Source.view c.next_item-answer.new.from) in
    subst P c.self.view_is (cut_anew (record { text = c.self.inside.text.items; held = c.self.inside.window; room = c.self.inside.room; line = c.self.inside.line; over = c.self.inside.over }) c.clear.new.self.items _ _ _ _ c.next_item-answer.ensures.cut)

pub returns-clause-last : goal.returns-clause-last
returns-clause-last g c = c.next_item-answer.ensures.last

pub returns-clause-again : goal.returns-clause-again
returns-clause-again g c = λ over. absurd (false≢true (sym c.if-self.false ∙ (ap (λ (k : Kept). k.over) c.self.view_is ∙ over)))

pub returns-clause-still : goal.returns-clause-still
returns-clause-still g c =
    let P : List ℕ → Type 0 = λ held. (c.next_item-answer.new.from ≡ c.args.from.now) ⊎ HasNoCommand held in
    subst P (ap (λ (k : Kept). k.held) c.self.view_is) c.next_item-answer.ensures.still

pub returns-clause-bound : goal.returns-clause-bound
returns-clause-bound g c =
    let P : Kept → Type 0 = λ k. length (kept_bytes k) ≤ 65537 in
    subst P c.self-2.view_is (omega (arith, length-append c.self-2.inside.text.items c.self-2.inside.window, c.self-2.invariant.bytes))

pub returns-clause-faults : goal.returns-clause-faults
returns-clause-faults g c = c.next_item-answer.ensures.faults
