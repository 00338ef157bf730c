use Rattle.std.proofs.Common.{Some, ap, sym, ◌∙◌, rules, arith, below_more}
use Rattle.std.proofs.lemmas.Int.{to_z-of_z}
use mir.Val.{SFits}
use mir.Syntax.{w32}
use Rattle.product_op.specs.Readings.{flags_at, readings_in}
use Rattle.combinations.specs.Parts.{PartValue}
use Rattle.combinations.proofs.HeldLemmas.{first_held-at, first_held-none, flag_of_reader}
use Rattle.combinations.proofs.held_letters.first_value.Goals as goal

pub returns-then-accepts : goal.returns-then-accepts
returns-then-accepts c =
    let parts = c.args.parts.now in
    let place = c.loop-place.place in
    let part = c.index-parts-place.result in
    let flags = flags_at (readings_in c.args.readers.now) c.args.key.now in
    let set =
    flag_of_reader c.args.readers.now c.args.key.now place c.index-readers-place.result c.accepts.result (omega (arith, c.loop-place-test.true, c.requires.enough)) c.index-readers-place.is c.accepts.ensures
    ∙ c.if-accepts.true in
    let fits : SFits w32 c.value.result = search rules in
    simp to_z-of_z
    (ap Some (c.value.ensures ∙ ap (λ (p : PartValue). p.value) c.index-parts-place.is) ∙ sym (first_held-at c.args.rest parts flags place part c.loop-place-test.true c.loop-place.invariant set))

pub loop-place-preserved : goal.loop-place-preserved
loop-place-preserved c =
    below_more _ _ c.loop-place.invariant
    (flag_of_reader c.args.readers.now c.args.key.now c.loop-place.place c.index-readers-place.result c.accepts.result (omega (arith, c.loop-place-test.true, c.requires.enough)) c.index-readers-place.is c.accepts.ensures
    ∙ c.if-accepts.false)

pub returns : goal.returns
returns c =
    sym (first_held-none c.args.rest c.args.parts.now (flags_at (readings_in c.args.readers.now) c.args.key.now)
    (λ k less. c.loop-place.invariant k (omega (arith, less, c.loop-place-test.false))))
