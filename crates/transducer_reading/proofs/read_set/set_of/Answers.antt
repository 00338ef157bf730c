use Rattle.std.proofs.Common.{◌≡◌, get_or, not, pos, refl, rules}
use Rattle.std.proofs.lemmas.Int.{to_z-of_z}
use mir.Val.{SFits}
use mir.Syntax.{w32}
use Rattle.dfa_reading.specs.Headers.{has_member, with_member}
use Rattle.dfa_reading.proofs.ReadHeaders.{with_members-twice, with_members-once}
use Rattle.transducer_reading.proofs.read_set.set_of.Goals as goal

pub returns-then-not-branch : goal.returns-then-not-branch
returns-then-not-branch c =
    let m = get_or c.args.numbers.now c.loop-number.number-index (pos 0) in
    let fits : SFits w32 m = search rules in
    let added : c.in_ok-insert.field-0 ≡ not (has_member c.loop-number.set.keys m) = simp to_z-of_z at c.in_ok-insert.ensures.added in
    with_members-twice c.loop-number.set.keys c.args.numbers.now c.loop-number.number-index (pos 0) m c.in_ok-insert.field-0 _ c.loop-number-test.true refl added c.if-not-branch.true c.loop-number.invariant

pub loop-number-preserved : goal.loop-number-preserved
loop-number-preserved c =
    let m = get_or c.args.numbers.now c.loop-number.number-index (pos 0) in
    let fits : SFits w32 m = search rules in
    let added : c.in_ok-insert.field-0 ≡ not (has_member c.loop-number.set.keys m) = simp to_z-of_z at c.in_ok-insert.ensures.added in
    let keys : c.insert.new.self.keys ≡ with_member c.loop-number.set.keys m = simp to_z-of_z at c.in_ok-insert.ensures.keys in
    with_members-once c.loop-number.set.keys c.args.numbers.now c.insert.new.self.keys c.loop-number.number-index (pos 0) m c.in_ok-insert.field-0 _ c.loop-number-test.true refl added c.if-not-branch.false keys c.loop-number.invariant
