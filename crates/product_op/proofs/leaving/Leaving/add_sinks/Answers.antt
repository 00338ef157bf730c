use Rattle.std.proofs.Common.{◌-◌, length, refl, sym, ap, ◌∙◌, subst, arith}
use Rattle.std.specs.List.{Contains}
use Rattle.product_op.specs.Readings.{Reading, reading_at, reading_in, readings_in, state_at}
use Rattle.product_op.proofs.DeadExitLemmas.{LeadsOut-same}
use Rattle.product_op.proofs.DeadMarkLemmas.{length-parts, next_key-sinks}
use Rattle.product_op.proofs.leaving.Leaving.add_sinks.Goals as goal

pub common_exit-requires-clause-first_count : goal.common_exit-requires-clause-first_count
common_exit-requires-clause-first_count c =
    let l = c.args.self.now in
    ap (λ (r : Reading). length r.parts) c.requires.reader ∙ length-parts l.graph.letters l.graph.op (readings_in l.graph.readers.now) c.requires.leaving.pair l.own c.requires.leaving.own

pub common_exit-requires-clause-second_count : goal.common_exit-requires-clause-second_count
common_exit-requires-clause-second_count c =
    let l = c.args.self.now in
    ap (λ (r : Reading). length r.parts) c.requires.leaving.reader ∙ length-parts l.graph.letters l.graph.op (readings_in l.graph.readers.now) c.requires.leaving.pair (1 - l.own) (omega arith)

pub returns-then-both-clause-there : goal.returns-then-both-clause-there
returns-then-both-clause-there c a small out gone =
    let l = c.args.self.now in
    let rs = readings_in l.graph.readers.now in
    subst (Contains c.args.keys.now) (sym (next_key-sinks rs c.requires.leaving.pair.count l.own c.requires.leaving.own l.key.now a out gone)) (c.requires.marked c.if-both.true)

pub returns-in_default-clause-there : goal.returns-in_default-clause-there
returns-in_default-clause-there c a small out gone =
    let l = c.args.self.now in
    let rs = readings_in l.graph.readers.now in
    let key = l.key.now in
    let own = c.args.own.now in
    let other = l.other.now in
    absurd (c.in_default.ensures a small (
      LeadsOut-same (reading_in own.reader.now) (reading_at rs l.own) own.state (state_at key l.own) a (sym c.requires.reader) (sym c.requires.state) out,
      LeadsOut-same (reading_in other.reader.now) (reading_at rs (1 - l.own)) other.state (state_at key (1 - l.own)) a (sym c.requires.leaving.reader) (sym c.requires.leaving.state) gone,
    ))

pub returns-in_ok-add_after-clause-marked : goal.returns-in_ok-add_after-clause-marked
returns-in_ok-add_after-clause-marked c same =
    let l = c.args.self.now in
    let rs = readings_in l.graph.readers.now in
    let key = l.key.now in
    let own = c.args.own.now in
    let other = l.other.now in
    let a = c.in-Some.letter in
    subst (Contains c.add_after.new.keys) (next_key-sinks rs c.requires.leaving.pair.count l.own c.requires.leaving.own key a
    (LeadsOut-same (reading_at rs l.own) (reading_in own.reader.now) (state_at key l.own) own.state a c.requires.reader c.requires.state c.in-Some.ensures.1)
    (LeadsOut-same (reading_at rs (1 - l.own)) (reading_in other.reader.now) (state_at key (1 - l.own)) other.state a c.requires.leaving.reader c.requires.leaving.state c.in-Some.ensures.2))
    c.in_ok-add_after.ensures.there

pub returns-in_ok-add_after-clause-there : goal.returns-in_ok-add_after-clause-there
returns-in_ok-add_after-clause-there c a small out gone =
    let l = c.args.self.now in
    let rs = readings_in l.graph.readers.now in
    subst (Contains c.add_after.new.keys) (sym (next_key-sinks rs c.requires.leaving.pair.count l.own c.requires.leaving.own l.key.now a out gone)) (returns-in_ok-add_after-clause-marked c refl)
