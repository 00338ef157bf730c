use Rattle.std.proofs.Common.{◌≡◌, ◌+◌, false, true, sym, ap, ◌∙◌, subst, arith, length}
use Rattle.std.specs.List.{Contains}
use Rattle.product_op.specs.DeadPairs.{is_dead_pair}
use Rattle.product_op.specs.Readings.{next_key, readings_in}
use Rattle.product_op.proofs.PairListLemmas.{HasApart-reached, IsNumbered-dead, BeginsWith-itself}
use Rattle.product_op.proofs.KeyLemmas.{length-next_key}
use Rattle.product_op.proofs.PairReaders.{length-pair}
use Rattle.product_op.proofs.leaving.add_if_dead.Goals as goal

pub returns-then-not-is_dead-clause-there : goal.returns-then-not-is_dead-clause-there
returns-then-not-is_dead-clause-there c =
    let g = c.args.graph.now in
    let rs = readings_in g.readers.now in
    let after = c.requires.after in
    let live : is_dead_pair g.op rs (next_key rs after.0 after.2.0) ≡ false = ap (is_dead_pair g.op rs) after.2.2 ∙ sym c.is_dead.ensures ∙ c.if-not-is_dead.true in
    subst (Contains c.args.keys.now) after.2.2 (c.requires.live.live after.0 after.1 after.2.0 after.2.1 live)

pub returns-then-len-limit-clause-states : goal.returns-then-len-limit-clause-states
returns-then-len-limit-clause-states c refused =
    let g = c.args.graph.now in
    let rs = readings_in g.readers.now in
    let dead : is_dead_pair g.op rs c.args.pair.now ≡ true = sym c.is_dead.ensures ∙ c.if-not-is_dead.false in
    let more = IsNumbered-dead g.letters rs g.op c.requires.pair c.args.keys.now c.number_of.new.self c.args.pair.now c.in_ok-number_of.field-0 c.in_ok-number_of.ensures.number c.requires.live c.requires.after dead in
    HasApart-reached g.letters rs c.number_of.new.self (c.args.limit.most + 1) c.len.ensures.apart more.0.reached (omega (arith, c.len.ensures.len, c.if-len-limit.true, more.3, c.requires.few))

pub returns-clause-live : goal.returns-clause-live
returns-clause-live c =
    let g = c.args.graph.now in
    let rs = readings_in g.readers.now in
    let dead : is_dead_pair g.op rs c.args.pair.now ≡ true = sym c.is_dead.ensures ∙ c.if-not-is_dead.false in
    (IsNumbered-dead g.letters rs g.op c.requires.pair c.args.keys.now c.number_of.new.self c.args.pair.now c.in_ok-number_of.field-0 c.in_ok-number_of.ensures.number c.requires.live c.requires.after dead).0

pub is_dead-requires-clause-count : goal.is_dead-requires-clause-count
is_dead-requires-clause-count c =
    let g = c.args.graph.now in
    length-pair g.letters g.op g.readers.now c.requires.pair

pub is_dead-requires-clause-key : goal.is_dead-requires-clause-key
is_dead-requires-clause-key c =
    let g = c.args.graph.now in
    let after = c.requires.after in
    ap length (sym after.2.2) ∙ length-next_key (readings_in g.readers.now) after.0 after.2.0 ∙ c.requires.pair.count

pub returns-then-not-is_dead-clause-live : goal.returns-then-not-is_dead-clause-live
returns-then-not-is_dead-clause-live c = c.requires.live

pub returns-then-not-is_dead-clause-begins : goal.returns-then-not-is_dead-clause-begins
returns-then-not-is_dead-clause-begins c = BeginsWith-itself c.args.keys.now

pub returns-then-not-is_dead-clause-few : goal.returns-then-not-is_dead-clause-few
returns-then-not-is_dead-clause-few c = c.requires.few

pub returns-clause-begins : goal.returns-clause-begins
returns-clause-begins c =
    let g = c.args.graph.now in
    let dead : is_dead_pair c.args.graph.now.op (readings_in c.args.graph.now.readers.now) c.args.pair.now ≡ true = sym c.is_dead.ensures ∙ c.if-not-is_dead.false in
    (IsNumbered-dead g.letters (readings_in g.readers.now) g.op c.requires.pair c.args.keys.now c.number_of.new.self c.args.pair.now c.in_ok-number_of.field-0 c.in_ok-number_of.ensures.number c.requires.live c.requires.after dead).1

pub returns-clause-there : goal.returns-clause-there
returns-clause-there c =
    let g = c.args.graph.now in
    let dead : is_dead_pair c.args.graph.now.op (readings_in c.args.graph.now.readers.now) c.args.pair.now ≡ true = sym c.is_dead.ensures ∙ c.if-not-is_dead.false in
    (IsNumbered-dead g.letters (readings_in g.readers.now) g.op c.requires.pair c.args.keys.now c.number_of.new.self c.args.pair.now c.in_ok-number_of.field-0 c.in_ok-number_of.ensures.number c.requires.live c.requires.after dead).2
