use Rattle.std.proofs.Common.{◌≡◌, ◌-◌, length, sym, ap, ◌∙◌, arith, below_more}
use Rattle.product_op.specs.DeadMarks.{HoldBeside}
use Rattle.product_op.specs.LetterJoins.{letter_at}
use Rattle.product_op.specs.Readings.{Reading, next_key, part_read, reading_at, reading_in, readings_in, state_at}
use Rattle.product_op.proofs.DeadExitLemmas.{LeadsOut-same}
use Rattle.product_op.proofs.DeadMarkLemmas.{HoldBeside-all, length-parts, next_of-at}
use Rattle.product_op.proofs.PairListLemmas.{BeginsWith-trans, Contains-begins}
use Rattle.product_op.proofs.leaving.Leaving.add_targets.Goals as goal

pub returns-then-self-clause-there : goal.returns-then-self-clause-there
returns-then-self-clause-there c a small on out =
    let l = c.args.self.now in
    let rs = readings_in l.graph.readers.now in
    let other = l.other.now in
    let long : length other.reader.now.parts ≡ l.graph.letters = ap (λ (r : Reading). length r.parts) c.requires.leaving.reader ∙ length-parts l.graph.letters l.graph.op rs c.requires.leaving.pair (1 - l.own) (omega arith) in
    absurd (c.requires.leaving.other.leads_on c.if-self.true (part_read (reading_in other.reader.now) a) (c.requires.leaving.other.reading.within a 0 (omega (arith, small, long)))
    (LeadsOut-same (reading_in other.reader.now) (reading_at rs (1 - l.own)) other.state (state_at l.key.now (1 - l.own)) a (sym c.requires.leaving.reader) (sym c.requires.leaving.state) out))

pub add_target-requires-clause-target : goal.add_target-requires-clause-target
add_target-requires-clause-target c =
    let l = c.args.self.now in
    next_of-at (reading_at (readings_in l.graph.readers.now) l.own).automaton (state_at l.key.now l.own) c.args.row.now c.loop-transition.transition-index (record { letter = 0; target = 0 }) c.requires.row c.requires.transitions c.loop-transition-test.true

pub add_target-requires-clause-within : goal.add_target-requires-clause-within
add_target-requires-clause-within c = (c.requires.transitions.in_range c.loop-transition.transition-index (record { letter = 0; target = 0 }) c.loop-transition-test.true).1

pub add_target-requires-clause-key : goal.add_target-requires-clause-key
add_target-requires-clause-key c = Contains-begins c.args.keys.now c.loop-transition.keys c.args.self.now.key.now c.loop-transition.invariant.begins c.requires.key

pub loop-transition-preserved : goal.loop-transition-preserved
loop-transition-preserved c =
    let l = c.args.self.now in
    let rs = readings_in l.graph.readers.now in
    let before = c.loop-transition.keys in
    let after = c.add_target.new.keys in
    let added = c.in_ok-add_target.ensures in
    record {
      live = added.live;
      begins = BeginsWith-trans c.args.keys.now before after c.loop-transition.invariant.begins added.begins;
      few = added.few;
      marked = added.marked;
      there = below_more (λ i. HoldBeside l.graph.letters rs l.own l.key.now (letter_at c.args.row.now i) after) c.loop-transition.transition-index
          (λ i less a low same out. Contains-begins before after (next_key rs l.key.now a) added.begins (c.loop-transition.invariant.there i less a low same out))
          added.there;
    }

pub returns-clause-there : goal.returns-clause-there
returns-clause-there c =
    let l = c.args.self.now in
    HoldBeside-all (readings_in l.graph.readers.now) c.requires.leaving.pair.count l.own c.requires.leaving.own l.key.now l.graph.letters c.loop-transition.keys c.args.row.now (record { letter = 0; target = 0 }) c.loop-transition.transition-index
    c.requires.row (omega (arith, c.loop-transition-test.false)) c.loop-transition.invariant.there
