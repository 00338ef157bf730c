use Rattle.std.proofs.Common.{length, sym, ap, ◌∙◌, subst, arith, below_more}
use Rattle.std.specs.List.{Contains}
use Rattle.std.specs.Option.{IfSome}
use Rattle.product_op.specs.NextRows.{AreNextRows}
use Rattle.product_op.specs.Readings.{next_key, readings_in}
use Rattle.product_op.proofs.PairListLemmas.{BeginsWith-itself, BeginsWith-trans, Contains-begins}
use Rattle.product_op.proofs.PairReaders.{length-automata, length-key, length-pair}
use Rattle.product_op.proofs.dead_pairs.add_by_all.Goals as goal

pub next_rows-requires : goal.next_rows-requires
next_rows-requires c =
    let g = c.args.graph.now in
    length-key g.letters g.op g.readers.now c.requires.pair c.args.keys.now c.args.key.now c.requires.live c.requires.key ∙ sym (ap length c.requires.tables ∙ length-automata (readings_in g.readers.now) ∙ c.requires.pair.count)

pub loop-letter-init : goal.loop-letter-init
loop-letter-init c = record {
  live = c.requires.live;
  begins = BeginsWith-itself c.args.keys.now;
  few = c.requires.few;
  there = λ a less. absurd (omega (arith, less));
  rows = subst (λ ts. IfSome c.in_ok-rows.rows (λ all. AreNextRows ts c.args.key.now all.items)) c.requires.tables c.in_ok-rows.ensures;
}

pub next_states_by-requires-clause-key : goal.next_states_by-requires-clause-key
next_states_by-requires-clause-key c =
    let g = c.args.graph.now in
    length-key g.letters g.op g.readers.now c.requires.pair c.args.keys.now c.args.key.now c.requires.live c.requires.key ∙ sym (length-pair g.letters g.op g.readers.now c.requires.pair)

pub next_states_by-requires-clause-rows : goal.next_states_by-requires-clause-rows
next_states_by-requires-clause-rows c = c.loop-letter.invariant.rows

pub next_states_by-requires-clause-readers : goal.next_states_by-requires-clause-readers
next_states_by-requires-clause-readers c = (c.args.graph.now.letters, c.requires.pair.readings_are, c.loop-letter-test.true)

pub add_if_dead-requires-clause-after : goal.add_if_dead-requires-clause-after
add_if_dead-requires-clause-after c =
    (c.args.key.now, Contains-begins c.args.keys.now c.loop-letter.keys c.args.key.now c.loop-letter.invariant.begins c.requires.key, (c.loop-letter.letter, c.loop-letter-test.true, sym c.next_states_by.ensures))

pub loop-letter-preserved : goal.loop-letter-preserved
loop-letter-preserved c =
    let rs = readings_in c.args.graph.now.readers.now in
    let key = c.args.key.now in
    let before = c.loop-letter.keys in
    let after = c.add_if_dead.new.keys in
    let added = c.in_ok-add_if_dead.ensures in
    record {
      live = added.live;
      begins = BeginsWith-trans c.args.keys.now before after c.loop-letter.invariant.begins added.begins;
      few = added.few;
      there = below_more (λ a. Contains after (next_key rs key a)) c.loop-letter.letter (λ a less. Contains-begins before after (next_key rs key a) added.begins (c.loop-letter.invariant.there a less))
          (subst (Contains after) c.next_states_by.ensures added.there);
      rows = c.loop-letter.invariant.rows;
    }

pub returns-clause-after : goal.returns-clause-after
returns-clause-after c a small = c.loop-letter.invariant.there a (omega (arith, small, c.loop-letter-test.false))

pub returns-clause-live : goal.returns-clause-live
returns-clause-live c = c.loop-letter.invariant.live

pub returns-clause-begins : goal.returns-clause-begins
returns-clause-begins c = c.loop-letter.invariant.begins

pub returns-clause-few : goal.returns-clause-few
returns-clause-few c = c.loop-letter.invariant.few
