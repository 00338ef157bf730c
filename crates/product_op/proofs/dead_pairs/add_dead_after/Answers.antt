use Rattle.product_op.specs.Readings.{readings_in}
use Rattle.product_op.proofs.DeadMarkLemmas.{AreMarked-begins}
use Rattle.product_op.proofs.PairListLemmas.{Contains-begins}
use Rattle.product_op.specs.DeadMarks.{all_sinks}
use Rattle.product_op.proofs.dead_pairs.add_dead_after.Goals as goal

pub returns-clause-marked : goal.returns-clause-marked
returns-clause-marked c =
    let rs = readings_in c.args.graph.now.readers.now in
    let marks = c.args.marks.now in
    let old = c.args.keys.now in
    let new = c.add_by_all.new.keys in
    let begins = c.in_ok-add_by_all.ensures.begins in
    record {
      first = AreMarked-begins rs 0 marks.first.items old new begins c.requires.marked.first;
      second = AreMarked-begins rs 1 marks.second.items old new begins c.requires.marked.second;
      both = λ is. Contains-begins old new (all_sinks rs) begins (c.requires.marked.both is);
    }
