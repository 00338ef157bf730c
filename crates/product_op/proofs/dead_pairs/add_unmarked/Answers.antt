use Rattle.std.proofs.Common.{List, length, sym, ap, ◌∙◌, subst, arith}
use Rattle.digit_tuple.specs.Deterministic.{IsRow, letters_of, states_of, transitions_of}
use Rattle.digit_tuple.specs.declared.transitions.Transition.{Transition}
use Rattle.product_op.specs.DeadMarks.{all_sinks}
use Rattle.product_op.specs.Readings.{Reading, next_key, readings_in, state_at}
use Rattle.product_op.proofs.DeadMarkLemmas.{AreMarked-begins, HoldAfter-marked}
use Rattle.product_op.proofs.PairListLemmas.{BeginsWith-trans, Contains-begins}
use Rattle.product_op.proofs.PairReaders.{IsReading-at, length-automata, length-key, length-pair, reading-at, table-at}
use Rattle.product_op.proofs.dead_pairs.add_unmarked.Goals as goal

pub bounds-readers-0 : goal.bounds-readers-0
bounds-readers-0 c =
    let g = c.args.graph.now in
    omega (arith, length-pair g.letters g.op g.readers.now c.requires.pair)

pub bounds-graph-0 : goal.bounds-graph-0
bounds-graph-0 c =
    let g = c.args.graph.now in
    omega (arith, ap length c.requires.tables, length-automata (readings_in g.readers.now), c.requires.pair.count)

pub bounds-key-0 : goal.bounds-key-0
bounds-key-0 c =
    let g = c.args.graph.now in
    omega (arith, length-key g.letters g.op g.readers.now c.requires.pair c.args.keys.now c.args.key.now c.requires.live c.requires.key)

pub new-requires-clause-reading : goal.new-requires-clause-reading
new-requires-clause-reading c =
    let g = c.args.graph.now in
    IsReading-at g.letters g.op g.readers.now c.requires.pair 0 c.index-readers-0.result (omega arith) c.index-readers-0.is

pub new-requires-clause-table : goal.new-requires-clause-table
new-requires-clause-table c =
    let g = c.args.graph.now in
    table-at g.letters g.op g.readers.now c.requires.pair g.tables.now 0 c.index-readers-0.result c.index-graph-0.result c.requires.tables (omega arith) c.index-readers-0.is

pub bounds-readers-1 : goal.bounds-readers-1
bounds-readers-1 c =
    let g = c.args.graph.now in
    omega (arith, length-pair g.letters g.op g.readers.now c.requires.pair)

pub bounds-graph-1 : goal.bounds-graph-1
bounds-graph-1 c =
    let g = c.args.graph.now in
    omega (arith, ap length c.requires.tables, length-automata (readings_in g.readers.now), c.requires.pair.count)

pub bounds-key-1 : goal.bounds-key-1
bounds-key-1 c =
    let g = c.args.graph.now in
    omega (arith, length-key g.letters g.op g.readers.now c.requires.pair c.args.keys.now c.args.key.now c.requires.live c.requires.key)

pub new-requires-2-clause-reading : goal.new-requires-2-clause-reading
new-requires-2-clause-reading c =
    let g = c.args.graph.now in
    IsReading-at g.letters g.op g.readers.now c.requires.pair 1 c.index-readers-1.result (omega arith) c.index-readers-1.is

pub new-requires-2-clause-table : goal.new-requires-2-clause-table
new-requires-2-clause-table c =
    let g = c.args.graph.now in
    table-at g.letters g.op g.readers.now c.requires.pair g.tables.now 1 c.index-readers-1.result c.index-graph-1.result c.requires.tables (omega arith) c.index-readers-1.is

pub add_sinks-requires-clause-leaving : goal.add_sinks-requires-clause-leaving
add_sinks-requires-clause-leaving c =
    let g = c.args.graph.now in
    record { pair = c.requires.pair; own = omega arith; other = c.in_ok-second.ensures.at; reader = c.in_ok-second.ensures.reader ∙ sym (reading-at g.letters g.op g.readers.now c.requires.pair 1 c.index-readers-1.result (omega arith) c.index-readers-1.is); state = c.in_ok-second.ensures.state }

pub add_sinks-requires-clause-own : goal.add_sinks-requires-clause-own
add_sinks-requires-clause-own c = c.in_ok-first.ensures.at

pub add_sinks-requires-clause-reader : goal.add_sinks-requires-clause-reader
add_sinks-requires-clause-reader c =
    let g = c.args.graph.now in
    c.in_ok-first.ensures.reader ∙ sym (reading-at g.letters g.op g.readers.now c.requires.pair 0 c.index-readers-0.result (omega arith) c.index-readers-0.is)

pub add_sinks-requires-clause-state : goal.add_sinks-requires-clause-state
add_sinks-requires-clause-state c = c.in_ok-first.ensures.state

pub add_sinks-requires-clause-marked : goal.add_sinks-requires-clause-marked
add_sinks-requires-clause-marked c = c.requires.marked.both

pub add_sinks-requires-clause-live : goal.add_sinks-requires-clause-live
add_sinks-requires-clause-live c = c.requires.live

pub add_sinks-requires-clause-few : goal.add_sinks-requires-clause-few
add_sinks-requires-clause-few c = c.requires.few

pub add_sinks-requires-clause-key : goal.add_sinks-requires-clause-key
add_sinks-requires-clause-key c = c.requires.key

pub add_targets-requires-clause-leaving : goal.add_targets-requires-clause-leaving
add_targets-requires-clause-leaving c =
    let g = c.args.graph.now in
    record { pair = c.requires.pair; own = omega arith; other = c.in_ok-second.ensures.at; reader = c.in_ok-second.ensures.reader ∙ sym (reading-at g.letters g.op g.readers.now c.requires.pair 1 c.index-readers-1.result (omega arith) c.index-readers-1.is); state = c.in_ok-second.ensures.state }

pub add_targets-requires-clause-row : goal.add_targets-requires-clause-row
add_targets-requires-clause-row c =
    let g = c.args.graph.now in
    let at = reading-at g.letters g.op g.readers.now c.requires.pair 0 c.index-readers-0.result (omega arith) c.index-readers-0.is in
    c.deref.ensures.value ∙ c.in_ok-first.ensures.row ∙ ap (λ (r : Reading). transitions_of r.automaton (state_at c.args.key.now 0)) (sym at)

pub add_targets-requires-clause-transitions : goal.add_targets-requires-clause-transitions
add_targets-requires-clause-transitions c =
    let g = c.args.graph.now in
    let at = reading-at g.letters g.op g.readers.now c.requires.pair 0 c.index-readers-0.result (omega arith) c.index-readers-0.is in
    subst (λ (r : Reading). IsRow (letters_of r.automaton) (states_of r.automaton) c.deref.result.now) (sym at)
    (subst (λ (row : List Transition). IsRow (letters_of c.index-readers-0.result.dfa.now) (states_of c.index-readers-0.result.dfa.now) row) (sym c.deref.ensures.value) c.in_ok-first.ensures.transitions)

pub add_targets-requires-clause-live : goal.add_targets-requires-clause-live
add_targets-requires-clause-live c = c.in_ok-add_sinks.ensures.live

pub add_targets-requires-clause-few : goal.add_targets-requires-clause-few
add_targets-requires-clause-few c = c.in_ok-add_sinks.ensures.few

pub add_targets-requires-2-clause-leaving : goal.add_targets-requires-2-clause-leaving
add_targets-requires-2-clause-leaving c =
    let g = c.args.graph.now in
    record { pair = c.requires.pair; own = omega arith; other = c.in_ok-first.ensures.at; reader = c.in_ok-first.ensures.reader ∙ sym (reading-at g.letters g.op g.readers.now c.requires.pair 0 c.index-readers-0.result (omega arith) c.index-readers-0.is); state = c.in_ok-first.ensures.state }

pub add_targets-requires-2-clause-row : goal.add_targets-requires-2-clause-row
add_targets-requires-2-clause-row c =
    let g = c.args.graph.now in
    let at = reading-at g.letters g.op g.readers.now c.requires.pair 1 c.index-readers-1.result (omega arith) c.index-readers-1.is in
    c.deref-2.ensures.value ∙ c.in_ok-second.ensures.row ∙ ap (λ (r : Reading). transitions_of r.automaton (state_at c.args.key.now 1)) (sym at)

pub add_targets-requires-2-clause-transitions : goal.add_targets-requires-2-clause-transitions
add_targets-requires-2-clause-transitions c =
    let g = c.args.graph.now in
    let at = reading-at g.letters g.op g.readers.now c.requires.pair 1 c.index-readers-1.result (omega arith) c.index-readers-1.is in
    subst (λ (r : Reading). IsRow (letters_of r.automaton) (states_of r.automaton) c.deref-2.result.now) (sym at)
    (subst (λ (row : List Transition). IsRow (letters_of c.index-readers-1.result.dfa.now) (states_of c.index-readers-1.result.dfa.now) row) (sym c.deref-2.ensures.value) c.in_ok-second.ensures.transitions)

pub add_targets-requires-2-clause-live : goal.add_targets-requires-2-clause-live
add_targets-requires-2-clause-live c = c.in_ok-add_targets.ensures.live

pub add_targets-requires-2-clause-few : goal.add_targets-requires-2-clause-few
add_targets-requires-2-clause-few c = c.in_ok-add_targets.ensures.few

pub returns-clause-live : goal.returns-clause-live
returns-clause-live c = c.in_ok-add_targets-2.ensures.live

pub returns-clause-few : goal.returns-clause-few
returns-clause-few c = c.in_ok-add_targets-2.ensures.few

pub add_targets-requires-clause-marked : goal.add_targets-requires-clause-marked
add_targets-requires-clause-marked c =
    AreMarked-begins (readings_in c.args.graph.now.readers.now) 0 c.args.marks.now.first.items c.args.keys.now c.add_sinks.new.keys c.in_ok-add_sinks.ensures.begins c.requires.marked.first

pub add_targets-requires-clause-key : goal.add_targets-requires-clause-key
add_targets-requires-clause-key c = Contains-begins c.args.keys.now c.add_sinks.new.keys c.args.key.now c.in_ok-add_sinks.ensures.begins c.requires.key

pub add_targets-requires-2-clause-marked : goal.add_targets-requires-2-clause-marked
add_targets-requires-2-clause-marked c =
    AreMarked-begins (readings_in c.args.graph.now.readers.now) 1 c.args.marks.now.second.items c.args.keys.now c.add_targets.new.keys
    (BeginsWith-trans c.args.keys.now c.add_sinks.new.keys c.add_targets.new.keys c.in_ok-add_sinks.ensures.begins c.in_ok-add_targets.ensures.begins) c.requires.marked.second

pub add_targets-requires-2-clause-key : goal.add_targets-requires-2-clause-key
add_targets-requires-2-clause-key c =
    Contains-begins c.args.keys.now c.add_targets.new.keys c.args.key.now
    (BeginsWith-trans c.args.keys.now c.add_sinks.new.keys c.add_targets.new.keys c.in_ok-add_sinks.ensures.begins c.in_ok-add_targets.ensures.begins) c.requires.key

pub returns-clause-begins : goal.returns-clause-begins
returns-clause-begins c =
    BeginsWith-trans c.args.keys.now c.add_targets.new.keys c.add_targets-2.new.keys
    (BeginsWith-trans c.args.keys.now c.add_sinks.new.keys c.add_targets.new.keys c.in_ok-add_sinks.ensures.begins c.in_ok-add_targets.ensures.begins) c.in_ok-add_targets-2.ensures.begins

pub returns-clause-after : goal.returns-clause-after
returns-clause-after c =
    let g = c.args.graph.now in
    let rs = readings_in g.readers.now in
    let key = c.args.key.now in
    let one = c.add_sinks.new.keys in
    let two = c.add_targets.new.keys in
    let three = c.add_targets-2.new.keys in
    let last = c.in_ok-add_targets-2.ensures.begins in
    let later = BeginsWith-trans one two three c.in_ok-add_targets.ensures.begins last in
    HoldAfter-marked g.letters g.op rs c.requires.pair.count key three c.in_ok-add_targets-2.ensures.live (Contains-begins c.args.keys.now three key (BeginsWith-trans c.args.keys.now one three c.in_ok-add_sinks.ensures.begins later) c.requires.key)
    (λ a low out gone. Contains-begins one three (next_key rs key a) later (c.in_ok-add_sinks.ensures.there a low out gone))
    (λ a low on gone. Contains-begins two three (next_key rs key a) last (c.in_ok-add_targets.ensures.there a low on gone))
    c.in_ok-add_targets-2.ensures.there

pub returns-clause-marked : goal.returns-clause-marked
returns-clause-marked c =
    let rs = readings_in c.args.graph.now.readers.now in
    let one = c.add_sinks.new.keys in
    let two = c.add_targets.new.keys in
    let three = c.add_targets-2.new.keys in
    let last = c.in_ok-add_targets-2.ensures.begins in
    record {
      first = AreMarked-begins rs 0 c.add_targets.new.marks.items two three last c.in_ok-add_targets.ensures.marked;
      second = c.in_ok-add_targets-2.ensures.marked;
      both = λ is. Contains-begins one three (all_sinks rs) (BeginsWith-trans one two three c.in_ok-add_targets.ensures.begins last) (c.in_ok-add_sinks.ensures.marked is);
    }
