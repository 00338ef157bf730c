use Rattle.std.proofs.Common.{OnOk, sym, ◌∙◌, subst}
use Rattle.std.specs.List.{Contains}
use Rattle.product_op.proofs.PairReaders.{length-key, length-pair}
use Rattle.product_op.proofs.leaving.add_after.Goals as goal

pub next_states-requires-clause-readers : goal.next_states-requires-clause-readers
next_states-requires-clause-readers c = (c.args.graph.now.letters, c.requires.pair.readings_are, c.requires.letter)

pub next_states-requires-clause-key : goal.next_states-requires-clause-key
next_states-requires-clause-key c =
    let g = c.args.graph.now in
    length-key g.letters g.op g.readers.now c.requires.pair c.args.keys.now c.args.key.now c.requires.live c.requires.key ∙ sym (length-pair g.letters g.op g.readers.now c.requires.pair)

pub next_states-requires-clause-room : goal.next_states-requires-clause-room
next_states-requires-clause-room c =
    let g = c.args.graph.now in
    sym (length-pair g.letters g.op g.readers.now c.requires.pair)

pub add_if_dead-requires-clause-after : goal.add_if_dead-requires-clause-after
add_if_dead-requires-clause-after c = (c.args.key.now, c.requires.key, (c.args.letter, c.requires.letter, sym c.next_states.ensures))

pub returns-clause-live : goal.returns-clause-live
returns-clause-live c = c.add_if_dead.ensures.live

pub returns-clause-begins : goal.returns-clause-begins
returns-clause-begins c = c.add_if_dead.ensures.begins

pub returns-clause-there : goal.returns-clause-there
returns-clause-there c = subst (λ pair. OnOk c.add_if_dead.result (Contains c.add_if_dead.new.keys pair)) c.next_states.ensures c.add_if_dead.ensures.there

pub returns-clause-few : goal.returns-clause-few
returns-clause-few c = c.add_if_dead.ensures.few

pub returns-clause-states : goal.returns-clause-states
returns-clause-states c = c.add_if_dead.ensures.states

pub returns-clause-no_letters : goal.returns-clause-no_letters
returns-clause-no_letters c = c.add_if_dead.ensures.no_letters
