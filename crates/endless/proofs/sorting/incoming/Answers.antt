use Rattle.std.proofs.Common.{arith, ◌∙◌, ap}
use Rattle.digit_tuple.specs.Letters.{product}
use Rattle.endless.proofs.LinkCounts.{room_for}
use Rattle.endless.proofs.sorting.incoming.Goals as goal

pub add_links-requires-clause-room : goal.add_links-requires-clause-room
add_links-requires-clause-room c =
    room_for c.args.language.now c.args.without c.loop-state.pending.items c.loop-state.state c.loop-state.invariant (omega (arith, c.loop-state-test.true, c.states-states.ensures.value)) c.states-states.ensures.table
    (omega (arith, c.letters-letters.ensures.alphabet.letters, ap product c.alphabet.ensures.sizes)) c.deref.result.now (c.deref.ensures.value ∙ c.in_ok-transitions_into.ensures.transitions)
