use Rattle.std.proofs.Common.{List, length, map, sym, ap, ◌∙◌}
use Rattle.std.specs.Rc.{rc_value}
use Rattle.digit_tuple.specs.Deterministic.{states_of}
use Rattle.num_system.specs.Sealed.{SystemValue}
use Rattle.word_images.proofs.RecodingLemmas.{count_is, recoded_made, word_made}
use Rattle.word_images.proofs.recoding.recoded.Goals as goal

pub of_states-requires-clause-count : goal.of_states-requires-clause-count
of_states-requires-clause-count c =
    ap length (c.deref.ensures.value ∙ c.in_ok-letters.ensures) ∙ count_is c.args.morphism.now c.args.place c.function-function.result.now ∙ ap states_of (sym c.dfa.ensures.value)

pub from_parts-requires : goal.from_parts-requires
from_parts-requires c =
    let letters = c.deref.ensures.value ∙ c.in_ok-letters.ensures in
    let systems : List SystemValue = map rc_value c.in_ok-systems.systems.items in
    word_made c.args.morphism.now c.args.place c.args.word.now c.systems.ensures.word c.in_ok-recoded.recoded c.function-function.result.now c.dfa.result.now c.deref.result.now systems
    c.function-function.ensures.value c.dfa.ensures.value letters (c.in_ok-systems.ensures ∙ c.systems.ensures.value) c.in_ok-recoded.ensures.function c.in_ok-recoded.ensures.sizes c.in_ok-recoded.ensures.letters

pub returns : goal.returns
returns c =
    let letters = c.deref.ensures.value ∙ c.in_ok-letters.ensures in
    let systems : List SystemValue = map rc_value c.in_ok-systems.systems.items in
    recoded_made c.args.morphism.now c.args.place c.args.word.now c.systems.ensures.word c.in_ok-recoded.recoded c.function-function.result.now c.dfa.result.now c.deref.result.now systems
    c.function-function.ensures.value c.dfa.ensures.value letters (c.in_ok-systems.ensures ∙ c.systems.ensures.value) c.in_ok-recoded.ensures.function c.in_ok-recoded.ensures.sizes c.in_ok-recoded.ensures.letters c.from_parts.result c.from_parts.ensures
