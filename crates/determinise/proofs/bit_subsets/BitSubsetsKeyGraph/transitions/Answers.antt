use Rattle.std.proofs.Common.{◌<◌, length, ap, ◌∙◌, subst, arith}
use Rattle.std.proofs.lemmas.List.Elements.{All-contains}
use Rattle.std.proofs.lemmas.Result.{on_ok_weaker}
use Rattle.digit_tuple.specs.Automaton.{states_of}
use Rattle.determinise.specs.Bits.{HasMember, rows_in}
use Rattle.determinise.specs.BitRows.{words_of}
use Rattle.determinise.proofs.BitSetLemmas.{HasMember-bits_of, length-bits_of}
use Rattle.determinise.proofs.BitSubsetLemmas.{AreKeyTransitions-rows, small_set, few_words}
use Rattle.determinise.proofs.bit_subsets.BitSubsetsKeyGraph.transitions.Goals as goal

pub unite-requires-clause-few : goal.unite-requires-clause-few
unite-requires-clause-few c =
    let n = c.args.self.now.nfa.now in
    let few = few_words (states_of n) c.requires.graph.2 in
    omega (arith, ap length c.requires.key.bits ∙ length-bits_of (words_of (states_of n)) c.requires.key.set, few)

pub unite-requires-clause-there : goal.unite-requires-clause-there
unite-requires-clause-there c q has =
    let n = c.args.self.now.nfa.now in
    let key = c.requires.key in
    let member = (HasMember-bits_of (words_of (states_of n)) key.set (small_set n c.requires.graph.1.table key.set key.is_set.in_range) q).0 (subst (λ ws. HasMember ws q) key.bits has) in
    let within : q < states_of n = All-contains (λ p. p < states_of n) key.set q key.is_set.in_range member in
    omega (arith, within, ap length c.deref.ensures.value, c.requires.graph.1.count)

pub returns : goal.returns
returns c =
    on_ok_weaker c.lead_to_parts.result
    (AreKeyTransitions-rows c.args.self.now.nfa.now c.requires.graph.1.table c.args.self.now.rows.now c.requires.graph.1 c.args.key.now c.requires.key (rows_in c.deref.result.now) (ap rows_in c.deref.ensures.value)
    c.unite.new.words.items c.in_ok-unite.ensures.length c.in_ok-unite.ensures.bits c.lead_to_parts.new.self)
    c.lead_to_parts.ensures
