use Rattle.std.proofs.Common.{length, List, ℕ, filter, IsTrue, ◌↔◌, sym, ap, ◌∙◌, subst}
use Rattle.std.specs.List.{range_with_len}
use Rattle.digit_tuple.specs.Automaton.{accepting_of, states_of}
use Rattle.determinise.specs.Bits.{HasBit}
use Rattle.determinise.specs.BitRows.{words_of}
use Rattle.determinise.proofs.BitSetLemmas.{length-bits_of}
use Rattle.determinise.proofs.BitSubsetLemmas.{bits_accept-meet}
use Rattle.determinise.proofs.bit_subsets.BitSubsetsKeyGraph.is_accepting.Goals as goal

pub meet-requires : goal.meet-requires
meet-requires c =
    let n = c.args.self.now.nfa.now in
    let w = words_of (states_of n) in
    ap length c.requires.key.bits ∙ length-bits_of w c.requires.key.set
    ∙ sym (ap length (c.deref.ensures.value ∙ c.requires.graph.1.accepting) ∙ length-bits_of w (filter (accepting_of n) (range_with_len 0 (states_of n))))

pub returns : goal.returns
returns c =
    let n = c.args.self.now.nfa.now in
    bits_accept-meet n c.requires.graph.1.table c.args.key.now c.meet.result
    (subst (λ (ws : List ℕ). IsTrue c.meet.result ↔ ((place : ℕ) × (bit : ℕ) × HasBit c.args.key.now place bit × HasBit ws place bit)) (c.deref.ensures.value ∙ c.requires.graph.1.accepting) c.meet.ensures)
