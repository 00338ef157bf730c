use Rattle.std.proofs.Common.{sym, ap, subst}
use Rattle.digit_tuple.specs.Automaton.{letters_of}
use Rattle.digit_tuple.specs.Keys.{AreKeyTransitions}
use Rattle.determinise.specs.Bits.{rows_in}
use Rattle.determinise.specs.Subsets.{set_after}
use Rattle.determinise.proofs.BitSubsetLemmas.{AreKeyTransitions-row_lists}
use Rattle.determinise.proofs.row_subsets.RowSubsetsKeyGraph.transitions.Goals as goal

pub returns : goal.returns
returns c =
    let n = c.args.self.now.nfa.now in
    subst (AreKeyTransitions (letters_of n) (set_after n c.args.key.now)) (sym c.give_spare.ensures)
    (AreKeyTransitions-row_lists n c.args.self.now.rows.now c.requires.graph.1 c.args.key.now c.requires.key (rows_in c.deref-2.result.now) (ap rows_in c.deref-2.ensures.value)
    c.deref-3.result.now c.gather.new.words.items c.deref-3.ensures.value c.in_ok-gather.ensures.length c.in_ok-gather.ensures.bits c.push_member_letters.new.out c.in_ok-push_member_letters.ensures)
