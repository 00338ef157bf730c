use Rattle.std.proofs.Common.{◌≡◌, sym, ap, ◌∙◌, arith}
use Rattle.std.specs.Cmp.{booleans_Decides}
use Rattle.digit_tuple.specs.Deterministic.{State, state_of, accepting_of}
use Rattle.digit_tuple.proofs.StateLemmas.{same_state}
use Rattle.digit_tuple.proofs.KeptLemmas.{kept-count, kept-transitions, kept-ascending}
use Rattle.digit_tuple.proofs.dfa.Dfa.is_same_state.Goals as goal

pub is_same_row-requires-clause-place : goal.is_same_row-requires-clause-place
is_same_row-requires-clause-place c = omega (arith, c.requires.first, kept-count c.self.inside.flags.items c.self.inside.table c.args.self.now c.self.invariant.0 c.self.view_is)

pub is_same_row-requires-clause-at : goal.is_same_row-requires-clause-at
is_same_row-requires-clause-at c = omega (arith, c.requires.second, kept-count c.other.inside.flags.items c.other.inside.table c.args.other.now c.other.invariant.0 c.other.view_is)

pub is_same_row-requires-clause-ascending : goal.is_same_row-requires-clause-ascending
is_same_row-requires-clause-ascending c =
    kept-ascending c.self.inside.flags.items c.self.inside.table c.args.self.now c.self.invariant.0 c.self.view_is c.self.invariant.1 c.args.state c.requires.first

pub is_same_row-requires-clause-other_ascending : goal.is_same_row-requires-clause-other_ascending
is_same_row-requires-clause-other_ascending c =
    kept-ascending c.other.inside.flags.items c.other.inside.table c.args.other.now c.other.invariant.0 c.other.view_is c.other.invariant.1 c.args.state c.requires.second

pub returns-then-accepting : goal.returns-then-accepting
returns-then-accepting c =
    let a = c.args.self.now in
    let b = c.args.other.now in
    let q = c.args.state in
    let accepting : accepting_of a q ≡ accepting_of b q = sym c.accepting.ensures.accepting ∙ (booleans_Decides c.accepting.result c.accepting-2.result).0 c.if-accepting.true ∙ c.accepting-2.ensures.accepting in
    let one = kept-transitions c.self.inside.flags.items c.self.inside.table a c.self.invariant.0 c.self.view_is q in
    let two = kept-transitions c.other.inside.flags.items c.other.inside.table b c.other.invariant.0 c.other.view_is q in (
      (λ is. same_state (state_of a q) (state_of b q) accepting (sym one ∙ c.is_same_row.ensures.0 is ∙ two)),
      (λ same. c.is_same_row.ensures.1 (one ∙ ap (λ (s : State). s.transitions) same ∙ sym two)),
    )
