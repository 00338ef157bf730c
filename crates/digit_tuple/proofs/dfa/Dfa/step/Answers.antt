use Rattle.std.proofs.Common.{◌<◌, List, ap, sym, ◌∙◌, subst, arith}
use Rattle.std.specs.Option.{IfSome}
use Rattle.digit_tuple.specs.Deterministic.{target_by, states_of, letters_of, transitions_of}
use Rattle.digit_tuple.specs.declared.transitions.Transition.{Transition}
use Rattle.digit_tuple.proofs.DfaLemmas.{target_by-in_range}
use Rattle.digit_tuple.proofs.KeptLemmas.{kept-count, kept-transitions, kept-row}
use Rattle.digit_tuple.proofs.dfa.Dfa.step.Goals as goal

pub step-requires : goal.step-requires
step-requires c = omega (arith, c.requires, kept-count c.self.inside.flags.items c.self.inside.table c.args.self.now c.self.invariant.0 c.self.view_is)

pub returns-clause-target : goal.returns-clause-target
returns-clause-target c =
    let same = kept-transitions c.self.inside.flags.items c.self.inside.table c.args.self.now c.self.invariant.0 c.self.view_is c.args.state in
    c.step.ensures ∙ ap (λ (es : List Transition). target_by es c.args.letter) same

pub returns-clause-in_range : goal.returns-clause-in_range
returns-clause-in_range c =
    let d = c.args.self.now in
    let row = kept-row c.self.inside.flags.items c.self.inside.table d c.self.invariant.0 c.self.view_is c.self.invariant.1 c.args.state c.requires in
    subst (λ o. IfSome o (λ q. q < states_of d)) (sym (returns-clause-target c))
    (target_by-in_range (letters_of d) (states_of d) (transitions_of d c.args.state) c.args.letter row.in_range)
