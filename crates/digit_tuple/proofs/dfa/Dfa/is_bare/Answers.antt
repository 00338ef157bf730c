use Rattle.std.proofs.Common.{sym, ◌∙◌, arith}
use Rattle.digit_tuple.proofs.KeptLemmas.{kept-count, kept-transitions}
use Rattle.digit_tuple.proofs.dfa.Dfa.is_bare.Goals as goal

pub is_bare-requires : goal.is_bare-requires
is_bare-requires c = omega (arith, c.requires, kept-count c.self.inside.flags.items c.self.inside.table c.args.self.now c.self.invariant.0 c.self.view_is)

pub returns : goal.returns
returns c =
    let same = kept-transitions c.self.inside.flags.items c.self.inside.table c.args.self.now c.self.invariant.0 c.self.view_is c.args.state in
    (λ yes. sym same ∙ c.is_bare.ensures.0 yes, λ bare. c.is_bare.ensures.1 (same ∙ bare))
