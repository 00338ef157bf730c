use Rattle.std.proofs.Common.{◌∙◌, false, arith}
use Rattle.std.proofs.lemmas.List.{get_or_default}
use Rattle.digit_tuple.proofs.KeptLemmas.{kept-count, kept-accepting}
use Rattle.digit_tuple.proofs.dfa.Dfa.accepting.Goals as goal

pub index-requires : goal.index-requires
index-requires c =
    let count = kept-count c.self.inside.flags.items c.self.inside.table c.args.self.now c.self.invariant.0 c.self.view_is in
    omega (arith, count, c.requires, c.self.inside.flags.ok, c.self.invariant.0)

pub returns-clause-accepting : goal.returns-clause-accepting
returns-clause-accepting c =
    let count = kept-count c.self.inside.flags.items c.self.inside.table c.args.self.now c.self.invariant.0 c.self.view_is in
    c.index.ensures
    ∙ get_or_default c.self.inside.flags.items c.args.state c.index.result.now false (omega (arith, count, c.requires, c.self.invariant.0))
    ∙ kept-accepting c.self.inside.flags.items c.self.inside.table c.args.self.now c.self.invariant.0 c.self.view_is c.args.state
