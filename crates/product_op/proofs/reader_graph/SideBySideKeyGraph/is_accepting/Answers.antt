use Rattle.std.proofs.Common.{◌≤◌, length, ◌∙◌, subst, arith}
use Rattle.product_op.specs.declared.rule.Rule.{Rule}
use Rattle.product_op.specs.Readings.{arguments_of, readings_in}
use Rattle.product_op.proofs.ReaderLemmas.{length-readings}
use Rattle.product_op.proofs.reader_graph.SideBySideKeyGraph.is_accepting.Goals as goal

pub bounds-self-0 : goal.bounds-self-0
bounds-self-0 c =
    let readers = c.args.self.now.readers.now in
    let enough : 2 ≤ length (readings_in readers) = subst (λ (rule : Rule). arguments_of rule ≤ length (readings_in readers)) c.in-Both.is c.requires.graph.0.enough in
    omega (arith, enough, length-readings readers)

pub bounds-key-0 : goal.bounds-key-0
bounds-key-0 c =
    let readers = c.args.self.now.readers.now in
    let enough : 2 ≤ length (readings_in readers) = subst (λ (rule : Rule). arguments_of rule ≤ length (readings_in readers)) c.in-Both.is c.requires.graph.0.enough in
    omega (arith, enough, c.requires.key.count)

pub bounds-self-1 : goal.bounds-self-1
bounds-self-1 c =
    let readers = c.args.self.now.readers.now in
    let enough : 2 ≤ length (readings_in readers) = subst (λ (rule : Rule). arguments_of rule ≤ length (readings_in readers)) c.in-Both.is c.requires.graph.0.enough in
    omega (arith, enough, length-readings readers)

pub bounds-key-1 : goal.bounds-key-1
bounds-key-1 c =
    let readers = c.args.self.now.readers.now in
    let enough : 2 ≤ length (readings_in readers) = subst (λ (rule : Rule). arguments_of rule ≤ length (readings_in readers)) c.in-Both.is c.requires.graph.0.enough in
    omega (arith, enough, c.requires.key.count)

pub all_accept-requires-clause-from : goal.all_accept-requires-clause-from
all_accept-requires-clause-from c =
    let readers = c.args.self.now.readers.now in
    let enough : 2 ≤ length (readings_in readers) = subst (λ (rule : Rule). arguments_of rule ≤ length (readings_in readers)) c.in-Both.is c.requires.graph.0.enough in
    omega (arith, enough, length-readings readers)

pub bounds-self-0-in-NotFirst : goal.bounds-self-0-in-NotFirst
bounds-self-0-in-NotFirst c =
    let readers = c.args.self.now.readers.now in
    let enough : 1 ≤ length (readings_in readers) = subst (λ (rule : Rule). arguments_of rule ≤ length (readings_in readers)) c.in-NotFirst.is c.requires.graph.0.enough in
    omega (arith, enough, length-readings readers)

pub bounds-key-0-in-NotFirst : goal.bounds-key-0-in-NotFirst
bounds-key-0-in-NotFirst c =
    let readers = c.args.self.now.readers.now in
    let enough : 1 ≤ length (readings_in readers) = subst (λ (rule : Rule). arguments_of rule ≤ length (readings_in readers)) c.in-NotFirst.is c.requires.graph.0.enough in
    omega (arith, enough, c.requires.key.count)

pub all_accept-requires-then-not-accepts-clause-from : goal.all_accept-requires-then-not-accepts-clause-from
all_accept-requires-then-not-accepts-clause-from c =
    let readers = c.args.self.now.readers.now in
    let enough : 1 ≤ length (readings_in readers) = subst (λ (rule : Rule). arguments_of rule ≤ length (readings_in readers)) c.in-NotFirst.is c.requires.graph.0.enough in
    omega (arith, enough, length-readings readers)

pub all_accept-requires-clause-key : goal.all_accept-requires-clause-key
all_accept-requires-clause-key c = c.requires.key.count ∙ length-readings c.args.self.now.readers.now

pub all_accept-requires-in-All-clause-key : goal.all_accept-requires-in-All-clause-key
all_accept-requires-in-All-clause-key c = c.requires.key.count ∙ length-readings c.args.self.now.readers.now

pub all_accept-requires-then-not-accepts-clause-key : goal.all_accept-requires-then-not-accepts-clause-key
all_accept-requires-then-not-accepts-clause-key c = c.requires.key.count ∙ length-readings c.args.self.now.readers.now
