use Rattle.std.proofs.Common.{rules, ◌≡◌, [], arith}
use Rattle.std.proofs.lemmas.Grind.{common_steps}
use Rattle.digit_tuple.specs.Deterministic.{accepts_of}
use Rattle.number_relations.specs.Relations.{IsRelation}
use Rattle.number_relations.proofs.SentenceLemmas.{sentence_decided}
use Rattle.number_relations.proofs.relation.Relation.verdict.Goals as goal

pub returns-then-is_empty-clause-truth : goal.returns-then-is_empty-clause-truth
returns-then-is_empty-clause-truth c =
    let r = c.args.self.now in
    let is : IsRelation r = search rules in
    let none : r.names ≡ [] = grind (arith, common_steps) in
    let says : c.accepts.result ≡ accepts_of r.automaton [] = grind (arith, common_steps) in
    sentence_decided r c.accepts.result is none says
