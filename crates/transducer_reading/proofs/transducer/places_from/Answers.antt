use Rattle.std.proofs.Common.{ltb, leb, rules}
use Rattle.std.proofs.lemmas.List.Sorted.{IsPartitionPoint-from_clause, IsPartitionedBy-ltb, IsPartitionedBy-leb}
use Rattle.transducer_reading.specs.declared.transducer.TransducerLine.{TransducerLine}
use Rattle.transducer_reading.proofs.LineLemmas.{lines_between}
use Rattle.transducer_reading.proofs.transducer.places_from.Goals as goal

pub returns : goal.returns
returns c =
    let lines = c.args.lines.now in
    let state = c.args.state in
    let less = IsPartitionPoint-from_clause (λ (line : TransducerLine). ltb line.state state) lines c.partition_point-first.result c.partition_point-first.ensures.partitioned (IsPartitionedBy-ltb (λ (line : TransducerLine). line.state) lines state c.requires) (λ a r q k. search rules) in
    let upto = IsPartitionPoint-from_clause (λ (line : TransducerLine). leb line.state state) lines c.partition_point-last.result c.partition_point-last.ensures.partitioned (IsPartitionedBy-leb (λ (line : TransducerLine). line.state) lines state c.requires) (λ a r q k. search rules) in
    let between = lines_between lines state c.partition_point-first.result c.partition_point-last.result c.partition_point-first.ensures.bound c.partition_point-last.ensures.bound less upto in
    record { order = between.0; within = c.partition_point-last.ensures.bound; lines = between.1 }
