use Rattle.std.proofs.Common.{◌+◌, ◌<◌, length, sym, subst, arith}
use Rattle.std.specs.Result.{is_ok}
use Rattle.number_relations.specs.Relations.{RelationValue}
use Rattle.kept_tables.specs.KeptTables.{IsRightRelation}
use Rattle.kept_tables.proofs.KeptLemmas.{relation_pushed}
use Rattle.kept_tables.proofs.kept_tables.KeptTables.keep_relation.Goals as goal

pub invariant_of-self-in-Ok-2 : goal.invariant_of-self-in-Ok-2
invariant_of-self-in-Ok-2 c =
    let room : length c.self.inside.relations.items + length c.self.inside.words.items < 256 = omega (arith, c.has_room.ensures c.if-has_room.true, c.len.ensures, c.len-2.ensures) in
    relation_pushed c.self.inside.relations.items c.self.inside.words.items c.self.invariant _ c.push-pushed.new.self.items (is_ok c.push-pushed.result) room
    (subst (λ (r : RelationValue). IsRightRelation c.args.source r) (sym c.in-Ok.ensures.cases) c.requires) c.push-pushed.ensures.items
