use Rattle.std.proofs.Common.{ℕ, map, Ok, sym, subst, arith}
use Rattle.std.specs.Rc.{rc_value}
use Rattle.number_relations.specs.Relations.{RelationValue}
use Rattle.definitions.specs.TableSteps.{DoesTable}
use Rattle.kept_tables.specs.KeptTables.{IsSourceOf}
use Rattle.kept_tables.proofs.KeptLemmas.{relation_longer, relation_right}
use Rattle.kept_tables.proofs.kept_tables.KeptTables.relation.Goals as goal

pub of-requires : goal.of-requires
of-requires c = omega (arith, c.count-before.ensures, relation_longer (map rc_value c.args.systems.now) c.args.table.now.listed c.relation_again.new.steps c.table_relation.new.steps c.in_ok-made.made c.in_ok-made.ensures)

pub keep_relation-requires : goal.keep_relation-requires
keep_relation-requires c =
    let table = c.args.table.now in
    let systems = map rc_value c.args.systems.now in
    let old = c.relation_again.new.steps in
    let new = c.table_relation.new.steps in
    let done = subst (λ (x : RelationValue). DoesTable systems table.listed old (Ok x) new) (sym c.in_ok-relation-2.ensures.ok) c.in_ok-made.ensures in
    relation_right table.text systems table.listed old new c.in_ok-relation-2.relation.value c.in-Ok.source c.requires.text done (subst (λ (n : ℕ). IsSourceOf table.text systems new n c.in-Ok.source) c.count-before.ensures c.in-Ok.ensures)
