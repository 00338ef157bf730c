use Rattle.std.proofs.Common.{◌≡◌, drop}
use Rattle.plan_relations.specs.Libraries.{relation_named}
use Rattle.plan_relations.specs.LibraryViews.{relation_entries}
use Rattle.plan_relations.proofs.library.Library.relation.Given as goal

-- the entries before have other names
abbrev pub invariant-loop-entry : goal.invariant-loop-entry
invariant-loop-entry l = relation_named (relation_entries (drop l.entry-index l.entry-items)) l.name ≡ relation_named l.self.relations l.name
