use Rattle.std.proofs.Common.{◌≡◌, drop}
use Rattle.plan_relations.specs.Libraries.{word_named}
use Rattle.plan_relations.specs.LibraryViews.{word_entries}
use Rattle.plan_relations.proofs.library.Library.word.Given as goal

-- the entries before have other names
abbrev pub invariant-loop-entry : goal.invariant-loop-entry
invariant-loop-entry l = word_named (word_entries (drop l.entry-index l.entry-items)) l.name ≡ word_named l.self.words l.name
