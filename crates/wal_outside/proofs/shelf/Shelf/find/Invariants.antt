use Rattle.std.proofs.Common.{◌≡◌, drop}
use Rattle.wal_outside.specs.Shelves.{lookup}
use Rattle.wal_outside.proofs.shelf.Shelf.find.Given as goal

-- what is looked for is found after the texts that were passed
abbrev pub invariant-loop-text : goal.invariant-loop-text
invariant-loop-text l = lookup (drop l.text-index l.self.texts.items) l.folder l.name ≡ lookup l.self.texts.items l.folder l.name
