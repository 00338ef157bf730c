use Rattle.wal_outside.proofs.ShelfSteps.{lookup-replaced}
use Rattle.wal_outside.proofs.shelf.Shelf.put.Goals as goal

pub returns-in-Some-clause-ok : goal.returns-in-Some-clause-ok
returns-in-Some-clause-ok c =
    rw (c.remove.ensures.items, c.in_ok-insert.ensures.items)
    (lookup-replaced c.in_ok-text.text c.args.self.now.texts.items c.in-Some.i c.args.folder c.args.name.now c.args.bytes.now
    c.in_ok-text.ensures.folder c.in_ok-text.ensures.name c.in_ok-text.ensures.bytes c.in-Some.ensures)
