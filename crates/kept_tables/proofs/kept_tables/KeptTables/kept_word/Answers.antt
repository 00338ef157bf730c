use Rattle.std.proofs.Common.{sym, subst}
use Rattle.kept_tables.specs.KeptTables.{AreRight}
use Rattle.kept_tables.proofs.KeptLemmas.{word_at}
use Rattle.kept_tables.proofs.kept_tables.KeptTables.kept_word.Goals as goal

pub returns-then-is_of : goal.returns-then-is_of
returns-then-is_of c =
    let relations = c.self.inside.relations.items in
    let words = c.deref-kept-items.result.now in
    record {
      made_of = c.is_of.ensures c.if-is_of.true;
      is_right = word_at relations words (subst (AreRight relations) (sym c.deref-kept-items.ensures.value) c.self.invariant) c.loop-kept.kept-index c.kept-item.result c.loop-kept-test.true c.kept-item.is;
    }
