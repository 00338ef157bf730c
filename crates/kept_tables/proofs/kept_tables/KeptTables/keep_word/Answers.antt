use Rattle.std.proofs.Common.{◌+◌, ◌<◌, length, sym, subst, arith}
use Rattle.std.specs.Result.{is_ok}
use Rattle.word_output.specs.Words.{WordValue}
use Rattle.kept_tables.specs.KeptTables.{IsRightWord}
use Rattle.kept_tables.proofs.KeptLemmas.{word_pushed}
use Rattle.kept_tables.proofs.kept_tables.KeptTables.keep_word.Goals as goal

pub invariant_of-self-in-Ok-2 : goal.invariant_of-self-in-Ok-2
invariant_of-self-in-Ok-2 c =
    let room : length c.self.inside.relations.items + length c.self.inside.words.items < 256 = omega (arith, c.has_room.ensures c.if-has_room.true, c.len.ensures, c.len-2.ensures) in
    word_pushed c.self.inside.relations.items c.self.inside.words.items c.self.invariant _ c.push-pushed.new.self.items (is_ok c.push-pushed.result) room
    (subst (λ (w : WordValue). IsRightWord c.args.source w) (sym c.in-Ok.ensures.cases) c.requires) c.push-pushed.ensures.items
