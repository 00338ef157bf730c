use Rattle.std.proofs.Common.{◌≡◌, ℕ, ◌+◌, ◌*◌, ◌<◌, ◌^◌, ◌++◌, ◌↔◌, take, drop, length, get_or, sym, ap, ◌∙◌, subst, arith}
use Rattle.std.proofs.lemmas.List.{take_at}
use Rattle.determinise.specs.Bits.{HasBit, AreRowsSet, rows_in}
use Rattle.determinise.proofs.BitRowLemmas.{MembersHave, MembersHave-more, MembersHave-all, member_at}
use Rattle.determinise.proofs.bit_rows.unite.Goals as goal

pub set_rows-requires-clause-there : goal.set_rows-requires-clause-there
set_rows-requires-clause-there c bit is =
    c.requires.there (c.loop-place.place * 32 + bit) (member_at c.args.set.now c.loop-place.place bit (omega (arith, c.type_inv.set c.loop-place.place)) is)

pub loop-place-preserved : goal.loop-place-preserved
loop-place-preserved c =
    let new = c.set_rows.new.words in
    let words = c.loop-place.words in
    let rows = rows_in c.args.rows.now in
    let place = c.loop-place.place in
    let size : length new ≡ words.len = omega (arith, c.set_rows.auto.words, c.deref_mut.ensures.len, words.ok) in
    let same : take words.len (new ++ drop (length new) words.items) ≡ new = take_at new (drop (length new) words.items) words.len size in
    let small : get_or c.args.set.now place 0 < 2 ^ 32 = omega (arith, c.type_inv.set place) in
    let are : AreRowsSet words.items rows (place * 32) (get_or c.args.set.now place 0) new = subst (λ old. AreRowsSet old rows (place * 32) (get_or c.args.set.now place 0) new) c.deref_mut.ensures.value c.set_rows.ensures in
    record {
      length = ap length same ∙ omega (arith, size, words.ok, c.loop-place.invariant.length);
      bits = subst (λ ws. (p b : ℕ) → HasBit ws p b ↔ MembersHave rows c.args.set.now (place + 1) p b) (sym same)
          (MembersHave-more rows c.args.set.now words.items new place small c.loop-place.invariant.bits are);
    }

pub returns-clause-bits : goal.returns-clause-bits
returns-clause-bits c = MembersHave-all (rows_in c.args.rows.now) c.args.set.now c.loop-place.words.items c.loop-place.place c.loop-place-test.false c.loop-place.invariant.bits
