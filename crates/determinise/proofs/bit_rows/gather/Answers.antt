use Rattle.std.proofs.Common.{◌≡◌, ℕ, ◌+◌, ◌<◌, ◌++◌, take, drop, length, get_or, sym, ap, ◌∙◌, subst, arith}
use Rattle.std.specs.Prelude.{Vec}
use Rattle.std.specs.declared.alloc.Global.{Global}
use Rattle.std.proofs.lemmas.List.{take_all, take_at}
use Rattle.std.proofs.lemmas.List.Elements.{All-same}
use Rattle.determinise.specs.declared.bit_words.BitWord.{BitWord}
use Rattle.determinise.specs.Bits.{AreGathered, AreSet, row_at, rows_in}
use Rattle.determinise.proofs.BitRowLemmas.{AreGathered-more, row_at-in}
use Rattle.determinise.proofs.bit_rows.gather.Goals as goal

pub offset_bounds-rows-state : goal.offset_bounds-rows-state
offset_bounds-rows-state c = omega (arith, c.requires.there c.loop-state.state-index 0 c.loop-state-test.true)

pub bounds-rows-state : goal.bounds-rows-state
bounds-rows-state c = c.requires.there c.loop-state.state-index 0 c.loop-state-test.true

pub set_row-requires : goal.set_row-requires
set_row-requires c k d within =
    let row = c.index-rows-state.result in
    let at : ℕ = get_or c.args.set.now c.loop-state.state-index 0 in
    let same : c.deref.result.now ≡ (get_or c.args.rows.now at row).items = c.deref.ensures.value ∙ ap (λ (v : Vec BitWord Global). v.items) c.index-rows-state.is in
    let all = c.requires.within at row (c.requires.there c.loop-state.state-index 0 c.loop-state-test.true) in
    let here = All-same (λ (word : BitWord). word.place < c.args.room) c.deref.result.now (get_or c.args.rows.now at row).items same all k d within in
    omega (arith, here, ap length c.deref_mut.ensures.value, c.loop-state.invariant.length)

pub loop-state-preserved : goal.loop-state-preserved
loop-state-preserved c =
    let new = c.set_row.new.words in
    let words = c.loop-state.words in
    let rows = rows_in c.args.rows.now in
    let set = c.args.set.now in
    let k = c.loop-state.state-index in
    let row = c.index-rows-state.result in
    let size : length new ≡ words.len = omega (arith, c.set_row.auto.words, c.deref_mut.ensures.len, words.ok) in
    let same : take words.len (new ++ drop (length new) words.items) ≡ new = take_at new (drop (length new) words.items) words.len size in
    let within : get_or set k 0 < length c.args.rows.now = c.requires.there k 0 c.loop-state-test.true in
    let read : c.deref.result.now ≡ row_at rows (get_or set k 0) = c.deref.ensures.value ∙ ap (λ (v : Vec BitWord Global). v.items) c.index-rows-state.is ∙ sym (row_at-in c.args.rows.now (get_or set k 0) row within) in
    let one : AreSet words.items (row_at rows (get_or set k 0)) new =
    subst (λ r. AreSet words.items r new) read (subst (λ old. AreSet old c.deref.result.now new) c.deref_mut.ensures.value c.set_row.ensures) in
    record {
      length = ap length same ∙ omega (arith, size, words.ok, c.loop-state.invariant.length);
      bits = subst (AreGathered rows (take (k + 1) set)) (sym same) (AreGathered-more rows set k words.items new c.loop-state-test.true c.loop-state.invariant.bits one);
    }

pub returns-clause-bits : goal.returns-clause-bits
returns-clause-bits c = subst (λ set. AreGathered (rows_in c.args.rows.now) set c.loop-state.words.items) (take_all c.loop-state.state-index c.args.set.now c.loop-state-test.false) c.loop-state.invariant.bits
