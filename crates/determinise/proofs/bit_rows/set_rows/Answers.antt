use Rattle.std.proofs.Common.{◌≡◌, ℕ, ◌+◌, ◌-◌, ◌<◌, ◌^◌, ◌↔◌, ◌⊎◌, bit_and, length, get_or, sym, ap, ◌∙◌, subst, arith}
use Rattle.std.specs.Int.{bit_at, trailing_zeros}
use Rattle.std.specs.Prelude.{Vec}
use Rattle.std.specs.declared.alloc.Global.{Global}
use Rattle.std.proofs.lemmas.List.Elements.{All-same}
use Rattle.determinise.specs.declared.bit_words.BitWord.{BitWord}
use Rattle.std.proofs.lemmas.Nat.Bits.{bit_at-trailing_zeros}
use mir.Syntax.{w32}
use Rattle.determinise.specs.Bits.{AreSet, HasBit, row_at, rows_in}
use Rattle.determinise.proofs.BitRowLemmas.{RowsHave, without_bit, without_bit-below, without_bit-lowest, without_bit-part, RowsHave-none, RowsHave-more, RowsHave-all, row_at-in}
use Rattle.determinise.proofs.bit_rows.set_rows.Goals as goal

lowest : (n : ℕ) → (n ≡ 0 → ⊥) → n < 2 ^ 32 → (trailing_zeros w32 n < 32) × (bit_at n (trailing_zeros w32 n) ≡ 1) × (bit_and n (n - 1) ≡ without_bit n (trailing_zeros w32 n))
lowest n some small = let low = bit_at-trailing_zeros w32 n (omega (arith, some)) small in (low.0, low.1, without_bit-lowest n (trailing_zeros w32 n) small low.0 low.1 low.2)

pub loop-rest-init : goal.loop-rest-init
loop-rest-init c = record { part = λ k is. is; are = RowsHave-none c.args.words.now (rows_in c.args.rows.now) c.args.first c.args.members }

pub overflow_add-first : goal.overflow_add-first
overflow_add-first c =
    let low = lowest c.loop-rest.rest c.loop-rest-test.true (omega arith) in
    let here : c.args.first + trailing_zeros w32 c.loop-rest.rest < length c.args.rows.now = c.requires.there (trailing_zeros w32 c.loop-rest.rest) (c.loop-rest.invariant.part (trailing_zeros w32 c.loop-rest.rest) low.1) in
    omega (arith, here)

pub offset_bounds-rows-first : goal.offset_bounds-rows-first
offset_bounds-rows-first c =
    let low = lowest c.loop-rest.rest c.loop-rest-test.true (omega arith) in
    let here : c.args.first + trailing_zeros w32 c.loop-rest.rest < length c.args.rows.now = c.requires.there (trailing_zeros w32 c.loop-rest.rest) (c.loop-rest.invariant.part (trailing_zeros w32 c.loop-rest.rest) low.1) in
    omega (arith, here)

pub bounds-rows-first : goal.bounds-rows-first
bounds-rows-first c =
    let low = lowest c.loop-rest.rest c.loop-rest-test.true (omega arith) in
    c.requires.there (trailing_zeros w32 c.loop-rest.rest) (c.loop-rest.invariant.part (trailing_zeros w32 c.loop-rest.rest) low.1)

pub set_row-requires : goal.set_row-requires
set_row-requires c k d within =
    let low = lowest c.loop-rest.rest c.loop-rest-test.true (omega arith) in
    let row = c.index-rows-first.result in
    let at : ℕ = c.args.first + trailing_zeros w32 c.loop-rest.rest in
    let same : c.deref.result.now ≡ (get_or c.args.rows.now at row).items = c.deref.ensures.value ∙ ap (λ (v : Vec BitWord Global). v.items) c.index-rows-first.is in
    let all = c.requires.within at row (c.requires.there (trailing_zeros w32 c.loop-rest.rest) (c.loop-rest.invariant.part (trailing_zeros w32 c.loop-rest.rest) low.1)) in
    let here = All-same (λ (word : BitWord). word.place < length c.args.words.now) c.deref.result.now (get_or c.args.rows.now at row).items same all k d within in
    omega (arith, here)

pub loop-rest-smaller : goal.loop-rest-smaller
loop-rest-smaller c =
    let low = lowest c.loop-rest.rest c.loop-rest-test.true (omega arith) in
    subst (λ left. left < c.loop-rest.rest) (sym low.2) (without_bit-below c.loop-rest.rest (trailing_zeros w32 c.loop-rest.rest) low.0 low.1)

pub loop-rest-preserved : goal.loop-rest-preserved
loop-rest-preserved c =
    let rest = c.loop-rest.rest in
    let low = lowest rest c.loop-rest-test.true (omega arith) in
    let row = c.index-rows-first.result in
    let at : ℕ = c.args.first + trailing_zeros w32 c.loop-rest.rest in
    let within : at < length c.args.rows.now = c.requires.there (trailing_zeros w32 rest) (c.loop-rest.invariant.part (trailing_zeros w32 rest) low.1) in
    let same : c.deref.result.now ≡ row_at (rows_in c.args.rows.now) at = c.deref.ensures.value ∙ ap (λ (v : Vec BitWord Global). v.items) c.index-rows-first.is ∙ sym (row_at-in c.args.rows.now at row within) in
    record {
      part = λ k is. c.loop-rest.invariant.part k (without_bit-part rest (trailing_zeros w32 rest) k (sym (ap (λ left. bit_at left k) low.2) ∙ is));
      are = subst (λ left. (place bit : ℕ) → HasBit c.set_row.new.words place bit ↔ (HasBit c.args.words.now place bit ⊎ RowsHave (rows_in c.args.rows.now) c.args.first c.args.members left place bit)) (sym low.2)
          (RowsHave-more c.args.words.now (rows_in c.args.rows.now) c.args.first c.args.members c.loop-rest.words c.set_row.new.words rest (trailing_zeros w32 rest) (omega arith) low.0 low.1 c.loop-rest.invariant.part c.loop-rest.invariant.are
          (subst (λ row. AreSet c.loop-rest.words row c.set_row.new.words) same c.set_row.ensures));
    }

pub returns : goal.returns
returns c = RowsHave-all c.args.words.now (rows_in c.args.rows.now) c.args.first c.args.members c.loop-rest.words c.loop-rest.rest c.loop-rest-test.false c.loop-rest.invariant.are
