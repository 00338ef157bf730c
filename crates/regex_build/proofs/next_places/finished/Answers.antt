-- What is owed is listed, and the first places come next at the beginning.
use Rattle.std.proofs.Common.{◌≡◌, ◌<◌, ◌↔◌, ℕ, false, List, length, sym, subst, ◌∙◌, arith}
use Rattle.std.specs.Prelude.{Contains, IsTrue, slice_index_or}
use Rattle.std.specs.Vec.{with_item}
use Rattle.std.proofs.Math.ListN.{length-set}
use Rattle.std.proofs.lemmas.List.{map-set}
use Rattle.regex_build.specs.declared.fragment.Crossing.{Crossing}
use Rattle.regex_build.specs.Fragments.{rows_in, Crosses, AreLinked}
use Rattle.regex_build.proofs.FinishSteps.{finishes_with}
use Rattle.regex_build.proofs.LinkSteps.{length-rows_in}
use Rattle.regex_build.proofs.next_places.finished.Goals as goal

pub pay-requires : goal.pay-requires
pay-requires c p q h = let P : List Crossing → Type 0 = λ xs. Crosses xs p q in c.requires.rows.owed p q (subst P c.deref.ensures.value h)

pub ends_of-requires : goal.ends_of-requires
ends_of-requires c =
    let count : length (rows_in c.pay.new.next.items) ≡ length (rows_in c.args.next.items) = c.in_ok-pay.ensures.count in
    let old : length (rows_in c.args.next.items) ≡ length c.args.next.items = length-rows_in c.args.next.items in
    let new : length (rows_in c.pay.new.next.items) ≡ length c.pay.new.next.items = length-rows_in c.pay.new.next.items in
    let some : 0 < length c.args.next.items = c.requires.some in
    let len : c.len.result ≡ length c.pay.new.next.items = omega (arith, c.len.ensures) in
    record {
      some = omega arith;
      room = λ p h.
          let P : List ℕ → Type 0 = λ xs. Contains xs p in
          let below : p < length c.args.next.items = c.requires.rows.lasts p (subst P c.deref-2.ensures.value h) in
          omega arith;
    }

pub index_mut-requires : goal.index_mut-requires
index_mut-requires c =
    let count : length (rows_in c.pay.new.next.items) ≡ length (rows_in c.args.next.items) = c.in_ok-pay.ensures.count in
    let old : length (rows_in c.args.next.items) ≡ length c.args.next.items = length-rows_in c.args.next.items in
    let new : length (rows_in c.pay.new.next.items) ≡ length c.pay.new.next.items = length-rows_in c.pay.new.next.items in
    let some : 0 < length c.args.next.items = c.requires.some in
    omega arith

pub returns-clause-count : goal.returns-clause-count
returns-clause-count c =
    length-set c.pay.new.next.items 0 c.args.whole.firsts ∙ (sym (length-rows_in c.pay.new.next.items) ∙ (c.in_ok-pay.ensures.count ∙ length-rows_in c.args.next.items))

pub returns-clause-places : goal.returns-clause-places
returns-clause-places c =
    let P : List Crossing → Type 0 = λ xs. AreLinked (Crosses xs) (rows_in c.args.next.items) (rows_in c.pay.new.next.items) in
    let Q : List ℕ → Type 0 = λ xs. (p : ℕ) → 0 < p → IsTrue (slice_index_or c.in_ok-ends.ends.items p false) ↔ Contains xs p in
    let old : length (rows_in c.args.next.items) ≡ length c.args.next.items = length-rows_in c.args.next.items in
    let some : 0 < length c.args.next.items = c.requires.some in
    let len : c.len.result ≡ length c.pay.new.next.items = omega (arith, c.len.ensures) in
    finishes_with (rows_in c.args.next.items) (rows_in c.pay.new.next.items) c.args.whole (record { next = with_item c.pay.new.next 0 c.args.whole.firsts; ends = c.in_ok-ends.ends })
    (subst P c.deref.ensures.value c.in_ok-pay.ensures) (omega arith) (map-set (λ v. v.items) c.pay.new.next.items 0 c.args.whole.firsts)
    (c.in_ok-ends.ensures.count ∙ (len ∙ sym (length-set c.pay.new.next.items 0 c.args.whole.firsts))) c.in_ok-ends.ensures.first (subst Q c.deref-2.ensures.value c.in_ok-ends.ensures.others)
