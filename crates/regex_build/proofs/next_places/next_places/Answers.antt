-- The fragment of the whole expression is left.
use Rattle.std.proofs.Common.{◌≡◌, ◌+◌, ◌<◌, ◌^◌, ℕ, [], length, take, ap, ◌∙◌, sym, subst, arith}
use Rattle.std.proofs.lemmas.List.{length_push}
use Rattle.std.proofs.lemmas.Result.{IfOk-weaker}
use Rattle.regex_build.specs.declared.next_places.NextPlaces.{NextPlaces}
use Rattle.regex_build.specs.Postfix.{stacked, tree_of}
use Rattle.regex_build.specs.Fragments.{rows_in, HasRows}
use Rattle.regex_build.specs.NextPlaces.{AreNextPlaces, FinishesWith}
use Rattle.regex_build.proofs.LinkSteps.{length-rows_in}
use Rattle.regex_build.proofs.WaitingSteps.{popped, waits_next, some_waits, whole_of_waiting}
use Rattle.regex_build.proofs.next_places.next_places.Goals as goal

pub take-requires : goal.take-requires
take-requires c = record { small = c.loop-symbol.invariant.small; waits = (stacked [] (take c.loop-symbol.symbol-index c.args.symbols.now), c.loop-symbol.invariant.waits) }

pub loop-symbol-init : goal.loop-symbol-init
loop-symbol-init c =
    let one : length c.push.new.self.items ≡ 1 = ap length c.in_ok-push.ensures.items ∙ (length_push c.new-next.result.items c.new.result ∙ ap (λ xs. length xs + 1) c.new-next.ensures.items) in
    record { small = omega arith; waits = (c.new-waiting.ensures.items, length-rows_in c.push.new.self.items ∙ one) }

pub loop-symbol-preserved : goal.loop-symbol-preserved
loop-symbol-preserved c = record {
  small = c.in_ok-take.ensures.small;
  waits = waits_next c.args.symbols.now c.loop-symbol.symbol-index c.symbol-item.result c.loop-symbol.waiting.items c.take.new.waiting.items (rows_in c.loop-symbol.next.items) (rows_in c.take.new.next.items)
      c.loop-symbol-test.true c.symbol-item.is c.loop-symbol.invariant.waits c.in_ok-take.ensures.waits;
}

pub unwrap-whole-requires : goal.unwrap-whole-requires
unwrap-whole-requires c =
    let some : 0 < length c.loop-symbol.waiting.items = (some_waits c.args.symbols.now c.loop-symbol.symbol-index c.loop-symbol.waiting.items (rows_in c.loop-symbol.next.items) c.requires c.loop-symbol-test.false c.loop-symbol.invariant.waits) in
    c.pop.ensures.variant.1 (omega arith)

pub finished-requires : goal.finished-requires
finished-requires c =
    let whole = whole_of_waiting c.args.symbols.now c.loop-symbol.symbol-index c.loop-symbol.waiting.items c.pop.new.self.items c.unwrap-whole.result (rows_in c.loop-symbol.next.items) c.requires c.loop-symbol-test.false c.loop-symbol.invariant.waits
    (popped c.loop-symbol.waiting.items c.pop.new.self.items c.pop.result c.unwrap-whole.result c.pop.ensures.items c.unwrap-whole.ensures) in
    let count : length (rows_in c.loop-symbol.next.items) ≡ length c.loop-symbol.next.items = length-rows_in c.loop-symbol.next.items in
    let P : ℕ → Type 0 = λ n. HasRows n c.unwrap-whole.result in
    record { some = omega (arith, whole.count); rows = subst P count whole.places }

pub returns-clause-small : goal.returns-clause-small
returns-clause-small c =
    let P : NextPlaces → Type 0 = λ made. length made.next.items ≡ length c.loop-symbol.next.items in
    let Q : NextPlaces → Type 0 = λ made. length made.next.items < 2 ^ 32 in
    let R : ℕ → Type 0 = λ n. n < 2 ^ 32 in
    IfOk-weaker c.finished.result P Q (λ made e. subst R (sym e) c.loop-symbol.invariant.small) c.finished.ensures.count

pub returns-clause-places : goal.returns-clause-places
returns-clause-places c =
    let whole = whole_of_waiting c.args.symbols.now c.loop-symbol.symbol-index c.loop-symbol.waiting.items c.pop.new.self.items c.unwrap-whole.result (rows_in c.loop-symbol.next.items) c.requires c.loop-symbol-test.false c.loop-symbol.invariant.waits
    (popped c.loop-symbol.waiting.items c.pop.new.self.items c.pop.result c.unwrap-whole.result c.pop.ensures.items c.unwrap-whole.ensures) in
    let P : NextPlaces → Type 0 = λ made. FinishesWith (rows_in c.loop-symbol.next.items) c.unwrap-whole.result made in
    let Q : NextPlaces → Type 0 = λ made. AreNextPlaces (tree_of c.args.symbols.now) made in
    IfOk-weaker c.finished.result P Q (λ made h. h (tree_of c.args.symbols.now) whole.count whole.is) c.finished.ensures.places
