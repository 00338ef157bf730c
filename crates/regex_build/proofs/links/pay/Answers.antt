-- One crossing more.
use Rattle.std.proofs.Common.{◌≡◌, ◌<◌, ℕ, List, [], length, subst, arith}
use Rattle.std.specs.Prelude.{Contains}
use Rattle.regex_build.specs.Fragments.{rows_in, Crosses, AreLinked}
use Rattle.regex_build.proofs.ListSteps.{contains_none}
use Rattle.regex_build.proofs.LinkSteps.{length-rows_in, linked_none, crossings_more, crossings_all, crosses_at}
use Rattle.regex_build.proofs.links.pay.Goals as goal

pub link-requires : goal.link-requires
link-requires c p q h k =
    let P : List ℕ → Type 0 = λ xs. Contains xs p in
    let Q : List ℕ → Type 0 = λ xs. Contains xs q in
    let below : p < length c.args.next.now.items =
    c.requires p q (crosses_at c.args.owed.now c.loop-crossing.crossing-index c.crossing-item.result p q c.loop-crossing-test.true c.crossing-item.is (subst P c.deref.ensures.value h) (subst Q c.deref-in-loop-crossing.ensures.value k)) in
    let count : length (rows_in c.loop-crossing.next.items) ≡ length (rows_in c.args.next.now.items) = c.loop-crossing.invariant.count in
    let old : length (rows_in c.args.next.now.items) ≡ length c.args.next.now.items = length-rows_in c.args.next.now.items in
    let now : length (rows_in c.loop-crossing.next.items) ≡ length c.loop-crossing.next.items = length-rows_in c.loop-crossing.next.items in
    omega arith

pub loop-crossing-init : goal.loop-crossing-init
loop-crossing-init c = linked_none (Crosses []) (rows_in c.args.next.now.items) (λ p q h. contains_none h.0 h.1)

pub loop-crossing-preserved : goal.loop-crossing-preserved
loop-crossing-preserved c =
    let P : List ℕ → Type 0 = λ xs. AreLinked (λ p q. Contains xs p × Contains c.deref-in-loop-crossing.result.now q) (rows_in c.loop-crossing.next.items) (rows_in c.link.new.next.items) in
    let Q : List ℕ → Type 0 = λ xs. AreLinked (λ p q. Contains c.crossing-item.result.lasts.items p × Contains xs q) (rows_in c.loop-crossing.next.items) (rows_in c.link.new.next.items) in
    crossings_more c.args.owed.now c.loop-crossing.crossing-index c.crossing-item.result (rows_in c.args.next.now.items) (rows_in c.loop-crossing.next.items) (rows_in c.link.new.next.items)
    c.loop-crossing-test.true c.crossing-item.is c.loop-crossing.invariant (subst Q c.deref-in-loop-crossing.ensures.value (subst P c.deref.ensures.value c.in_ok-link.ensures))

pub returns : goal.returns
returns c = crossings_all c.args.owed.now c.loop-crossing.crossing-index (rows_in c.args.next.now.items) (rows_in c.loop-crossing.next.items) c.loop-crossing-test.false c.loop-crossing.invariant
