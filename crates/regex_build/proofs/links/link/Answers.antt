-- One last place more.
use Rattle.std.proofs.Common.{◌≡◌, ◌<◌, ℕ, [], length, get_or, ◌∙◌, sym, arith}
use Rattle.std.specs.Prelude.{Contains}
use Rattle.std.proofs.lemmas.List.{get_or_default}
use Rattle.std.proofs.lemmas.List.Elements.{Contains-get_or}
use Rattle.regex_build.specs.Fragments.{rows_in}
use Rattle.regex_build.proofs.ListSteps.{contains_none}
use Rattle.regex_build.proofs.LinkSteps.{length-rows_in, linked_none, linked_more, linked_all, none_in_empty, some_in_other}
use Rattle.regex_build.proofs.links.link.Goals as goal

pub returns-then-is_empty : goal.returns-then-is_empty
returns-then-is_empty c =
    linked_none (λ p q. Contains c.args.lasts.now p × Contains c.args.firsts.now q) (rows_in c.args.next.now.items) (λ p q h. none_in_empty c.args.firsts.now q (sym c.is_empty.ensures ∙ c.if-is_empty.true) h.1)

pub index_mut-row-requires : goal.index_mut-row-requires
index_mut-row-requires c =
    let place : ℕ = get_or c.args.lasts.now c.loop-last.last-index 0 in
    let below : place < length c.args.next.now.items =
    c.requires place (get_or c.args.firsts.now 0 0) (Contains-get_or c.args.lasts.now c.loop-last.last-index 0 c.loop-last-test.true) (some_in_other c.args.firsts.now (sym c.is_empty.ensures ∙ c.if-is_empty.false)) in
    let count : length (rows_in c.loop-last.next.items) ≡ length (rows_in c.args.next.now.items) = c.loop-last.invariant.count in
    let old : length (rows_in c.args.next.now.items) ≡ length c.args.next.now.items = length-rows_in c.args.next.now.items in
    let now : length (rows_in c.loop-last.next.items) ≡ length c.loop-last.next.items = length-rows_in c.loop-last.next.items in
    omega arith

pub loop-last-init : goal.loop-last-init
loop-last-init c = linked_none (λ p q. Contains {X = ℕ} [] p × Contains c.args.firsts.now q) (rows_in c.args.next.now.items) (λ p q h. contains_none p h.0)

pub loop-last-preserved : goal.loop-last-preserved
loop-last-preserved c =
    let place : ℕ = get_or c.args.lasts.now c.loop-last.last-index 0 in
    let below : place < length c.args.next.now.items =
    c.requires place (get_or c.args.firsts.now 0 0) (Contains-get_or c.args.lasts.now c.loop-last.last-index 0 c.loop-last-test.true) (some_in_other c.args.firsts.now (sym c.is_empty.ensures ∙ c.if-is_empty.false)) in
    let count : length (rows_in c.loop-last.next.items) ≡ length (rows_in c.args.next.now.items) = c.loop-last.invariant.count in
    let old : length (rows_in c.args.next.now.items) ≡ length c.args.next.now.items = length-rows_in c.args.next.now.items in
    let now : length (rows_in c.loop-last.next.items) ≡ length c.loop-last.next.items = length-rows_in c.loop-last.next.items in
    linked_more c.args.lasts.now c.args.firsts.now c.loop-last.last-index place (rows_in c.args.next.now.items) c.loop-last.next.items c.index_mut-row.result.now c.extend_from_slice.new.self
    c.loop-last-test.true (get_or_default c.args.lasts.now c.loop-last.last-index 0 place c.loop-last-test.true) (omega arith) c.index_mut-row.ensures.value c.in_ok-extend_from_slice.ensures.items c.loop-last.invariant

pub returns : goal.returns
returns c = linked_all c.args.lasts.now c.args.firsts.now c.loop-last.last-index (rows_in c.args.next.now.items) (rows_in c.loop-last.next.items) c.loop-last-test.false c.loop-last.invariant
