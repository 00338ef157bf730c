-- Words may end at one last place more.
use Rattle.std.proofs.Common.{◌≡◌, ◌<◌, ℕ, true, false, length, vec_len, get_or, ◌∙◌, arith, get_or-set_same}
use Rattle.std.proofs.Math.ListN.{length-set}
use Rattle.std.proofs.lemmas.List.{get_or_default}
use Rattle.std.proofs.lemmas.List.Elements.{Contains-get_or}
use Rattle.regex_build.proofs.FinishSteps.{resized, no_ends, ends_more, ends_others}
use Rattle.regex_build.proofs.next_places.ends_of.Goals as goal

pub loop-last-init : goal.loop-last-init
loop-last-init c = record {
  count = omega (arith, c.in_ok-resize.ensures.len);
  ends = λ p. no_ends c.args.count p c.resize.new.self.items (resized c.args.count (vec_len c.new-ends.result) c.new-ends.result.items c.resize.new.self.items c.new-ends.ensures.items c.new-ends.ensures.len c.in_ok-resize.ensures.items);
}

pub index_mut-requires : goal.index_mut-requires
index_mut-requires c =
    let place : ℕ = get_or c.args.lasts.now c.loop-last.last-index 0 in
    let below : place < c.args.count = c.requires.room place (Contains-get_or c.args.lasts.now c.loop-last.last-index 0 c.loop-last-test.true) in
    let count : length c.loop-last.ends.items ≡ c.args.count = c.loop-last.invariant.count in
    omega arith

pub loop-last-preserved : goal.loop-last-preserved
loop-last-preserved c =
    let place : ℕ = get_or c.args.lasts.now c.loop-last.last-index 0 in
    let below : place < c.args.count = c.requires.room place (Contains-get_or c.args.lasts.now c.loop-last.last-index 0 c.loop-last-test.true) in
    let count : length c.loop-last.ends.items ≡ c.args.count = c.loop-last.invariant.count in
    record {
      count = length-set c.loop-last.ends.items place true ∙ count;
      ends = ends_more c.args.lasts.now c.loop-last.last-index place c.loop-last.ends.items c.loop-last-test.true (get_or_default c.args.lasts.now c.loop-last.last-index 0 place c.loop-last-test.true) (omega arith) c.loop-last.invariant.ends;
    }

pub returns-clause-count : goal.returns-clause-count
returns-clause-count c = length-set c.loop-last.ends.items 0 c.args.nullable ∙ c.loop-last.invariant.count

pub returns-clause-first : goal.returns-clause-first
returns-clause-first c =
    let some : 0 < c.args.count = c.requires.some in
    let count : length c.loop-last.ends.items ≡ c.args.count = c.loop-last.invariant.count in
    get_or-set_same c.loop-last.ends.items 0 c.args.nullable false (omega arith)

pub returns-clause-others : goal.returns-clause-others
returns-clause-others c = ends_others c.args.lasts.now c.loop-last.last-index c.loop-last.ends.items c.args.nullable c.loop-last-test.false c.loop-last.invariant.ends
