use Rattle.std.proofs.Common.{◌+◌, List, ℕ, drop, sym, ap, ◌∙◌}
use Rattle.std.proofs.lemmas.List.{drop_all}
use Rattle.dfa_reading.specs.Lines.{each_of}
use Rattle.dfa_reading.specs.Reading.{state_at}
use Rattle.dfa_reading.proofs.ReadHeaders.{with_prefix, with_prefix-none}
use Rattle.dfa_reading.proofs.Options.{each_all, each_more, each_fails}
use Rattle.dfa_reading.proofs.draft.places.Goals as goal

pub returns-in-None : goal.returns-in-None
returns-in-None c =
    each_fails (state_at c.args.numbers.now.keys) c.args.targets.now c.loop-target.target-index 0 c.loop-target.places.items _ c.loop-target-test.true (sym c.get_index_of.ensures.index ∙ c.in-None.is) c.loop-target.invariant

pub loop-target-preserved : goal.loop-target-preserved
loop-target-preserved c =
    ap (λ (places : List ℕ). with_prefix places (each_of (state_at c.args.numbers.now.keys) (drop (c.loop-target.target-index + 1) c.args.targets.now))) c.in_ok-push-in-Some.ensures.items
    ∙ each_more (state_at c.args.numbers.now.keys) c.args.targets.now c.loop-target.target-index 0 c.in-Some.place c.loop-target.places.items _ c.loop-target-test.true (sym c.get_index_of.ensures.index ∙ c.in-Some.is) c.loop-target.invariant

pub loop-target-init : goal.loop-target-init
loop-target-init c =
    let read = each_of (state_at c.args.numbers.now.keys) c.args.targets.now in
    ap (λ (done : List ℕ). with_prefix done read) c.in_ok-places.ensures.items ∙ with_prefix-none read

pub returns : goal.returns
returns c =
    let targets = c.args.targets.now in
    each_all (state_at c.args.numbers.now.keys) (drop c.loop-target.target-index targets) c.loop-target.places.items _ (drop_all c.loop-target.target-index targets c.loop-target-test.false) c.loop-target.invariant
