use Rattle.std.proofs.Common.{◌==◌, List, ℕ, sym, ap, ◌∙◌, subst}
use Rattle.std.proofs.lemmas.List.Filters.{dedup_is}
use Rattle.word_walk.specs.FewStates.{AreStates, flags_of}
use Rattle.word_walk.proofs.FewStateLemmas.{AreStates-sorted, flags_of-sorted}
use Rattle.word_walk.proofs.few_states.FewStates.of_list.Goals as goal

pub invariant_of-result : goal.invariant_of-result
invariant_of-result c =
    let sorted : List ℕ = c.sort_unstable.new.self.items in
    let left : List ℕ = c.dedup.new.self.items in
    subst (AreStates c.args.count) (sym c.shrink_to_fit.ensures.items)
    (AreStates-sorted c.args.count c.args.states.items sorted left c.sort_unstable.ensures.permutation c.sort_unstable.ensures.sorted
    (dedup_is (λ a b. a == b) sorted left c.dedup.ensures.filtered) c.requires)

pub returns : goal.returns
returns c =
    let sorted : List ℕ = c.sort_unstable.new.self.items in
    let left : List ℕ = c.dedup.new.self.items in
    ap (flags_of c.args.count) c.shrink_to_fit.ensures.items
    ∙ flags_of-sorted c.args.count c.args.states.items sorted left c.sort_unstable.ensures.permutation c.sort_unstable.ensures.sorted
    (dedup_is (λ a b. a == b) sorted left c.dedup.ensures.filtered)
