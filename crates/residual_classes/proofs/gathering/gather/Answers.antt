use Rattle.std.proofs.Common.{◌≡◌, ◌==◌, ◌&&◌, Bool, ◌↔◌, List, sym, subst}
use Rattle.std.specs.Prelude.{IsPermutation}
use Rattle.std.specs.List.{AllPairs, Contains, dedup}
use Rattle.std.proofs.lemmas.Result.{on_ok_weaker}
use Rattle.std.proofs.lemmas.List.Filters.{dedup_is}
use Rattle.std.proofs.lemmas.List.Kept.{Contains-from_dedup}
use Rattle.std.proofs.lemmas.List.Sorted.{Contains-permutation, IsPermutation-sym}
use Rattle.digit_tuple.specs.declared.transitions.Transition.{Transition}
use Rattle.digit_tuple.specs.Automaton.{IsBefore}
use Rattle.digit_tuple.specs.Groups.{AreGroups}
use Rattle.digit_tuple.proofs.TransitionLemmas.{AllPairs-dedup, Contains-dedup, transitions_decide}
use Rattle.residual_classes.proofs.GatheringLemmas.{HaveLetters-groups, IsGathered-groups}
use Rattle.residual_classes.proofs.gathering.gather.Goals as goal

abbrev same : Transition → Transition → Bool
same e f = (e.letter == f.letter) && (e.target == f.target)

pub group_into-requires : goal.group_into-requires
group_into-requires c =
    subst (AllPairs IsBefore) (sym c.deref.ensures.value)
    (subst (AllPairs IsBefore) (sym (dedup_is same c.sort_unstable.new.self.items c.dedup.new.self.items c.dedup.ensures.filtered))
    (AllPairs-dedup same transitions_decide c.sort_unstable.new.self.items c.sort_unstable.ensures.sorted))

-- the transitions in order, none of them twice
equal : (transitions sorted left : List Transition) → IsPermutation transitions sorted → left ≡ dedup same sorted → (e : Transition) → Contains left e ↔ Contains transitions e
equal transitions sorted left moved is e = (
  (λ there. Contains-permutation sorted transitions e (IsPermutation-sym transitions sorted moved) (Contains-from_dedup same sorted e (subst (λ (es : List Transition). Contains es e) is there))),
  (λ there. subst (λ (es : List Transition). Contains es e) (sym is) (Contains-dedup same transitions_decide sorted e (Contains-permutation transitions sorted e moved there))),
)

pub returns-clause-gathered : goal.returns-clause-gathered
returns-clause-gathered c =
    let transitions = c.args.transitions.now.items in
    let sorted = c.sort_unstable.new.self.items in
    let left : c.dedup.new.self.items ≡ dedup same sorted = dedup_is same sorted c.dedup.new.self.items c.dedup.ensures.filtered in
    on_ok_weaker c.group_into.result
    (λ groups. IsGathered-groups transitions c.dedup.new.self.items (equal transitions sorted c.dedup.new.self.items c.sort_unstable.ensures.permutation left) c.group_into.new.out
    (subst (λ (es : List Transition). AreGroups es c.group_into.new.out) c.deref.ensures.value groups))
    c.group_into.ensures

pub returns-clause-letters : goal.returns-clause-letters
returns-clause-letters c =
    let transitions = c.args.transitions.now.items in
    let sorted = c.sort_unstable.new.self.items in
    let left : c.dedup.new.self.items ≡ dedup same sorted = dedup_is same sorted c.dedup.new.self.items c.dedup.ensures.filtered in
    on_ok_weaker c.group_into.result
    (λ groups. HaveLetters-groups transitions c.dedup.new.self.items (equal transitions sorted c.dedup.new.self.items c.sort_unstable.ensures.permutation left) c.group_into.new.out
    (subst (λ (es : List Transition). AreGroups es c.group_into.new.out) c.deref.ensures.value groups))
    c.group_into.ensures
