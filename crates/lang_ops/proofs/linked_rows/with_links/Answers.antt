use Rattle.std.proofs.Common.{◌≡◌, ◌==◌, ◌&&◌, Bool, List, sym, ap, ◌∙◌, subst, arith}
use Rattle.std.specs.List.{AllPairs, Contains, dedup, flat_map}
use Rattle.std.proofs.lemmas.List.Filters.{dedup_is}
use Rattle.std.proofs.lemmas.List.Kept.{Contains-from_dedup}
use Rattle.std.proofs.lemmas.List.Sorted.{Contains-permutation, IsPermutation-sym}
use Rattle.std.proofs.lemmas.List.{take_all}
use Rattle.digit_tuple.specs.declared.transitions.Transition.{Transition}
use Rattle.digit_tuple.specs.Automaton.{IsBefore}
use Rattle.digit_tuple.proofs.TransitionLemmas.{AllPairs-dedup, Contains-dedup, transitions_decide}
use Rattle.lang_ops.proofs.LinkedRowLemmas.{linked_members, with_link}
use Rattle.lang_ops.proofs.linked_rows.with_links.Goals as goal

abbrev same : Transition → Transition → Bool
same e f = (e.letter == f.letter) && (e.target == f.target)

pub returns : goal.returns
returns c =
    let d = c.args.d.now in
    let link = c.args.link in
    let transitions = c.args.transitions.now in
    let made = c.loop-transition.new.items in
    let sorted = c.sort.new.self.items in
    let left : c.dedup.new.self.items ≡ dedup same sorted = dedup_is same sorted c.dedup.new.self.items c.dedup.ensures.filtered in
    let all : made ≡ flat_map (with_link d link) transitions = c.loop-transition.invariant ∙ ap (flat_map (with_link d link)) (take_all c.loop-transition.transition-index transitions (omega arith)) in
    let moved = c.in_ok-sort.ensures.permutation in
    record {
      ascending = subst (AllPairs IsBefore) (sym left) (AllPairs-dedup same transitions_decide sorted c.in_ok-sort.ensures.sorted);
      members = λ e. (
        (λ there. (linked_members d link transitions e).0 (subst (λ (es : List Transition). Contains es e) all
            (Contains-permutation sorted made e (IsPermutation-sym made sorted moved) (Contains-from_dedup same sorted e (subst (λ (es : List Transition). Contains es e) left there))))),
        (λ from. subst (λ (es : List Transition). Contains es e) (sym left)
            (Contains-dedup same transitions_decide sorted e (Contains-permutation made sorted e moved (subst (λ (es : List Transition). Contains es e) (sym all) ((linked_members d link transitions e).1 from))))),
      );
    }
