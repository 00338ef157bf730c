use Rattle.std.proofs.Common.{◌≡◌, ℕ, List, [], ◌∷◌, ◌++◌, get_or, take, sym, ap, ◌∙◌, subst, rules, arith}
use Rattle.std.specs.List.{flat_map}
use Rattle.std.specs.List.Sorted.{IsPermutation}
use Rattle.std.proofs.lemmas.List.{append-nil, take_all, take_more}
use Rattle.std.proofs.lemmas.List.Concat.{flat_map-append}
use Rattle.std.proofs.lemmas.List.Sorted.{IsNonDecreasingBy-from_sort_by_key}
use Rattle.digit_tuple.specs.PartIndex.{letters_with}
use Rattle.digit_tuple.specs.declared.transitions.Transition.{Transition}
use Rattle.pad_rename.proofs.PartTransitionLemmas.{AreTransitionsByParts-sorted, transitions_by, transitions_with}
use Rattle.pad_rename.proofs.part_reading.transitions_by_parts.Goals as goal

pub loop-transition-preserved : goal.loop-transition-preserved
loop-transition-preserved c =
    let row = c.args.row.now in
    let f = transitions_with c.args.parts.now in
    let before = c.loop-transition.transitions.items in
    let at = c.loop-transition.transition-index in
    let transition : Transition = get_or row at (record { letter = 0; target = 0 }) in
    let letters : c.deref.result.now ≡ letters_with c.args.parts.now transition.letter = c.deref.ensures.value ∙ c.in_ok-add_letters.ensures ∙ ap (λ (ls : List ℕ). ls ++ letters_with c.args.parts.now transition.letter) c.clear.ensures.items in
    let added : c.add_transitions.new.transitions.items ≡ before ++ transitions_by transition c.deref.result.now = c.in_ok-add_transitions.ensures in
    added
    ∙ ap (λ ls. before ++ transitions_by transition ls) letters
    ∙ ap (λ transitions. transitions ++ f transition) c.loop-transition.invariant
    ∙ ap (λ transitions. flat_map f (take at row) ++ transitions) (sym (append-nil (f transition)))
    ∙ sym (flat_map-append f (take at row) (transition ∷ []))
    ∙ ap (flat_map f) (sym (take_more row at (record { letter = 0; target = 0 }) c.loop-transition-test.true))

pub returns : goal.returns
returns c =
    let row = c.args.row.now in
    let parts = c.args.parts.now in
    let sorted = c.sort_unstable_by_key.new.self.items in
    let all : c.loop-transition.transitions.items ≡ flat_map (transitions_with parts) row = c.loop-transition.invariant ∙ ap (flat_map (transitions_with parts)) (take_all c.loop-transition.transition-index row (omega arith)) in
    AreTransitionsByParts-sorted parts row sorted c.requires (subst (λ es. IsPermutation es sorted) all c.sort_unstable_by_key.ensures.permutation)
    (IsNonDecreasingBy-from_sort_by_key (λ (e : Transition). e.letter) sorted c.sort_unstable_by_key.ensures.sorted (λ a r q k. search rules))
