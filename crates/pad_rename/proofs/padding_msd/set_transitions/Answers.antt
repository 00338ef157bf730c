use Rattle.std.proofs.Common.{◌≡◌, ◌≢◌, ℕ, List, [], length, sym, subst, arith, ◌∙◌}
use Rattle.std.proofs.lemmas.Bool.{eqb-true, eqb-false}
use Rattle.std.proofs.lemmas.List.{nil_from_length}
use Rattle.digit_tuple.specs.Automaton as branching
use Rattle.digit_tuple.specs.Keys.{KeyTransition, AreKeyTransitions}
use Rattle.determinise.specs.Subsets.{set_after}
use Rattle.pad_rename.proofs.ZeroTransitions.{AreKeyTransitions-none}
use Rattle.pad_rename.proofs.padding_msd.set_transitions.Goals as goal

pub returns-then-is_empty : goal.returns-then-is_empty
returns-then-is_empty c =
    let n = c.args.nfa.now in
    let set = c.args.set.now in
    let letters = branching.letters_of n in
    let none : set ≡ [] = nil_from_length set (eqb-true (length set) 0 (sym c.is_empty.ensures ∙ c.if-is_empty.true)) in
    subst (λ (es : List KeyTransition). AreKeyTransitions letters (set_after n set) es) (sym c.requires.empty)
    (subst (λ (qs : List ℕ). AreKeyTransitions letters (set_after n qs) []) (sym none) (AreKeyTransitions-none n letters))

pub transitions-requires-clause-graph : goal.transitions-requires-clause-graph
transitions-requires-clause-graph c =
    let more : length c.args.set.now ≢ 0 = eqb-false (length c.args.set.now) 0 (sym c.is_empty.ensures ∙ c.if-is_empty.false) in
    (c.requires.table, record { some = omega arith; in_range = c.requires.set.in_range; ascending = c.requires.set.ascending })
