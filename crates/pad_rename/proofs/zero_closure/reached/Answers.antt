use Rattle.std.proofs.Common.{◌≡◌, ◌+◌, ◌<◌, ◌≤◌, List, Bool, length, drop, sym, ap, ◌∙◌, subst, arith}
use Rattle.std.proofs.lemmas.List.{get_or_default}
use Rattle.digit_tuple.specs.Automaton.{states_of}
use Rattle.digit_tuple.specs.declared.transitions.Transition.{Transition}
use Rattle.pad_rename.specs.ZeroClosure.{AreFound, AreFoundToo, IsTargetOf}
use Rattle.pad_rename.proofs.ZeroClosureLemmas.{AreFound-few, IsSearch, IsSearch-begin, IsSearch-next, IsReached-flagged, written}
use Rattle.pad_rename.proofs.zero_closure.reached.Goals as goal

pub loop-next-init : goal.loop-next-init
loop-next-init c =
    let n = c.args.nfa.now in
    let new = c.find_all.new.flags in
    let size : length new ≡ length c.deref_mut.result.now = c.in_ok-find_all.ensures.found.size in
    let count : length c.deref_mut.result.now ≡ states_of n = omega (arith, ap (λ (fs : List Bool). length fs) c.deref_mut.ensures.value, c.in_ok-flags.ensures.len, c.in_ok-flags.flags.ok, c.states.ensures.value) in
    let is = written c.in_ok-flags.flags.len new (drop (length new) c.in_ok-flags.flags.items) (omega (arith, size, c.deref_mut.ensures.len)) in
    subst (λ (fs : List Bool). IsSearch n c.args.letters.now c.args.first.now fs c.find_all.new.found.items 0) (sym is)
    (IsSearch-begin n c.args.letters.now new c.args.first.now c.new-found.result.items c.find_all.new.found.items c.new-found.ensures.items
    (subst (λ k. AreFound k new c.find_all.new.found.items) count c.in_ok-find_all.ensures.found) c.in_ok-find_all.ensures.too)

pub loop-next-smaller : goal.loop-next-smaller
loop-next-smaller c =
    let few = AreFound-few (states_of c.args.nfa.now) c.loop-next.flags.items c.loop-next.found.items c.loop-next.invariant.are in
    omega (arith, few, c.loop-next-test.true, c.len.ensures, c.loop-next.found.ok)

pub loop-next-preserved : goal.loop-next-preserved
loop-next-preserved c =
    let n = c.args.nfa.now in
    let new = c.find_targets.new.flags in
    let found = c.loop-next.found.items in
    let next = c.loop-next.next in
    let within : next < length found = omega (arith, c.loop-next-test.true, c.len.ensures, c.loop-next.found.ok) in
    let size : length new ≡ length c.deref_mut-in-loop-next.result.now = c.in_ok-find_targets.ensures.found.size in
    let count : length c.deref_mut-in-loop-next.result.now ≡ states_of n = ap (λ (fs : List Bool). length fs) c.deref_mut-in-loop-next.ensures.value ∙ c.loop-next.invariant.are.size in
    let is = written c.loop-next.flags.len new (drop (length new) c.loop-next.flags.items) (omega (arith, size, c.deref_mut-in-loop-next.ensures.len)) in
    subst (λ (fs : List Bool). IsSearch n c.args.letters.now c.args.first.now fs c.find_targets.new.found.items (next + 1)) (sym is)
    (IsSearch-next n c.args.letters.now c.loop-next.flags.items new c.args.first.now found c.find_targets.new.found.items next c.index.result.now within
    (get_or_default found next 0 c.index.result.now within ∙ sym c.index.ensures) c.loop-next.invariant
    (subst (λ k. AreFound k new c.find_targets.new.found.items) count c.in_ok-find_targets.ensures.found)
    (subst (λ (es : List Transition). AreFoundToo found c.find_targets.new.found.items (IsTargetOf c.args.letters.now es)) c.transitions-transitions.ensures.transitions c.in_ok-find_targets.ensures.too))

pub returns-clause-reached : goal.returns-clause-reached
returns-clause-reached c =
    let all : length c.loop-next.found.items ≤ c.loop-next.next = omega (arith, c.loop-next-test.false, c.len.ensures, c.loop-next.found.ok) in
    λ q. IsReached-flagged c.args.nfa.now c.args.letters.now c.loop-next.flags.items c.args.first.now c.loop-next.found.items c.loop-next.next c.loop-next.invariant all q
