use Rattle.std.proofs.Common.{◌≡◌, ◌<◌, ap, ◌∙◌, subst, sym, arith}
use Rattle.std.specs.List.{Contains, flat_map}
use Rattle.std.proofs.lemmas.List.{take_all}
use Rattle.std.proofs.lemmas.List.Elements.{All-contains_itself, All-weaker}
use Rattle.std.proofs.lemmas.Result.{IfOk-weaker}
use Rattle.digit_tuple.specs.declared.transitions.Transition.{Transition}
use Rattle.digit_tuple.specs.Automaton.{transitions_of, letters_of}
use Rattle.digit_tuple.specs.Letters.{product}
use Rattle.digit_tuple.proofs.MemberLemmas.{Contains-flat_map, Contains-from_flat_map}
use Rattle.digit_tuple.proofs.TableLemmas.{Leads-in_range}
use Rattle.determinise.proofs.subsets.transitions_from.Goals as goal

pub in_order-requires : goal.in_order-requires
in_order-requires c =
    let n = c.args.nfa.now in
    let all : c.deref.result.now ≡ flat_map (transitions_of n) c.args.set.now =
    c.deref.ensures.value ∙ c.loop-state.invariant ∙ ap (flat_map (transitions_of n)) (take_all c.loop-state.state-index c.args.set.now c.loop-state-test.false) in
    let letters : c.letters.result ≡ letters_of n = c.letters.ensures.value ∙ ap product c.alphabet.ensures.sizes in
    All-weaker (Contains c.deref.result.now) (λ (e : Transition). (e.letter < c.letters.result) × (e.target < c.states.result))
    (λ e there.
    let from = Contains-from_flat_map (transitions_of n) c.args.set.now e (subst (λ es. Contains es e) all there) in
    let both = Leads-in_range n from.0 e.letter e.target c.states.ensures.table from.2 in
    (omega (arith, both.0, letters), omega (arith, both.1, c.states.ensures.value))) c.deref.result.now (All-contains_itself c.deref.result.now)

pub returns-clause-ascending : goal.returns-clause-ascending
returns-clause-ascending c = IfOk-weaker c.in_order.result _ _ (λ new are. are.ascending) c.in_order.ensures

pub returns-clause-members : goal.returns-clause-members
returns-clause-members c =
    let n = c.args.nfa.now in
    let all : c.deref.result.now ≡ flat_map (transitions_of n) c.args.set.now =
    c.deref.ensures.value ∙ c.loop-state.invariant ∙ ap (flat_map (transitions_of n)) (take_all c.loop-state.state-index c.args.set.now c.loop-state-test.false) in
    IfOk-weaker c.in_order.result _ _
    (λ new are transition. (
      (λ there. Contains-from_flat_map (transitions_of n) c.args.set.now transition (subst (λ es. Contains es transition) all ((are.members transition).0 there))),
      (λ found. (are.members transition).1 (subst (λ es. Contains es transition) (sym all) (Contains-flat_map (transitions_of n) c.args.set.now found.0 transition found.1 found.2))),
    )) c.in_order.ensures
