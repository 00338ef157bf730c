use Rattle.std.proofs.Common.{rules, ◌≡◌, ◌+◌, ◌<◌, ◌≤◌, ℕ, Bool, true, if◌then◌else◌, [], ◌∷◌, ◌++◌, length, false, inl, inr, refl, sym, ap, ◌∙◌, subst, arith}
use Rattle.std.specs.List.{All}
use Rattle.std.proofs.lemmas.List.Elements.{All-push, All-nil}
use Rattle.std.proofs.lemmas.List.{length_push}
use Rattle.digit_tuple.specs.Deterministic.{Automaton, State}
use Rattle.digit_tuple.specs.declared.transitions.Transition.{Transition}
use Rattle.digit_tuple.specs.Explored.{AreNumbered, NumbersSome, key_at}
use Rattle.digit_tuple.specs.Exploring.{IsExploring}
use Rattle.digit_tuple.specs.Keys.{AreKeyTransitions}
use Rattle.digit_tuple.specs.Letters.{product}
use Rattle.digit_tuple.proofs.KeyTransitionLemmas.{Overflows-written, length-are_numbered}
use Rattle.digit_tuple.proofs.FrontierLemmas.{All-state_from}
use Rattle.digit_tuple.proofs.ExploredLemmas.{IsExploring-start, IsExploring-overflows, IsExploring-gap}
use Rattle.digit_tuple.proofs.RoundLemmas.{IsRound, IsRound-written}
use Rattle.digit_tuple.proofs.exploration.add_states.Given.{Over}
use Rattle.digit_tuple.proofs.exploration.add_states.Goals as goal
use Rattle.digit_tuple.proofs.exploration.add_states.Goals.{After-deref, then-len-letters, else-len-letters, else-gap-via-then-gap+else-len-limit, else-gap-via-else-gap}

-- the state that a round makes
abbrev state_in : (g : Over) → After-deref g → State
state_in g c = record { accepting = c.is_accepting-accepting.result; transitions = c.deref.result.now }

-- the round that makes it
round : (g : Over) (c : After-deref g)
    → IsRound (g.G.KeyGraph.letters c.args.graph.now) (g.G.KeyGraph.start c.args.graph.now) (g.G.KeyGraph.after c.args.graph.now) (g.G.KeyGraph.accepts c.args.graph.now) c.explore.keys c.number_targets.new.keys c.explore.states.states (state_in g c) c.if-len-letters.gap
round g c =
    let s = c.args.graph.now in
    let keys = c.explore.keys in
    let written : c.deref.result.now ≡ c.number_targets.new.buffers.transitions.items = c.deref.ensures.value in
    let size : c.len-in-explore-4.result ≡ length c.deref.result.now = omega (arith, c.len-in-explore-4.ensures, c.number_targets.new.buffers.transitions.ok, ap length written) in
    let same : c.len-in-explore-3.result ≡ c.len-in-explore-2.result = omega (arith, c.len-in-explore-3.ensures, c.len-in-explore-2.ensures) in
    let key : c.key.result.now ≡ key_at keys c.len-in-explore-2.result = c.key.ensures in
    let numbered : key_at keys c.len-in-explore-3.result ≡ c.key.result.now = ap (key_at keys) same ∙ sym key in
    IsRound-written (g.G.KeyGraph.letters s) (g.G.KeyGraph.start s) (g.G.KeyGraph.after s) (g.G.KeyGraph.accepts s) keys c.number_targets.new.keys c.explore.states.states (state_in g c)
    c.explore.gap c.if-len-letters.gap c.key.result.now c.number_targets.new.buffers.key_transitions c.explore.invariant.exploring (omega (arith, c.len-in-explore-2.ensures)) (key ∙ ap (key_at keys) c.len-in-explore-2.ensures)
    (subst (λ k. AreKeyTransitions (g.G.KeyGraph.letters s) (g.G.KeyGraph.after s k) c.number_targets.new.buffers.key_transitions) numbered c.in_ok-number_targets.ensures.key_transitions)
    (subst (λ es. AreNumbered c.number_targets.new.buffers.key_transitions es keys c.number_targets.new.keys) (sym written) c.in_ok-number_targets.ensures.transitions) c.is_accepting-accepting.ensures
    (elim c.if-len-letters.branch [
      | then-len-letters w ↦ inl (omega (arith, w.if-len-letters.true, size, c.requires.letters), w.gap-is)
      | else-len-letters w ↦ inr (omega (arith, w.if-len-letters.false, size, c.requires.letters), w.gap-is)
    ])

-- the width of so many keys
within_limit : (gap : Bool) (count most : ℕ) → count ≤ most → (gap ≡ true → count < most) → count + (if gap then 1 else 0) ≤ most
within_limit true count most few room = omega (arith, room refl)
within_limit false count most few room = omega arith

pub is_accepting-accepting-requires-clause-key : goal.is_accepting-accepting-requires-clause-key
is_accepting-accepting-requires-clause-key g c = subst (g.G.KeyGraph.is_key c.args.graph.now) (sym c.key.ensures) (c.explore.invariant.valid c.len-in-explore-2.result [] (omega (arith, c.len-in-explore-2.ensures)))

pub number_targets-requires-clause-number : goal.number_targets-requires-clause-number
number_targets-requires-clause-number g c = omega (arith, c.len-in-explore-3.ensures)

pub number_targets-requires-clause-key : goal.number_targets-requires-clause-key
number_targets-requires-clause-key g c = c.explore.invariant.valid c.len-in-explore-3.result [] (omega (arith, c.len-in-explore-3.ensures))

pub number_targets-requires-clause-few : goal.number_targets-requires-clause-few
number_targets-requires-clause-few g c = c.explore.invariant.few

pub explore-init : goal.explore-init
explore-init g c =
    let s = c.args.graph.now in
    let keys : g.G.KeyGraph.start s ∷ [] ≡ c.args.keys.now = sym c.requires.keys in
    let none : [] ≡ c.args.states.now.states = sym c.requires.states in
    record {
      few = omega (arith, ap length keys, c.requires.some);
      room = λ never. absurd (cc);
      valid = subst (All (g.G.KeyGraph.is_key s)) keys (All-push (g.G.KeyGraph.is_key s) [] (g.G.KeyGraph.start s) (All-nil (g.G.KeyGraph.is_key s)) (g.met.G.KeyGraph.start_is_key s c.requires.graph));
      sizes = refl;
      explored = omega (arith, ap length none);
      exploring = subst (λ states. IsExploring (g.G.KeyGraph.letters s) (g.G.KeyGraph.start s) (g.G.KeyGraph.after s) (g.G.KeyGraph.accepts s) c.args.keys.now states false) none
          (subst (λ ks. IsExploring (g.G.KeyGraph.letters s) (g.G.KeyGraph.start s) (g.G.KeyGraph.after s) (g.G.KeyGraph.accepts s) ks [] false) keys
          (IsExploring-start (g.G.KeyGraph.letters s) (g.G.KeyGraph.start s) (g.G.KeyGraph.after s) (g.G.KeyGraph.accepts s)));
    }

pub returns-in_err-number_targets-clause-states : goal.returns-in_err-number_targets-clause-states
returns-in_err-number_targets-clause-states g c h =
    let s = c.args.graph.now in
    let states = c.explore.states.states in
    let keys = c.explore.keys in
    let e = c.from_residual-in_err-number_targets.ensures in
    let some : AreKeyTransitions (g.G.KeyGraph.letters s) (g.G.KeyGraph.after s (key_at keys c.len-in-explore-3.result)) c.number_targets.new.buffers.key_transitions
    × NumbersSome c.number_targets.new.buffers.key_transitions keys c.number_targets.new.keys (c.args.limit.most + 1) = search rules in
    IsExploring-overflows (g.G.KeyGraph.letters s) (g.G.KeyGraph.start s) (g.G.KeyGraph.after s) (g.G.KeyGraph.accepts s) keys c.number_targets.new.keys states c.explore.gap (c.args.limit.most + 1)
    c.explore.invariant.exploring (omega (arith, c.len-in-explore-3.ensures))
    (Overflows-written (g.G.KeyGraph.letters s) (g.G.KeyGraph.after s) keys c.number_targets.new.keys (key_at keys (length states)) (key_at keys c.len-in-explore-3.result) c.number_targets.new.buffers.key_transitions (c.args.limit.most + 1)
    (ap (key_at keys) c.len-in-explore-3.ensures) some.0 some.1)

pub add_state-requires-clause-in_range : goal.add_state-requires-clause-in_range
add_state-requires-clause-in_range g c =
    let now = round g (goal.at.add_state-requires-clause-in_range g c).After-deref in
    subst (λ n. All (λ (transition : Transition). transition.letter < n) c.deref.result.now) (sym c.requires.alphabet ∙ sym (ap product c.explore.invariant.sizes)) now.in_range

pub add_state-requires-clause-ascending : goal.add_state-requires-clause-ascending
add_state-requires-clause-ascending g c = (round g (goal.at.add_state-requires-clause-ascending g c).After-deref).ascending

pub returns-then-len-limit-clause-states : goal.returns-then-len-limit-clause-states
returns-then-len-limit-clause-states g c h =
    let s = c.args.graph.now in
    let at = (goal.at.returns-then-len-limit-clause-states g c).After-deref in
    let states = c.explore.states.states ++ state_in g at ∷ [] in
    IsExploring-gap (g.G.KeyGraph.letters s) (g.G.KeyGraph.start s) (g.G.KeyGraph.after s) (g.G.KeyGraph.accepts s) c.number_targets.new.keys states c.args.limit.most
    (subst (IsExploring (g.G.KeyGraph.letters s) (g.G.KeyGraph.start s) (g.G.KeyGraph.after s) (g.G.KeyGraph.accepts s) c.number_targets.new.keys states) c.if-gap.true (round g at).exploring) (omega arith)

pub explore-preserved : goal.explore-preserved
explore-preserved g c =
    let s = c.args.graph.now in
    let states = c.explore.states.states in
    let at = (goal.at.explore-preserved g c).After-deref in
    let state = state_in g at in
    let now = round g at in
    let pushed : c.add_state.new.self.states ≡ states ++ state ∷ [] = ap (λ (d : Automaton). d.states) c.in_ok-add_state.ensures in
    record {
      few = c.in_ok-number_targets.ensures.few;
      room = λ gap. elim c.else-gap.branch [
        | else-gap-via-then-gap+else-len-limit w ↦ omega (arith, w.if-len-limit.false, w.len-then-gap.ensures.len, c.in_ok-number_targets.ensures.few)
        | else-gap-via-else-gap w ↦ absurd (cc (gap, w.if-gap.false))
      ];
      valid = All-state_from (g.G.KeyGraph.is_key s) (g.G.KeyGraph.letters s) (g.G.KeyGraph.after s (key_at c.explore.keys (length states))) (g.G.KeyGraph.accepts s (key_at c.explore.keys (length states))) c.explore.keys c.number_targets.new.keys state
          (λ a small. g.met.G.KeyGraph.after_is_key s (key_at c.explore.keys (length states)) a c.requires.graph (c.explore.invariant.valid (length states) [] (omega (arith, c.len-in-explore-2.ensures))) small)
          now.from c.explore.invariant.valid;
      sizes = ap (λ (d : Automaton). d.sizes) c.in_ok-add_state.ensures ∙ c.explore.invariant.sizes;
      explored = omega (arith, length_push states state, length-are_numbered now.from.key_transitions state.transitions c.explore.keys c.number_targets.new.keys now.from.numbered, c.len-in-explore-2.ensures, ap length pushed);
      exploring = subst (λ ss. IsExploring (g.G.KeyGraph.letters s) (g.G.KeyGraph.start s) (g.G.KeyGraph.after s) (g.G.KeyGraph.accepts s) c.number_targets.new.keys ss c.if-len-letters.gap) (sym pushed) now.exploring;
    }

pub explore-smaller : goal.explore-smaller
explore-smaller g c =
    let states = c.explore.states.states in
    let state = state_in g (goal.at.explore-smaller g c).After-deref in
    let pushed : c.add_state.new.self.states ≡ states ++ state ∷ [] = ap (λ (d : Automaton). d.states) c.in_ok-add_state.ensures in
    omega (arith, length_push states state, ap length pushed, c.explore.invariant.few, c.len-in-explore-2.ensures)

pub returns-clause-sizes : goal.returns-clause-sizes
returns-clause-sizes g c = c.explore.invariant.sizes

pub returns-clause-exploring : goal.returns-clause-exploring
returns-clause-exploring g c = c.explore.invariant.exploring

pub returns-clause-done : goal.returns-clause-done
returns-clause-done g c = omega (arith, c.explore.invariant.explored)

pub returns-clause-keys : goal.returns-clause-keys
returns-clause-keys g c = c.explore.invariant.valid

pub returns-clause-within : goal.returns-clause-within
returns-clause-within g c = within_limit c.explore.gap (length c.explore.keys) c.args.limit.most c.explore.invariant.few c.explore.invariant.room
