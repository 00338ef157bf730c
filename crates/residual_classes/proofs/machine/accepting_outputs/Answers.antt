use Rattle.std.proofs.Common.{◌≡◌, ℕ, Bool, true, false, ◌∷◌, ◌++◌, [], List, map, take, get_or, refl, sym, ap, ◌∙◌, arith}
use mir.Val.{bool_byte}
use Rattle.std.proofs.lemmas.List.{map_more, take_all}
use Rattle.digit_tuple.specs.Deterministic.{State, no_state}
use Rattle.residual_classes.specs.Outputs.{bit_of}
use Rattle.residual_classes.proofs.machine.accepting_outputs.Goals as goal

bit_of-byte : (b : Bool) → bool_byte b ≡ bit_of b
bit_of-byte true = refl
bit_of-byte false = refl

pub accepting-requires : goal.accepting-requires
accepting-requires c = omega (arith, c.loop-state-test.true, c.loop-state.auto.state-end, c.states-states.ensures.value)

pub loop-state-preserved : goal.loop-state-preserved
loop-state-preserved c =
    let states = c.args.dfa.now.states in
    let q = c.loop-state.state in
    let bit = λ (state : State). bit_of state.accepting in
    let one : c.from.result ≡ bit (get_or states q no_state) = c.from.ensures ∙ bit_of-byte c.accepting.result ∙ ap bit_of c.accepting.ensures.accepting in
    c.in_ok-push.ensures.items ∙ ap (λ (xs : List ℕ). xs ++ c.from.result ∷ []) c.loop-state.invariant
    ∙ ap (λ (n : ℕ). map bit (take q states) ++ n ∷ []) one
    ∙ sym (map_more bit states q no_state (omega (arith, c.loop-state-test.true, c.loop-state.auto.state-end, c.states-states.ensures.value)))

pub returns : goal.returns
returns c = c.loop-state.invariant ∙ ap (map (λ (state : State). bit_of state.accepting)) (take_all c.loop-state.state c.args.dfa.now.states (omega (arith, c.loop-state-test.false, c.states-states.ensures.value)))
