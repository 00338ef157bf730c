use Rattle.std.proofs.Common.{◌≡◌, ℕ, Bool, true, false, List, length, get_or, take, replicate, sym, ap, ◌∙◌}
use Rattle.std.proofs.lemmas.List.{get_or-replicate, length-replicate, length-set, take_all}
use Rattle.word_walk.specs.FewStates.{has_state}
use Rattle.word_walk.proofs.FewStateLemmas.{flags_more, flags_of-flags}
use Rattle.word_walk.proofs.few_states.flags_of.Goals as goal

pub loop-state-init : goal.loop-state-init
loop-state-init c =
    let n : ℕ = c.args.count in
    let all : c.in_ok-flags.flags.items ≡ replicate n false = c.in_ok-flags.ensures.items_if_clones_equal (λ y is. is) in
    record {
      width = ap (λ (flags : List Bool). length flags) all ∙ length-replicate {A = Bool} n false;
      flag_is = λ q within. ap (λ (flags : List Bool). get_or flags q false) all ∙ get_or-replicate n q false false within;
    }

pub loop-state-preserved : goal.loop-state-preserved
loop-state-preserved c =
    let states : List ℕ = c.args.states.now in
    let flags : List Bool = c.loop-state.flags.items in
    let at : ℕ = c.loop-state.state-index in
    record {
      width = length-set flags (get_or states at 0) true ∙ c.loop-state.invariant.width;
      flag_is = flags_more c.args.count states at flags c.loop-state-test.true c.loop-state.invariant.width c.loop-state.invariant.flag_is;
    }

pub returns : goal.returns
returns c =
    let all : take c.loop-state.state-index c.args.states.now ≡ c.args.states.now = take_all c.loop-state.state-index c.args.states.now c.loop-state-test.false in
    sym (flags_of-flags c.args.count c.args.states.now c.loop-state.flags.items c.loop-state.invariant.width
    (λ q within. c.loop-state.invariant.flag_is q within ∙ ap (λ (xs : List ℕ). has_state xs q) all))
