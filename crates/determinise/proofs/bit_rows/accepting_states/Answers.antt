use Rattle.std.proofs.Common.{◌≡◌, ◌+◌, ◌++◌, [], ◌∷◌, ℕ, cond, filter, sym, ap, ◌∙◌, append-nil}
use Rattle.std.specs.Prelude.{Vec}
use Rattle.std.specs.declared.alloc.Global.{Global}
use Rattle.std.specs.List.{range_with_len}
use Rattle.digit_tuple.specs.Automaton.{accepting_of}
use Rattle.determinise.proofs.BitRowLemmas.{filter-range_more}
use Rattle.determinise.proofs.bit_rows.accepting_states.Goals as goal
use Rattle.determinise.proofs.bit_rows.accepting_states.Goals.{then-is_accepting+in_ok-push, else-is_accepting}

pub loop-state-preserved : goal.loop-state-preserved
loop-state-preserved c =
    let q = c.loop-state.state in
    let test = accepting_of c.args.nfa.now in
    let states = c.loop-state.states.items in
    let more : filter test (range_with_len 0 (q + 1)) ≡ states ++ cond (test q) (q ∷ []) [] = filter-range_more test q ∙ ap (λ xs. xs ++ cond (test q) (q ∷ []) []) (sym c.loop-state.invariant) in
    elim c.if-is_accepting.branch [
      | then-is_accepting+in_ok-push w ↦
          ap (λ (v : Vec ℕ Global). v.items) w.states-is ∙ w.in_ok-push.ensures.items
          ∙ sym (more ∙ ap (λ b. states ++ cond b (q ∷ []) []) (sym c.is_accepting.ensures.accepting ∙ w.if-is_accepting.true))
      | else-is_accepting w ↦
          ap (λ (v : Vec ℕ Global). v.items) w.states-is
          ∙ sym (more ∙ ap (λ b. states ++ cond b (q ∷ []) []) (sym c.is_accepting.ensures.accepting ∙ w.if-is_accepting.false) ∙ append-nil states)
    ]
