use Rattle.std.proofs.Common.{◌++◌, ◌∷◌, [], List, ℕ, map, ap, ◌∙◌, sym, append_assoc, arith}
use Rattle.std.specs.List.{range_with_len}
use Rattle.std.proofs.lemmas.List.FromFn.{map-range_with_len_more}
use Rattle.residual_classes.specs.Classes.{next_of}
use Rattle.class_reversal.proofs.targets.push_targets.Goals as goal

pub loop-state-preserved : goal.loop-state-preserved
loop-state-preserved c =
    let d = c.args.dfa.now in
    let q = c.loop-state.state in
    let f : ℕ → ℕ = λ q. next_of d q c.args.letter in
    let old = c.args.targets.now.items in
    c.in_ok-push.ensures.items ∙ ap (λ t. c.loop-state.targets.items ++ t ∷ []) c.next_state.ensures
    ∙ ap (λ (xs : List ℕ). xs ++ f q ∷ []) c.loop-state.invariant
    ∙ append_assoc old (map f (range_with_len 0 q)) (f q ∷ [])
    ∙ ap (λ (xs : List ℕ). old ++ xs) (sym (map-range_with_len_more f 0 q q (omega arith)))
