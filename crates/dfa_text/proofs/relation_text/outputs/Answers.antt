use Rattle.std.proofs.Common.{◌≡◌, ◌∷◌, [], ◌++◌, List, ℤ, Option, sym, ap, ◌∙◌, arith}
use Rattle.std.proofs.lemmas.List.FromFn.{map-range_with_len_more}
use Rattle.digit_tuple.specs.Deterministic.{accepting_of}
use Rattle.dfa_text.specs.RelationText.{output_listed}
use Rattle.dfa_text.proofs.relation_text.outputs.Goals as goal

pub loop-state-preserved : goal.loop-state-preserved
loop-state-preserved c =
    let d = c.args.d.now in
    let state = c.loop-state.state in
    c.in_ok-push.ensures.items
    ∙ ap (λ (z : Option ℤ). c.loop-state.outputs.items ++ z ∷ []) (c.output.ensures ∙ ap output_listed c.accepting.ensures.accepting)
    ∙ ap (λ (zs : List (Option ℤ)). zs ++ output_listed (accepting_of d state) ∷ []) c.loop-state.invariant
    ∙ sym (map-range_with_len_more (λ q. output_listed (accepting_of d q)) 0 state state (omega arith))
