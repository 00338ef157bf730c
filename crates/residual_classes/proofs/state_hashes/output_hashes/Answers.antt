use Rattle.std.proofs.Common.{◌≡◌, ◌^◌, ◌++◌, [], ◌∷◌, length, ap, ◌∙◌, below_more, arith}
use Rattle.std.proofs.lemmas.List.{get_or_push, get_or_append_left, length_push}
use Rattle.digit_tuple.specs.KeyHashes.{mixed}
use Rattle.residual_classes.specs.Classes.{class_of}
use Rattle.residual_classes.specs.Hashes.{output_hash}
use Rattle.residual_classes.proofs.state_hashes.output_hashes.Goals as goal

pub loop-state-preserved : goal.loop-state-preserved
loop-state-preserved c =
    let old = c.loop-state.hashes.items in
    let place = c.loop-state.state in
    let hash = c.mix.result in
    let outputs = c.args.machine.now.outputs.now in
    let is : c.push.new.self.items ≡ old ++ hash ∷ [] = c.in_ok-push.ensures.items in
    let here : class_of c.push.new.self.items place ≡ output_hash (class_of outputs place) =
    ap (λ hs. class_of hs place) is ∙ get_or_push old hash 0 place c.loop-state.invariant.width ∙ c.mix.ensures ∙ ap (mixed (2 ^ 63)) (c.from.ensures ∙ c.output.ensures) in
    record {
      width = omega (arith, ap length is, length_push old hash, c.loop-state.invariant.width);
      are = below_more _ _ (λ q less. ap (λ hs. class_of hs q) is ∙ get_or_append_left old (hash ∷ []) 0 q (omega (arith, less, c.loop-state.invariant.width)) ∙ c.loop-state.invariant.are q less) here;
    }
