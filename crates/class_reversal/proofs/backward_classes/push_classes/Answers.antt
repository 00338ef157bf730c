use Rattle.std.proofs.Common.{◌≡◌, ℕ, ◌∷◌, ◌++◌, [], List, map, take, sym, ap, ◌∙◌, arith}
use Rattle.std.proofs.lemmas.List.{map_more, take_all}
use Rattle.std.proofs.lemmas.Result.{IfOk-from_err}
use Rattle.residual_classes.specs.Classes.{class_of}
use Rattle.class_reversal.proofs.backward_classes.push_classes.Goals as goal

pub loop-state-init : goal.loop-state-init
loop-state-init c = c.requires

pub loop-state-preserved : goal.loop-state-preserved
loop-state-preserved c =
    let key = c.args.key.now in
    let states = c.args.states.now in
    let k = c.loop-state.state-index in
    let more : c.push.new.self.items ≡ c.loop-state.classes.items ++ c.class_at.result ∷ [] = c.in_ok-push.ensures.items in
    more ∙ ap (λ (xs : List ℕ). xs ++ c.class_at.result ∷ []) c.loop-state.invariant
    ∙ ap (λ (n : ℕ). map (class_of key) (take k states) ++ n ∷ []) c.class_at.ensures
    ∙ sym (map_more (class_of key) states k 0 (omega (arith, c.loop-state-test.true)))

pub returns-in_err-push : goal.returns-in_err-push
returns-in_err-push c = IfOk-from_err c.from_residual.result _ c.from_residual.ensures.0

pub returns : goal.returns
returns c = c.loop-state.invariant ∙ ap (map (class_of c.args.key.now)) (take_all c.loop-state.state-index c.args.states.now (omega (arith, c.loop-state-test.false)))
