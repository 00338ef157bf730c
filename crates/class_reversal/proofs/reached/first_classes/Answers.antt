use Rattle.std.proofs.Common.{◌≡◌, ℕ, ◌∷◌, ◌++◌, [], List, map, take, sym, ap, ◌∙◌, arith}
use Rattle.std.proofs.lemmas.List.{map_more, take_all}
use Rattle.std.proofs.lemmas.Result.{IfOk-from_err}
use Rattle.class_reversal.specs.BackwardClasses.{first_class}
use Rattle.class_reversal.proofs.reached.first_classes.Goals as goal

pub returns-in_err-classes : goal.returns-in_err-classes
returns-in_err-classes c = IfOk-from_err c.from_residual.result _ c.from_residual.ensures.0

pub loop-number-init : goal.loop-number-init
loop-number-init c = c.in_ok-classes.ensures.items

pub key-requires : goal.key-requires
key-requires c = omega (arith, c.loop-number-test.true, c.len-number-end.ensures)

pub loop-number-preserved : goal.loop-number-preserved
loop-number-preserved c =
    let keys = c.args.keys.now in
    let number = c.loop-number.number in
    let more : c.push.new.self.items ≡ c.loop-number.classes.items ++ c.class_at.result ∷ [] = c.in_ok-push.ensures.items in
    more ∙ ap (λ (xs : List ℕ). xs ++ c.class_at.result ∷ []) c.loop-number.invariant
    ∙ ap (λ (n : ℕ). map first_class (take number keys) ++ n ∷ []) (c.class_at.ensures ∙ ap first_class c.key.ensures)
    ∙ sym (map_more first_class keys number [] (omega (arith, c.loop-number-test.true, c.len-number-end.ensures)))

pub returns-in_err-push : goal.returns-in_err-push
returns-in_err-push c = IfOk-from_err c.from_residual-in_err-push.result _ c.from_residual-in_err-push.ensures.0

pub returns : goal.returns
returns c = c.loop-number.invariant ∙ ap (map first_class) (take_all c.loop-number.number c.args.keys.now (omega (arith, c.loop-number-test.false, c.len-number-end.ensures)))
