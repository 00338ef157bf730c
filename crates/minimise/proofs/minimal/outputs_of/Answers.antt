use Rattle.std.proofs.Common.{◌≡◌, ℕ, ◌∷◌, ◌++◌, [], List, map, take, sym, ap, ◌∙◌, subst, arith}
use Rattle.std.proofs.lemmas.List.{map_more, take_all}
use Rattle.minimise.specs.Quotient.{IsClass, key_output}
use Rattle.std.proofs.lemmas.Result.{IfOk-from_err}
use Rattle.minimise.proofs.minimal.outputs_of.Goals as goal

pub key-requires : goal.key-requires
key-requires c = omega (arith, c.loop-place-test.true, c.len-count.ensures)

pub output-requires-clause-key : goal.output-requires-clause-key
output-requires-clause-key c =
    let q = c.args.quotient.now in
    subst (IsClass q.dfa.now q.classes.now q.leaders.now) (sym c.key.ensures) (c.requires.keys c.loop-place.place [] (omega (arith, c.loop-place-test.true, c.len-count.ensures)))

pub loop-place-preserved : goal.loop-place-preserved
loop-place-preserved c =
    let keys = c.args.keys.now in
    let place = c.loop-place.place in
    let of = key_output c.args.quotient.now.outputs.now c.args.quotient.now.leaders.now in
    let more : c.push.new.self.items ≡ c.loop-place.outputs.items ++ c.output.result ∷ [] = c.in_ok-push.ensures.items in
    more ∙ ap (λ (xs : List ℕ). xs ++ c.output.result ∷ []) c.loop-place.invariant
    ∙ ap (λ (n : ℕ). map of (take place keys) ++ n ∷ []) (c.output.ensures ∙ ap of c.key.ensures)
    ∙ sym (map_more of keys place [] (omega (arith, c.loop-place-test.true, c.len-count.ensures)))

pub returns : goal.returns
returns c = c.loop-place.invariant ∙ ap (map (key_output c.args.quotient.now.outputs.now c.args.quotient.now.leaders.now)) (take_all c.loop-place.place c.args.keys.now (omega (arith, c.loop-place-test.false, c.len-count.ensures)))

pub returns-in_err-outputs : goal.returns-in_err-outputs
returns-in_err-outputs c = IfOk-from_err c.from_residual.result _ c.from_residual.ensures.0

pub returns-in_err-push : goal.returns-in_err-push
returns-in_err-push c = IfOk-from_err c.from_residual-in_err-push.result _ c.from_residual-in_err-push.ensures.0

pub loop-place-init : goal.loop-place-init
loop-place-init c = c.in_ok-outputs.ensures.items

pub output-requires-clause-graph : goal.output-requires-clause-graph
output-requires-clause-graph c = c.requires.graph
