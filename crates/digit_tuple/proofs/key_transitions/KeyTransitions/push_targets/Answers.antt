use Rattle.std.proofs.Common.{◌≡◌, [], ◌∷◌, ◌++◌, List, ℕ, map, length, ap, ◌∙◌, length-append, arith}
use Rattle.std.proofs.lemmas.Result.{err_from_is_err_and}
use Rattle.digit_tuple.specs.declared.transitions.Transition.{Transition}
use Rattle.digit_tuple.specs.declared.key_transitions.KeySpan.{KeySpan}
use Rattle.digit_tuple.specs.KeySpans.{transitions_in}
use Rattle.digit_tuple.proofs.KeySpanLemmas.{transitions_in-append, transitions_in-push}
use Rattle.digit_tuple.proofs.key_transitions.KeyTransitions.push_targets.Goals as goal

pub returns-in_err-add_targets-clause-err : goal.returns-in_err-add_targets-clause-err
returns-in_err-add_targets-clause-err c =
    let p = err_from_is_err_and c.from_residual.result c.from_residual.ensures.1 in
    let kept = c.add_targets.ensures.kept in
    rw p.1 (ap (λ (ns : List ℕ). transitions_in ns c.self.inside.spans.items) kept.1 ∙ transitions_in-append c.self.inside.numbers.items kept.0 c.self.inside.spans.items c.self.invariant ∙ c.self.view_is)

pub returns-in_err-push-clause-err : goal.returns-in_err-push-clause-err
returns-in_err-push-clause-err c =
    let p = err_from_is_err_and c.from_residual-in_err-push.result c.from_residual-in_err-push.ensures.1 in
    let kept = c.add_targets.ensures.kept in
    let spans : c.push.new.self.items ≡ c.self.inside.spans.items = c.in_err-push.ensures.items in
    rw p.1 (ap (λ (ns : List ℕ). transitions_in ns c.push.new.self.items) kept.1 ∙ ap (transitions_in (c.self.inside.numbers.items ++ kept.0)) spans
    ∙ transitions_in-append c.self.inside.numbers.items kept.0 c.self.inside.spans.items c.self.invariant ∙ c.self.view_is)

pub returns-clause-ok : goal.returns-clause-ok
returns-clause-ok c =
    let numbers = c.self.inside.numbers.items in
    let spans = c.self.inside.spans.items in
    let key : List ℕ = map (λ (transition : Transition). transition.target) c.args.transitions.now in
    let grown : c.add_targets.new.numbers.items ≡ numbers ++ key = c.in_ok-add_targets.ensures.ok in
    let span : KeySpan = record { letter = c.args.letter; start = c.len-start.result; end = c.len-end.result } in
    let pushed : c.push.new.self.items ≡ spans ++ span ∷ [] = c.in_ok-push.ensures.items in
    ap (λ (ns : List ℕ). transitions_in ns c.push.new.self.items) grown ∙ ap (transitions_in (numbers ++ key)) pushed
    ∙ transitions_in-push numbers key spans c.args.letter c.len-start.result c.len-end.result c.self.invariant (omega arith) (omega (arith, ap length grown, length-append numbers key))
    ∙ ap (λ es. es ++ (record { letter = c.args.letter; key = key }) ∷ []) c.self.view_is
