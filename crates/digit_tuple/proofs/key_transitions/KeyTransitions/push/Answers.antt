use Rattle.std.proofs.Common.{◌≡◌, [], ◌∷◌, ◌++◌, List, ℕ, ap, ◌∙◌, arith}
use Rattle.std.proofs.lemmas.Result.{err_from_is_err_and}
use Rattle.digit_tuple.specs.declared.key_transitions.KeySpan.{KeySpan}
use Rattle.digit_tuple.specs.KeySpans.{transitions_in}
use Rattle.digit_tuple.proofs.KeySpanLemmas.{transitions_in-append, transitions_in-push}
use Rattle.digit_tuple.proofs.key_transitions.KeyTransitions.push.Goals as goal

pub returns-in_err-push-clause-err : goal.returns-in_err-push-clause-err
returns-in_err-push-clause-err c =
    let p = err_from_is_err_and c.from_residual-in_err-push.result c.from_residual-in_err-push.ensures.1 in
    let numbers = c.self.inside.numbers.items in
    let spans = c.self.inside.spans.items in
    let grown : c.extend_from_slice.new.self.items ≡ numbers ++ c.args.key.now = c.in_ok-extend_from_slice.ensures.items in
    let kept : c.push.new.self.items ≡ spans = c.in_err-push.ensures.items in
    rw p.1 (ap (λ (ns : List ℕ). transitions_in ns c.push.new.self.items) grown ∙ ap (transitions_in (numbers ++ c.args.key.now)) kept ∙ transitions_in-append numbers c.args.key.now spans c.self.invariant ∙ c.self.view_is)

pub returns-clause-ok : goal.returns-clause-ok
returns-clause-ok c =
    let numbers = c.self.inside.numbers.items in
    let spans = c.self.inside.spans.items in
    let key = c.args.key.now in
    let grown : c.extend_from_slice.new.self.items ≡ numbers ++ key = c.in_ok-extend_from_slice.ensures.items in
    let span : KeySpan = record { letter = c.args.letter; start = c.len-start.result; end = c.len-end.result } in
    let pushed : c.push.new.self.items ≡ spans ++ span ∷ [] = c.in_ok-push.ensures.items in
    ap (λ (ns : List ℕ). transitions_in ns c.push.new.self.items) grown ∙ ap (transitions_in (numbers ++ key)) pushed
    ∙ transitions_in-push numbers key spans c.args.letter c.len-start.result c.len-end.result c.self.invariant (omega arith) (omega (arith, c.in_ok-extend_from_slice.ensures.len))
    ∙ ap (λ es. es ++ (record { letter = c.args.letter; key = key }) ∷ []) c.self.view_is
