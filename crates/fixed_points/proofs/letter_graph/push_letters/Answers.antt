use Rattle.std.proofs.Common.{rules, ◌≡◌, ℕ, ℤ, pos, List, [], ◌∷◌, ◌++◌, length, get_or, Some, sym, ap, ◌∙◌, subst, arith}
use Rattle.std.specs.Int.{cast_unsigned, w32}
use Rattle.std.proofs.lemmas.Int.{to_z-of_z}
use mir.Val.{SFits}
use Rattle.digit_tuple.specs.Keys.{KeyTransition, AreKeyTransitions}
use Rattle.digit_tuple.proofs.LetterTransitions.{AreKeyTransitions-all, key_transitions_to, key_transitions_to_more}
use Rattle.fixed_points.specs.LetterGraph.{key_of}
use Rattle.fixed_points.proofs.letter_graph.push_letters.Goals as goal

pub loop-digit-preserved : goal.loop-digit-preserved
loop-digit-preserved c =
    let f : ℕ → List ℕ = λ digit. key_of (get_or c.args.word.now digit (pos 0)) in
    let n : ℕ = c.loop-digit.digit in
    let letter : ℤ = get_or c.args.word.now n (pos 0) in
    let fits : SFits w32 letter = search rules in
    let bits : c.cast_unsigned.result ≡ cast_unsigned w32 letter = simp to_z-of_z at c.cast_unsigned.ensures in
    let transition : ℕ → KeyTransition = λ b. record { letter = n; key = b ∷ [] } in
    c.in_ok-push.ensures.ok
    ∙ ap (λ (es : List KeyTransition). es ++ transition c.cast_unsigned.result ∷ []) c.loop-digit.invariant
    ∙ ap (λ (b : ℕ). key_transitions_to f 0 n ++ transition b ∷ []) bits
    ∙ sym (key_transitions_to_more f n)

pub returns : goal.returns
returns c =
    let f : ℕ → List ℕ = λ digit. key_of (get_or c.args.word.now digit (pos 0)) in
    let many : ℕ = length c.args.word.now in
    let same : c.loop-digit.digit ≡ many = omega (arith, c.loop-digit-test.false, c.loop-digit.auto.digit-end) in
    subst (λ (es : List KeyTransition). AreKeyTransitions many (λ digit. Some (f digit)) es) (sym (c.loop-digit.invariant ∙ ap (key_transitions_to f 0) same)) (AreKeyTransitions-all f many)
