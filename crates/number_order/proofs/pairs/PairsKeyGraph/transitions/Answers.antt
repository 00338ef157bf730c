use Rattle.std.proofs.Common.{◌≡◌, ℕ, ◌*◌, List, [], ◌∷◌, ◌++◌, Some, ap, sym, ◌∙◌, subst, arith}
use Rattle.digit_tuple.specs.Keys.{KeyTransition, AreKeyTransitions}
use Rattle.digit_tuple.proofs.LetterTransitions.{key_transitions_to, AreKeyTransitions-all, key_transitions_to_more}
use Rattle.number_order.specs.PairKeys.{next_pair}
use Rattle.number_order.proofs.pairs.PairsKeyGraph.transitions.Goals as goal

pub loop-letter-preserved : goal.loop-letter-preserved
loop-letter-preserved c =
    let f = next_pair c.args.self.now.direction c.args.self.now.language.now c.args.self.now.digits c.args.key.now in
    let letter = c.loop-letter.letter in
    c.in_ok-push.ensures.ok
    ∙ ap (λ (es : List KeyTransition). es ++ (let e : KeyTransition = record { letter = letter; key = c.next_key-next.result } in e) ∷ []) c.loop-letter.invariant
    ∙ ap (λ (k : List ℕ). key_transitions_to f 0 letter ++ (let e : KeyTransition = record { letter = letter; key = k } in e) ∷ []) c.next_key-next.ensures
    ∙ sym (key_transitions_to_more f letter)

pub returns : goal.returns
returns c =
    let f = next_pair c.args.self.now.direction c.args.self.now.language.now c.args.self.now.digits c.args.key.now in
    let letters : ℕ = c.args.self.now.digits * c.args.self.now.digits in
    let same : c.loop-letter.letter ≡ letters = omega (arith, c.loop-letter.auto.letter-end, c.loop-letter-test.false) in
    subst (λ (es : List KeyTransition). AreKeyTransitions letters (λ a. Some (f a)) es) (sym (c.loop-letter.invariant ∙ ap (key_transitions_to f 0) same)) (AreKeyTransitions-all f letters)
