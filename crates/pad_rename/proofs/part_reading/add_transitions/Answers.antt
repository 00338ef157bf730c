use Rattle.std.proofs.Common.{◌++◌, ◌∷◌, [], ℕ, List, map, take, get_or, sym, ap, ◌∙◌, append_assoc}
use Rattle.std.proofs.lemmas.List.{map_push, take_more}
use Rattle.digit_tuple.specs.Reversed.{transition_to}
use Rattle.digit_tuple.specs.declared.transitions.Transition.{Transition}
use Rattle.pad_rename.proofs.part_reading.add_transitions.Goals as goal

pub loop-letter-preserved : goal.loop-letter-preserved
loop-letter-preserved c =
    let old = c.args.transitions.now.items in
    let letters = c.args.letters.now in
    let i = c.loop-letter.letter-index in
    let f = λ (a : ℕ). transition_to a c.args.target in
    c.in_ok-push.ensures.items
    ∙ ap (λ (es : List Transition). es ++ f (get_or letters i 0) ∷ []) c.loop-letter.invariant
    ∙ append_assoc old (map f (take i letters)) (f (get_or letters i 0) ∷ [])
    ∙ ap (λ (es : List Transition). old ++ es) (sym (map_push f (take i letters) (get_or letters i 0)))
    ∙ ap (λ (ls : List ℕ). old ++ map f ls) (sym (take_more letters i 0 c.loop-letter-test.true))
