use Rattle.std.proofs.Common.{List, ℕ, ◌++◌, get_or, take, sym, ap, ◌∙◌}
use Rattle.std.specs.List.{flat_map}
use Rattle.std.proofs.lemmas.List.{flat_map_more, take_more}
use Rattle.digit_tuple.specs.declared.transitions.Transition.{Transition}
use Rattle.digit_tuple.specs.PartIndex.{letters_with}
use Rattle.product_op.proofs.reader.Reader.add_letters.Goals as goal

pub loop-transition-preserved : goal.loop-transition-preserved
loop-transition-preserved c =
    let row = c.deref-transition-items.result.now in
    let place = c.loop-transition.transition-index in
    let none : Transition = record { letter = 0; target = 0 } in
    let transition = get_or row place none in
    let with = λ (e : Transition). letters_with c.args.self.now.parts e.letter in
    let old = c.args.letters.now.items in
    c.in_ok-add_letters.ensures ∙ ap (λ (xs : List ℕ). xs ++ with transition) c.loop-transition.invariant
    ∙ flat_map_more with old (take place row) transition ∙ ap (λ (es : List Transition). old ++ flat_map with es) (sym (take_more row place none c.loop-transition-test.true))
