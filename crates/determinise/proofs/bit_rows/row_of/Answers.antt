use Rattle.std.proofs.Common.{ℕ, ◌+◌, ◌*◌, ◌/◌, ◌%◌, List, ◌++◌, ◌∷◌, [], map, get_or, sym, ap, ◌∙◌, arith}
use Rattle.std.proofs.lemmas.Nat.{mod_below, one_shl}
use Rattle.std.proofs.lemmas.List.{map_more, take_all}
use Rattle.determinise.specs.declared.bit_words.BitWord.{BitWord}
use Rattle.determinise.specs.BitRows.{word_of}
use Rattle.determinise.specs.Links.{no_transition}
use Rattle.determinise.proofs.bit_rows.row_of.Goals as goal

pub overflow_mul-transition : goal.overflow_mul-transition
overflow_mul-transition c = omega (arith, c.requires c.loop-transition.transition-index no_transition c.loop-transition-test.true)

pub overflow_add-transition : goal.overflow_add-transition
overflow_add-transition c = omega (arith, c.requires c.loop-transition.transition-index no_transition c.loop-transition-test.true)

pub loop-transition-preserved : goal.loop-transition-preserved
loop-transition-preserved c =
    let transitions = c.args.transitions.now in
    let i = c.loop-transition.transition-index in
    let e = get_or transitions i no_transition in
    c.in_ok-push.ensures.items
    ∙ ap (λ (bits : ℕ). c.loop-transition.row.items ++ (record { place = e.letter * c.args.width + e.target / 32; bits = bits }) ∷ []) (one_shl (e.target % 32) 32 (mod_below e.target 32 (omega arith)))
    ∙ ap (λ (row : List BitWord). row ++ word_of c.args.width e ∷ []) c.loop-transition.invariant
    ∙ sym (map_more (word_of c.args.width) transitions i no_transition c.loop-transition-test.true)

pub returns : goal.returns
returns c = c.loop-transition.invariant ∙ ap (map (word_of c.args.width)) (take_all c.loop-transition.transition-index c.args.transitions.now c.loop-transition-test.false)
