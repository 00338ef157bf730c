use Rattle.std.proofs.Common.{◌∙◌, ◌++◌, ◌∷◌, [], map, decimal, ap, sym, arith}
use Rattle.std.specs.List.{range_with_len}
use Rattle.std.proofs.lemmas.List.FromFn.{map-range_with_len_more}
use Rattle.automaton_steps.proofs.numbered.track_numbers.Goals as goal

pub loop-number-preserved : goal.loop-number-preserved
loop-number-preserved c =
    c.in_ok-push.ensures.items
    ∙ ap (λ ns. ns ++ c.in_ok-new.field-0 ∷ []) c.loop-number.invariant
    ∙ ap (λ n. map decimal (range_with_len 0 c.loop-number.number) ++ n ∷ []) (c.in_ok-new.ensures ∙ c.format.ensures.text)
    ∙ sym (map-range_with_len_more decimal 0 c.loop-number.number c.loop-number.number (omega arith))
