use Rattle.std.proofs.Common.{◌≡◌, ◌+◌, ◌*◌, ◌++◌, List, ℕ, map, refl, ap, sym, ◌∙◌}
use Rattle.std.specs.List.{flat_map, range_with_len}
use Rattle.std.proofs.lemmas.List.{append_assoc}
use Rattle.track_parts.specs.Spans.{with_digit}
use Rattle.track_parts.proofs.LettersInLemmas.{flat_map-more}
use Rattle.track_parts.proofs.letters_in.add_digits.Goals as goal

pub loop-number-preserved : goal.loop-number-preserved
loop-number-preserved c =
    let f = with_digit c.args.letters.now c.args.weight in
    let from = c.args.span.from in
    let number = c.loop-number.number in
    let old = c.args.out.now.items in
    c.in_ok-add_higher.ensures
    ∙ ap (λ (ls : List ℕ). ls ++ f (from + number)) c.loop-number.invariant
    ∙ append_assoc old (flat_map f (range_with_len from number)) (f (from + number))
    ∙ ap (λ (ls : List ℕ). old ++ ls) (sym (flat_map-more f number from (from + number) refl))
