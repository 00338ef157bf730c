use Rattle.std.proofs.Common.{◌↔◌, ◌+◌, ℕ, Bool, List, length, IsTrue, slice_index, slice_index_or, false, sym, ap, ◌∙◌, subst}
use Rattle.std.proofs.lemmas.List.{length_push}
use Rattle.digit_tuple.specs.Explored.{key_at}
use Rattle.word_output.specs.KeyLetters.{BothCompare, KeyCompares}
use Rattle.word_output.specs.StateLetters.{letter_of_state}
use Rattle.word_output.proofs.PairLetters.{flags_more}
use Rattle.word_output.proofs.letter_pairs.compared_keys.Goals as goal

pub loop-number-preserved : goal.loop-number-preserved
loop-number-preserved c =
    let f = c.args.first.now in
    let g = c.args.second.now in
    let keys = c.args.keys.now in
    let n = c.loop-number.number in
    let flags = c.loop-number.flags.items in
    let flag = c.are_compared.result in
    let P : ℕ → Type 0 = λ q. KeyCompares c.args.comparison f g (key_at keys q) in
    let one = c.letter_of.ensures ∙ ap (λ (k : List ℕ). letter_of_state f (slice_index k 0)) c.key-key.ensures in
    let two = c.letter_of-in-loop-number.ensures ∙ ap (λ (k : List ℕ). letter_of_state g (slice_index k 1)) c.key-key.ensures in
    let here : IsTrue flag ↔ P n =
    subst (λ o. IsTrue flag ↔ BothCompare c.args.comparison (letter_of_state f (slice_index (key_at keys n) 0)) o) two
    (subst (λ o. IsTrue flag ↔ BothCompare c.args.comparison o c.letter_of-in-loop-number.result) one c.are_compared.ensures) in
    record {
      count = ap length c.in_ok-push.ensures.items ∙ length_push flags flag ∙ ap (λ (k : ℕ). k + 1) c.loop-number.invariant.count;
      flags = λ q below. subst (λ (bs : List Bool). IsTrue (slice_index_or bs q false) ↔ P q) (sym c.in_ok-push.ensures.items) (flags_more P flags flag n c.loop-number.invariant.count c.loop-number.invariant.flags here q below);
    }
