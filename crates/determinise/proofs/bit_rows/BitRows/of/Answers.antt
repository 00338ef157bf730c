use Rattle.std.proofs.Common.{◌≡◌, ℕ, ◌+◌, ◌*◌, ◌<◌, ◌≤◌, List, ◌++◌, ◌∷◌, [], length, map, sym, ap, ◌∙◌, subst, arith}
use Rattle.std.specs.Prelude.{Vec, filter}
use Rattle.std.specs.declared.alloc.Global.{Global}
use Rattle.std.specs.List.{All, range_with_len}
use Rattle.std.proofs.lemmas.List.{length_push}
use Rattle.std.proofs.lemmas.List.Elements.{All-filter, All-push, All-same, All-weaker}
use Rattle.digit_tuple.specs.Automaton.{accepting_of, transitions_of, letters_of, states_of}
use Rattle.determinise.specs.declared.bit_words.BitWord.{BitWord}
use Rattle.determinise.specs.SubsetLaws.{All-range}
use Rattle.determinise.specs.Bits.{row_at, rows_in}
use Rattle.determinise.specs.BitRows.{word_of, words_of}
use Rattle.determinise.proofs.BitRowLemmas.{rows_push, words_within}
use Rattle.determinise.proofs.bit_rows.BitRows.of.Goals as goal

wide_enough : (states : ℕ) → states ≤ 32 * words_of states
wide_enough states = omega arith

pub loop-state-preserved : goal.loop-state-preserved
loop-state-preserved c =
    let n = c.args.nfa.now in
    let w = words_of (states_of n) in
    let k = c.loop-state.state in
    let row = c.in_ok-row_of.field-0 in
    let old = c.loop-state.rows.items in
    let width : c.words_for-width.result ≡ w = c.words_for-width.ensures ∙ ap words_of c.states.ensures.value in
    let made : row.items ≡ map (word_of w) (transitions_of n k) = c.in_ok-row_of.ensures ∙ ap (λ v. map (word_of v) c.transitions.result.now) width ∙ ap (map (word_of w)) c.transitions.ensures.transitions in
    let inside : All (λ (word : BitWord). word.place < letters_of n * w) row.items =
    All-same (λ (word : BitWord). word.place < letters_of n * w) row.items (map (word_of w) c.transitions.result.now) (made ∙ ap (map (word_of w)) (sym c.transitions.ensures.transitions))
    (words_within (letters_of n) (states_of n) w c.transitions.result.now (wide_enough (states_of n)) c.transitions.ensures.row.in_range) in
    let pushed : c.push.new.self.items ≡ old ++ row ∷ [] = c.in_ok-push.ensures.items in
    record {
      count = ap length pushed ∙ omega (arith, length_push old row, c.loop-state.invariant.count);
      rows = subst (λ (rows : List (Vec BitWord Global)). (q : ℕ) → q < k + 1 → row_at (rows_in rows) q ≡ map (word_of w) (transitions_of n q)) (sym pushed)
          (rows_push old row (λ q. map (word_of w) (transitions_of n q)) k c.loop-state.invariant.count c.loop-state.invariant.rows made);
      within = All-same (λ (r : Vec BitWord Global). All (λ word. word.place < letters_of n * w) r.items) c.push.new.self.items (old ++ row ∷ []) pushed
          (All-push (λ (r : Vec BitWord Global). All (λ word. word.place < letters_of n * w) r.items) old row c.loop-state.invariant.within inside);
    }

pub bits_of-requires : goal.bits_of-requires
bits_of-requires c =
    let n = c.args.nfa.now in
    let width : c.words_for-width.result ≡ words_of (states_of n) = c.words_for-width.ensures ∙ ap words_of c.states.ensures.value in
    let wide = wide_enough (states_of n) in
    let accepting = filter (accepting_of n) (range_with_len 0 (states_of n)) in
    All-same (λ q. q < 32 * c.words_for-width.result) c.deref.result.now accepting (c.deref.ensures.value ∙ c.in_ok-accepting_states.ensures)
    (All-weaker (λ q. q < states_of n) (λ q. q < 32 * c.words_for-width.result) (λ q small. omega (arith, small, wide, width)) accepting
    (All-filter (accepting_of n) (λ q. q < states_of n) (range_with_len 0 (states_of n)) (All-range (states_of n))))
