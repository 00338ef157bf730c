use Rattle.std.proofs.Common.{◌≡◌, ℤ, List, ◌++◌, [], ◌∷◌, length, take, sym, ap, ◌∙◌, arith, rules}
use Rattle.std.specs.Option.{option_to_list}
use Rattle.std.specs.Ordering.{int_eq}
use Rattle.std.proofs.lemmas.List.{append-nil, length_push, take_all}
use Rattle.std.proofs.lemmas.Int.{to_z-of_z}
use mir.Val.{SFits}
use mir.Syntax.{w32}
use Rattle.std.proofs.lemmas.List.Filters.{dedup_is}
use Rattle.word_output.proofs.StateLetterLemmas.{AreLettersOf-sorted, letters_there, letters_there_more}
use Rattle.word_output.proofs.state_letters.distinct_letters.Goals as goal
use Rattle.word_output.proofs.state_letters.distinct_letters.Goals.{in-Some+in_ok-push, in_default}

pub loop-state-preserved : goal.loop-state-preserved
loop-state-preserved c =
    let letters = c.args.letters.now in
    let at = c.loop-state.state-index in
    let more = letters_there_more letters at c.loop-state-test.true in
    elim c.match-state.branch [
      | in-Some+in_ok-push w ↦ (let fits : SFits w32 w.in-Some.letter = search rules in
          let pushed : w.push.new.self.items ≡ c.loop-state.found.items ++ w.in-Some.letter ∷ [] = simp to_z-of_z at w.in_ok-push.ensures.items in
          let kept : c.match-state.found.items ≡ c.loop-state.found.items ++ w.in-Some.letter ∷ [] = ap (λ v. v.items) w.found-is ∙ pushed in
          record {
            items = kept ∙ ap (λ xs. xs ++ w.in-Some.letter ∷ []) c.loop-state.invariant.items ∙ ap (λ o. letters_there (take at letters) ++ option_to_list o) (sym w.in-Some.is) ∙ sym more;
            few = omega (arith, ap (λ (xs : List ℤ). length xs) kept, length_push c.loop-state.found.items w.in-Some.letter, c.loop-state.invariant.few);
          })
      | in_default w ↦ (let kept : c.match-state.found.items ≡ c.loop-state.found.items = ap (λ v. v.items) w.found-is in
          record {
            items = kept ∙ c.loop-state.invariant.items ∙ sym (append-nil (letters_there (take at letters))) ∙ ap (λ o. letters_there (take at letters) ++ option_to_list o) (sym w.in_default.is) ∙ sym more;
            few = omega (arith, ap (λ (xs : List ℤ). length xs) kept, c.loop-state.invariant.few);
          })
    ]

pub returns-clause-letters : goal.returns-clause-letters
returns-clause-letters c =
    let sorted = c.sort_unstable.new.self.items in
    AreLettersOf-sorted c.args.letters.now c.loop-state.found.items sorted c.dedup.new.self.items
    (c.loop-state.invariant.items ∙ ap letters_there (take_all c.loop-state.state-index c.args.letters.now c.loop-state-test.false))
    c.sort_unstable.ensures.permutation c.sort_unstable.ensures.sorted (dedup_is int_eq sorted c.dedup.new.self.items c.dedup.ensures.filtered)

pub returns-clause-few : goal.returns-clause-few
returns-clause-few c = omega (arith, c.dedup.ensures.bound, c.sort_unstable.ensures.len, c.loop-state.invariant.few, c.loop-state.auto.state-index-end)
