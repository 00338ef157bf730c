use Rattle.std.proofs.Common.{ℕ, ◌≡◌, ◌+◌, List, ◌++◌, Option, sym, ap, ◌∙◌, subst, length-take, arith}
use Rattle.std.proofs.lemmas.Nat.{mul-le, row_fits}
use Rattle.digit_tuple.specs.Groups.{some_set}
use Rattle.digit_tuple.specs.Keys.{AreKeyTransitions, transitions_to, part_of}
use Rattle.determinise.specs.Bits.{members_in}
use Rattle.digit_tuple.proofs.LetterKeyTransitions.{AreKeyTransitions-more}
use Rattle.determinise.proofs.bit_members.push_member_letters.Goals as goal

pub loop-letter-init : goal.loop-letter-init
loop-letter-init c =
    let f : ℕ → Option (List ℕ) = λ letter. some_set (members_in (part_of c.args.words.now c.args.width letter)) in
    subst (AreKeyTransitions 0 f) (sym c.requires.empty) (record { in_range = λ k d within. absurd (omega arith); ascending = λ i j d before within. absurd (omega arith); lead = λ a small. absurd (omega arith) })

pub overflow_mul-start : goal.overflow_mul-start
overflow_mul-start c = omega (arith, mul-le c.loop-letter.letter c.args.width 4294967296 67108864 (omega (arith, c.loop-letter-test.true, c.ranges.letters)) (omega (arith, c.requires.few)))

pub overflow_add-start : goal.overflow_add-start
overflow_add-start c = omega (arith, mul-le c.loop-letter.letter c.args.width 4294967296 67108864 (omega (arith, c.loop-letter-test.true, c.ranges.letters)) (omega (arith, c.requires.few)), c.requires.few)

pub offset_bounds-words-start : goal.offset_bounds-words-start
offset_bounds-words-start c = omega (arith, mul-le c.loop-letter.letter c.args.width 4294967296 67108864 (omega (arith, c.loop-letter-test.true, c.ranges.letters)) (omega (arith, c.requires.few)), row_fits c.loop-letter.letter c.args.width c.args.letters c.args.width c.loop-letter-test.true (omega arith), c.requires.room)

pub slice_bounds-push_members-start : goal.slice_bounds-push_members-start
slice_bounds-push_members-start c = omega (arith, row_fits c.loop-letter.letter c.args.width c.args.letters c.args.width c.loop-letter-test.true (omega arith), c.requires.room)

pub slice_bounds-push_members-end : goal.slice_bounds-push_members-end
slice_bounds-push_members-end c = omega (arith, row_fits c.loop-letter.letter c.args.width c.args.letters c.args.width c.loop-letter-test.true (omega arith), c.requires.room)

pub push_members-requires-clause-few : goal.push_members-requires-clause-few
push_members-requires-clause-few c = omega (arith, length-take {A = ℕ}, c.requires.few)

pub loop-letter-preserved : goal.loop-letter-preserved
loop-letter-preserved c =
    let f : ℕ → Option (List ℕ) = λ letter. some_set (members_in (part_of c.args.words.now c.args.width letter)) in
    let letter = c.loop-letter.letter in
    let pushed : c.push_list.new.out ≡ c.loop-letter.out ++ transitions_to letter (f letter) = c.in_ok-push_list.ensures ∙ ap (λ list. c.loop-letter.out ++ transitions_to letter (some_set list)) (c.deref.ensures.value ∙ c.in_ok-push_members.ensures) in
    subst (AreKeyTransitions (letter + 1) f) (sym pushed) (AreKeyTransitions-more letter f c.loop-letter.out c.loop-letter.invariant)

pub returns : goal.returns
returns c = subst (λ count. AreKeyTransitions count (λ letter. some_set (members_in (part_of c.args.words.now c.args.width letter))) c.loop-letter.out) (omega (arith, c.loop-letter-test.false, c.loop-letter.auto.letter-end)) c.loop-letter.invariant
