use Rattle.std.proofs.Common.{◌≡◌, ◌*◌, ◌++◌, ℕ, ap, ◌∙◌, arith}
use Rattle.std.specs.List.{flat_map, range_with_len}
use Rattle.dfa_reading.specs.LineLetters.{shifted}
use Rattle.dfa_reading.proofs.Letters.{digits_more}
use Rattle.dfa_reading.proofs.line_letters.push_each.Goals as goal

pub loop-digit-preserved : goal.loop-digit-preserved
loop-digit-preserved c = digits_more c.loop-digit.out.items c.push_digit.new.out.items c.args.out.now.items (λ digit. shifted (digit * c.args.weight) c.args.letters.now) c.loop-digit.digit c.loop-digit.invariant c.in_ok-push_digit.ensures

pub push_digit-requires-clause-digit : goal.push_digit-requires-clause-digit
push_digit-requires-clause-digit c = c.loop-digit-test.true

pub push_digit-requires-clause-small : goal.push_digit-requires-clause-small
push_digit-requires-clause-small c = c.requires.small

pub push_digit-requires-clause-letters : goal.push_digit-requires-clause-letters
push_digit-requires-clause-letters c = c.requires.letters

pub returns : goal.returns
returns c =
    let end : c.loop-digit.digit ≡ c.args.size = omega (arith, c.loop-digit-test.false, c.loop-digit.auto.digit-end) in
    c.loop-digit.invariant ∙ ap (λ (n : ℕ). c.args.out.now.items ++ flat_map (λ digit. shifted (digit * c.args.weight) c.args.letters.now) (range_with_len 0 n)) end
