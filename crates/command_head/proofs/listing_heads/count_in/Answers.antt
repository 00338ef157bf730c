use Rattle.std.proofs.Common.{arith, refl, sym, ◌∙◌}
use Rattle.command_head.specs.TestParts.{NoDigits, TooGreat}
use Rattle.command_head.proofs.listing_heads.count_in.Goals as goal

pub returns-then-not-are_digits : goal.returns-then-not-are_digits
returns-then-not-are_digits c = NoDigits (sym c.are_digits.ensures ∙ c.if-not-are_digits.true) refl

pub returns-in-Some : goal.returns-in-Some
returns-in-Some c = record { digits = sym c.are_digits.ensures ∙ c.if-not-are_digits.false; value = sym c.in-Some.ensures.0; within = let most = c.in-Some.ensures.1 in omega arith }

pub returns-in-None : goal.returns-in-None
returns-in-None c = TooGreat (sym c.are_digits.ensures ∙ c.if-not-are_digits.false) (let most = c.in-None.ensures in omega arith) refl
