use Rattle.std.proofs.Common.{◌≡◌, ◌≤◌, min, drop}
use Rattle.text_grammar.specs.Numbers.{value_after}
use Rattle.macro_expand.specs.Filling.{number_of as number_in}
use Rattle.macro_expand.proofs.segment.number_of.Given as goal

-- the digits that are left, after the number so far, denote the number
abbrev pub invariant-loop-digit : goal.invariant-loop-digit
invariant-loop-digit l =
    (min (value_after l.number (drop l.digit-index l.digits)) 18446744073709551615 ≡ number_in l.digits) × (l.number ≤ 18446744073709551615)
