use Rattle.std.proofs.Common.{◌≡◌, ◌++◌, take}
use Rattle.std.specs.List.{flat_map}
use Rattle.morph_words.specs.Printed.{letter_text}
use Rattle.morph_words.proofs.printing.push_rule.Given as goal

-- the letters so far are printed
abbrev pub invariant-loop-letter : goal.invariant-loop-letter
invariant-loop-letter l = l.text.items ≡ l.initial.text.items ++ flat_map letter_text (take l.letter-index l.letter-items)
