use Rattle.std.proofs.Common.{◌≡◌, ◌++◌, codes}
use Rattle.std.specs.List.{flat_map}
use Rattle.morph_words.specs.Printed.{rule_text}
use Rattle.morph_words.proofs.morphism.Morphism.print.Given as goal

-- the rules so far are printed, and the others are left
abbrev pub invariant-loop-letter : goal.invariant-loop-letter
invariant-loop-letter l = l.text.items ++ flat_map (λ rule. codes " " ++ rule_text rule) l.letter-iterator ≡ l.initial.text.items ++ flat_map (λ rule. codes " " ++ rule_text rule) l.initial.letter-iterator
