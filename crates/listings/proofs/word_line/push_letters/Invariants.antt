-- The letters so far are appended.
use Rattle.std.proofs.Common.{◌≡◌, ◌++◌, take}
use Rattle.std.specs.List.{flat_map}
use Rattle.dfa_text.specs.RelationText.{tuple_of}
use Rattle.listings.specs.WordLines.{letter_text}
use Rattle.listings.proofs.word_line.push_letters.Given as goal

abbrev pub invariant-loop-letter : goal.invariant-loop-letter
invariant-loop-letter l = l.out.items ≡ l.initial.out.items ++ flat_map (λ letter. letter_text (tuple_of l.sets letter)) (take l.letter-index l.word)
