-- The relation of the places at which a word's letter compares with a given one.
use Rattle.std.specs.Prelude.{ℤ}
use Rattle.digit_tuple.specs.Deterministic.{Automaton}
use Rattle.num_system.specs.declared.comparison.Comparison.{Comparison}
use Rattle.number_relations.specs.Relations.{RelationValue}
use Rattle.number_relations.specs.Placed.{IsPlaced}
use Rattle.word_output.specs.LetterSets.{IsLetterSet}
use Rattle.plan_relations.specs.PlacedWords.{PlacedWord}

-- the relation of the automaton of such letters, with the tracks under their names
abbrev pub IsLetterRelation : Comparison → ℤ → PlacedWord → RelationValue → Type 0
IsLetterRelation comparison letter p c = (d : Automaton) × IsLetterSet comparison letter p.word.function d × IsPlaced d p.word.systems p.under c
