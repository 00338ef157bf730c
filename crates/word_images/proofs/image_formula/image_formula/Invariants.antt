use Rattle.std.proofs.Common.{◌≡◌}
use Rattle.formula_parse.specs.Views.{operands_view}
use Rattle.word_images.specs.ImageFormula.{places_before}
use Rattle.word_images.proofs.image_formula.image_formula.Given as goal

-- the places so far
abbrev pub invariant-loop-place : goal.invariant-loop-place
invariant-loop-place l = operands_view l.operands.items ≡ places_before l.system l.length l.letter l.place
