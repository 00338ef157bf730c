-- The first rule whose image has another length. Nobody has to believe this: it serves the code that finds it.
use Rattle.std.specs.Prelude.{ℕ, ◌==◌, ℤ, [], ◌∷◌, length, Option, None, Some, if◌then◌else◌}
use Rattle.morph_words.specs.Rules.{Rules}

-- the letter of the first rule whose image has another length than this
abbrev pub first_other : ℕ → Rules → Option ℤ
first_other k [] = None
first_other k (rule ∷ rules) = if length rule.1 == k then first_other k rules else Some rule.0
