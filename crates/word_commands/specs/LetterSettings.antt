-- How what the names of the formulas mean is kept. Nobody has to believe this: it serves the contracts of functions.
use Rattle.std.specs.Prelude.{◌≡◌, ℕ}
use Rattle.morph_words.specs.Rules.{Rules}
use Rattle.word_output.specs.Words.{WordValue}
use Rattle.formula_parse.specs.Tokens.{Name}
use Rattle.plan_relations.specs.Libraries.{LibraryValue}
use Rattle.word_commands.specs.RecodedWords.{IsImageLibrary, image_headers}
use Rattle.word_commands.specs.declared.setting.Setting.{Setting}

-- the relations, words and systems of the names
abbrev pub library_in : Setting → LibraryValue
library_in t = record { relations = t.words.relations; words = t.words.words; systems = t.names.systems }

-- the headers are those of the words of all positions, and the names mean these words and the system
pub record IsSetting (rules : Rules) (word : WordValue) (s : Name) (k : ℕ) (t : Setting) : Type 0 where
  pub headers : t.names.headers ≡ image_headers s k
  pub library : IsImageLibrary rules word s k (library_in t)
