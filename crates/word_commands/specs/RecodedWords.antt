-- The words of all positions of the images, as names mean them in formulas.
use Rattle.std.specs.Prelude.{◌≡◌, ℕ, zero, suc, List, [], ◌∷◌, slice_index_or}
use Rattle.morph_words.specs.Rules.{Rules}
use Rattle.num_system.specs.Tracks.{absent_system}
use Rattle.word_output.specs.Words.{WordValue}
use Rattle.formula_parse.specs.Tokens.{Name}
use Rattle.formula_resolve.specs.Headers.{Headers, no_headers, with_word}
use Rattle.plan_relations.specs.Libraries.{LibraryValue, NamedWord, with_word as with_named}
use Rattle.word_images.specs.ImageFormula.{word_name}
use Rattle.word_images.specs.Recoded.{IsRecoded}

-- the words of the first so many positions, each under its name
abbrev pub AreRecoded : Rules → WordValue → ℕ → List NamedWord → Type 0
AreRecoded rules word zero words = words ≡ []
AreRecoded rules word (suc r) words = (prefix : List NamedWord) × (u : WordValue) × AreRecoded rules word r prefix × IsRecoded rules word r u × (words ≡ with_named prefix (word_name r) u)

-- their headers: each is over one track of this system
abbrev pub image_headers : Name → ℕ → Headers
image_headers s zero = no_headers
image_headers s (suc r) = with_word (image_headers s r) (word_name r) (s ∷ [])

-- what names mean: the words of all positions, and the system of the word
pub record IsImageLibrary (rules : Rules) (word : WordValue) (s : Name) (k : ℕ) (l : LibraryValue) : Type 0 where
  pub relations : l.relations ≡ []
  pub words : AreRecoded rules word k l.words
  pub systems : l.systems ≡ record { name = s; system = slice_index_or word.systems 0 absent_system } ∷ []
