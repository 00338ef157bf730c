-- The images of letters and of words.
use Rattle.std.specs.Prelude.{ℤ, List, [], unwrap_or}
use Rattle.std.specs.List.{flat_map}
use Rattle.morph_words.specs.Rules.{Rules, image_of}

-- the image of a letter; the empty word if it has none
abbrev pub image : Rules → ℤ → List ℤ
image rules letter = unwrap_or (image_of rules letter) []

-- the images of the letters of a word, one after another
abbrev pub applied : Rules → List ℤ → List ℤ
applied rules word = flat_map (image rules) word
