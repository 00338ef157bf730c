-- The text of a definition that may be among words, read as a word's file, has the letters of the definition.
use Rattle.std.proofs.Common.{ℕ, List, [], ◌∷◌, ℤ, refl, sym, subst}
use Rattle.digit_tuple.specs.declared.direction.Direction.TheVariants.{Msd}
use Rattle.definitions.specs.Trees.{Tree, File, Regex, Formula, Fixed, Language}
use Rattle.definitions.specs.TreeMeanings.{tree_letter}
use Rattle.definitions.specs.WordFiles.{FileLetter}
use Rattle.definitions.specs.WordTexts.{msd_base}
use Rattle.definitions.specs.Laws.{WordTextsMeanTheirTrees}
use Rattle.definitions.proofs.WordTextLetters.{word_text_letters}
use Rattle.system_files.specs.SystemFiles.{Custom}

-- the letters of a definition
abbrev letters_of : Custom → Tree → List ℕ → ℤ → Type 0
letters_of custom tree ns letter = tree_letter custom tree ns letter

pub word_text_means : WordTextsMeanTheirTrees
word_text_means custom (File bytes) text may is ns letter = (λ h. subst (λ (file : List ℕ). FileLetter custom file ns letter) is h, λ h. subst (λ (file : List ℕ). FileLetter custom file ns letter) (sym is) h)
word_text_means custom (Regex tracks expression) text may is ns letter = absurd (may.0 refl)
word_text_means custom (Formula variables formula bindings) text may is ns letter = absurd (may.0 refl)
word_text_means custom (Fixed rules) text may is ns letter = word_text_letters custom Msd (msd_base is.k ∷ []) (letters_of custom (Fixed rules)) text is.word (λ ms b has. has.0) ns letter
word_text_means custom (Language sets op trees) text may is ns letter = absurd (may.0 refl)
word_text_means custom tree text may is ns letter = word_text_letters custom _ _ (letters_of custom tree) text is (λ ms b has. has.0) ns letter
