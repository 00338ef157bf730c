-- A word has one text.
use Rattle.std.proofs.Common.{◌≡◌, ℕ, List, [], ◌∷◌, ℤ, pos, Some, sym, ap, ◌∙◌, subst}
use Rattle.std.specs.Prelude.{is_some}
use Rattle.digit_tuple.specs.Deterministic.{letters_of}
use Rattle.digit_tuple.specs.Letters.{IsWord, product}
use Rattle.digit_tuple.specs.declared.direction.Direction.{Direction}
use Rattle.digit_tuple.specs.declared.direction.Direction.TheVariants.{Msd}
use Rattle.dfa_text.specs.RelationText.{word_text}
use Rattle.morph_words.proofs.UniformLemmas.{one_length}
use Rattle.morph_words.specs.Rules.{Rules}
use Rattle.numeration.specs.Representation.{letters_in}
use Rattle.word_output.specs.LetterFunctions.{LetterFunctionValue, SameLetterFunction, letter_after, outputs_of}
use Rattle.word_output.proofs.LetterEquality.{letter_functions}
use Rattle.word_output.proofs.OptionLemmas.{same_option}
use Rattle.definitions.specs.Tracks.{NamedSystem, OverSystems, systems_of, header_of}
use Rattle.definitions.specs.Trees.{Fixed}
use Rattle.definitions.specs.TreeMeanings.{tree_letter}
use Rattle.definitions.specs.WordTexts.{IsWordText, msd_base}
use Rattle.definitions.specs.Texts.{IsFixedText}
use Rattle.system_files.specs.SystemFiles.{Custom}

module _ (custom : Custom) (direction : Direction) (named : List NamedSystem) (HasLetter : List ℕ → ℤ → Type 0) (text other : List ℕ) (a : IsWordText custom direction named HasLetter text) (b : IsWordText custom direction named HasLetter other) where
  -- both functions give each word the letters of the places that it represents
  same_letters : SameLetterFunction a.function b.function
  same_letters w over =
      let inside : IsWord (letters_in (systems_of named)) w = subst (λ (sizes : List ℕ). IsWord (product sizes) w) a.sizes over in
      same_option (letter_after a.function w) (letter_after b.function w)
      (λ letter.
      let one = a.letters w inside letter in
      let two = b.letters w inside letter in
      ((λ h. two.1 (one.0 h)), (λ h. one.1 (two.0 h))))

  one_function : a.function ≡ b.function
  one_function = letter_functions a.function b.function a.canonical b.canonical (a.sizes ∙ sym b.sizes) same_letters

  -- so the text of a word is one
  pub one_word_text : text ≡ other
  one_word_text = a.text_is ∙ ap (λ (f : LetterFunctionValue). word_text (header_of (OverSystems direction named)) f.automaton (outputs_of f)) one_function ∙ sym b.text_is

-- and that of a fixed point, whose base is one
pub one_fixed_text : (custom : Custom) (rules : Rules) (text other : List ℕ) → IsFixedText custom rules text → IsFixedText custom rules other → text ≡ other
one_fixed_text custom rules text other a b =
    let HasLetter : List ℕ → ℤ → Type 0 = λ ns letter. tree_letter custom (Fixed rules) ns letter in
    let bases : a.k ≡ b.k = one_length rules (pos 0) a.k b.k (ap is_some a.has.begins.1) a.has.uniform b.has.uniform in
    one_word_text custom Msd (msd_base b.k ∷ []) HasLetter text other (subst (λ (k : ℕ). IsWordText custom Msd (msd_base k ∷ []) HasLetter text) bases a.word) b.word
