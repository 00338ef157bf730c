-- The texts of words that are made: each is the text of what has the word's letters.
use Rattle.std.proofs.Common.{◌≡◌, ◌↔◌, ℕ, ◌<◌, List, [], ◌∷◌, length, ℤ, Some, ◌⊎◌, inl, inr, refl, sym, ap, ◌∙◌, subst, arith}
use Rattle.std.specs.Int.{w32}
use Rattle.std.specs.List.{All}
use Rattle.std.specs.Prelude.{FitsSigned, slice_index}
use Rattle.std.proofs.lemmas.List.{length-map}
use Rattle.digit_tuple.specs.Letters.{IsWord}
use Rattle.digit_tuple.specs.Paddings.{in_order}
use Rattle.digit_tuple.specs.declared.direction.Direction.{Direction}
use Rattle.digit_tuple.specs.declared.direction.Direction.TheVariants.{Msd}
use Rattle.base_k.specs.Positional.{base}
use Rattle.dfa_text.specs.RelationText.{word_text}
use Rattle.morph_words.specs.FixedPoint.{IsLetterAt}
use Rattle.morph_words.specs.MorphismKinds.{HasFixedPoint}
use Rattle.morph_words.specs.ImageLetters.{IsImageLetter}
use Rattle.morph_words.specs.Rules.{Rules}
use Rattle.num_system.specs.Sealed.{SystemValue, system_of}
use Rattle.num_system.specs.Tracks as tracks
use Rattle.num_system.specs.Tracks.{direction_of}
use Rattle.num_system.proofs.HoldLemmas.{represented_count}
use Rattle.numeration.specs.Representation.{Represents, letters_in, sizes_of}
use Rattle.numeration.specs.Systems.{System}
use Rattle.system_names.specs.Names.{system_name}
use Rattle.system_names.specs.declared.system_kind.SystemKind.TheVariants.{Base}
use Rattle.transducer_reading.specs.LetterRuns.{Makes}
use Rattle.transducer_reading.specs.Transducers.{Transducer}
use Rattle.word_output.specs.LetterFunctions.{letter_after, outputs_of}
use Rattle.word_output.specs.Words.{HasLetter, IsWordValue, RepresentsPlace, WordValue}
use Rattle.word_output.proofs.PlaceLaws.{letter_of_place, place_of_letter}
use Rattle.system_files.specs.SystemFiles.{Custom}
use Rattle.definitions.specs.Tracks.{NamedSystem, OverSystems, systems_of, header_of}
use Rattle.definitions.specs.Trees.{Tree, Fixed, Image, Combine, Transduced, Converted, Parts}
use Rattle.definitions.specs.Named.{IsSystemNamed, AreNamed}
use Rattle.definitions.specs.TreeMeanings.{AtNumber, tree_letter, first_letter}
use Rattle.definitions.specs.WordTexts.{IsWordText, msd_base}
use Rattle.definitions.specs.Texts.{IsFixedText, HasTreeText}

-- the names mean the systems of the word, read in its direction, and its letters are numbers of 32 bits
pub record IsWordNamed (custom : Custom) (read_direction : Direction) (named : List NamedSystem) (v : WordValue) : Type 0 where
  pub word : IsWordValue v
  pub fits : All (λ letter. FitsSigned w32 letter) v.function.letters
  pub are : AreNamed custom read_direction named
  pub direction : direction_of v.systems ≡ read_direction
  pub systems_are : systems_of named ≡ tracks.systems_of v.systems

-- the text that lists a word under the names of its systems
abbrev pub text_of_word : Direction → List NamedSystem → WordValue → List ℕ
text_of_word read_direction named v = word_text (header_of (OverSystems read_direction named)) v.function.automaton (outputs_of v.function)

-- over as many systems as numbers the word has the letters that are said
abbrev pub HasLettersOf : WordValue → List NamedSystem → (List ℕ → ℤ → Type 0) → Type 0
HasLettersOf v named HasIt = (ns : List ℕ) (letter : ℤ) → length ns ≡ length named → HasLetter v ns letter ↔ HasIt ns letter

module _ (custom : Custom) (read_direction : Direction) (named : List NamedSystem) (v : WordValue) (is : IsWordNamed custom read_direction named v) (HasIt : List ℕ → ℤ → Type 0) (says : HasLettersOf v named HasIt) where
  count : length named ≡ length v.systems
  count = sym (length-map named (λ (s : NamedSystem). s.system)) ∙ ap (λ (ss : List System). length ss) is.systems_are ∙ length-map v.systems system_of

  represented_long : (w ns : List ℕ) → Represents (systems_of named) (in_order read_direction w) ns → length ns ≡ length named
  represented_long w ns represents = represented_count (systems_of named) (in_order read_direction w) ns represents ∙ length-map named (λ (s : NamedSystem). s.system)

  -- what is represented over the systems of the names is represented over those of the word
  over_word : (w : List ℕ) → IsWord (letters_in (systems_of named)) w → IsWord (letters_in (tracks.systems_of v.systems)) w
  over_word w over = subst (λ (ss : List System). IsWord (letters_in ss) w) is.systems_are over

  to_place : (w ns : List ℕ) → IsWord (letters_in (systems_of named)) w → Represents (systems_of named) (in_order read_direction w) ns → RepresentsPlace v.systems ns w
  to_place w ns over represents = record {
    over = over_word w over;
    represents = subst (λ (x : Direction). Represents (tracks.systems_of v.systems) (in_order x w) ns) (sym is.direction) (subst (λ (ss : List System). Represents ss (in_order read_direction w) ns) is.systems_are represents);
  }

  from_place : (w ns : List ℕ) → RepresentsPlace v.systems ns w → Represents (systems_of named) (in_order read_direction w) ns
  from_place w ns place =
      subst (λ (ss : List System). Represents ss (in_order read_direction w) ns) (sym is.systems_are) (subst (λ (x : Direction). Represents (tracks.systems_of v.systems) (in_order x w) ns) is.direction place.represents)

  place_letter : (w : List ℕ) (letter : ℤ) → IsWord (letters_in (systems_of named)) w → letter_after v.function w ≡ Some letter → (ns : List ℕ) × Represents (systems_of named) (in_order read_direction w) ns × HasIt ns letter
  place_letter w letter over has =
      let found = place_of_letter v w letter is.word (over_word w over) has in
      let represents = from_place w found.0 found.1 in
      (found.0, represents, (says found.0 letter (represented_long w found.0 represents)).0 found.2)

  letter_there : (w : List ℕ) (letter : ℤ) → IsWord (letters_in (systems_of named)) w → (ns : List ℕ) × Represents (systems_of named) (in_order read_direction w) ns × HasIt ns letter → letter_after v.function w ≡ Some letter
  letter_there w letter over (ns, represents, has) = letter_of_place v ns w letter is.word (to_place w ns over represents) ((says ns letter (represented_long w ns represents)).1 has)

  -- the text of a word is the text of what has its letters
  pub word_value_text : IsWordText custom read_direction named HasIt (text_of_word read_direction named v)
  word_value_text = record {
    some = omega (arith, is.word.some, count);
    are = is.are;
    function = v.function;
    canonical = is.word.function;
    fits = is.fits;
    sizes = is.word.sizes ∙ ap sizes_of (sym is.systems_are);
    letters = λ w over letter. (place_letter w letter over, letter_there w letter over);
    text_is = refl;
  }

-- the name of a base means the base
pub base_named : (custom : Custom) (k : ℕ) (rules : Rules) → HasFixedPoint rules k → AreNamed custom Msd (msd_base k ∷ [])
base_named custom k rules has =
    let named : IsSystemNamed custom (system_name Msd (Base k)) Msd (base k) = inl (Base k, (record { least = has.base.0; most = has.base.1 }, refl), refl) in
    (named, tt)

only_number : (ns : List ℕ) → length ns ≡ 1 → ns ≡ slice_index ns 0 ∷ []
only_number [] long = absurd (omega (arith, long))
only_number (n ∷ []) long = refl
only_number (n ∷ m ∷ ns) long = absurd (omega (arith, long))

-- the letters of a word over one system are those at its numbers
pub at_numbers : (v : WordValue) (system : NamedSystem) (Has : ℕ → ℤ → Type 0) → ((n : ℕ) (letter : ℤ) → HasLetter v (n ∷ []) letter ↔ Has n letter) → HasLettersOf v (system ∷ []) (λ ns letter. AtNumber (λ n. Has n letter) ns)
at_numbers v system Has says ns letter long = (there, back)
  where
    only : ns ≡ slice_index ns 0 ∷ []
    only = only_number ns long

    there : HasLetter v ns letter → AtNumber (λ n. Has n letter) ns
    there has = (long, (says (slice_index ns 0) letter).0 (subst (λ (xs : List ℕ). HasLetter v xs letter) only has))

    back : AtNumber (λ n. Has n letter) ns → HasLetter v ns letter
    back (one, has) = subst (λ (xs : List ℕ). HasLetter v xs letter) (sym only) ((says (slice_index ns 0) letter).1 has)

-- the word is over base k, the most significant digit first, and has at each place the letter of the fixed point
pub record IsWordOfFixed (rules : Rules) (k : ℕ) (word : WordValue) : Type 0 where
  pub word_is : IsWordValue word
  pub system : tracks.systems_of word.systems ≡ base k ∷ []
  pub direction : direction_of word.systems ≡ Msd
  pub letters : (place : ℕ) (letter : ℤ) → HasLetter word (place ∷ []) letter ↔ IsLetterAt rules place letter

-- the text of a word that is the fixed point
pub fixed_word_text : (custom : Custom) (rules : Rules) (k : ℕ) (word : WordValue) → HasFixedPoint rules k → IsWordOfFixed rules k word → All (λ letter. FitsSigned w32 letter) word.function.letters
    → IsFixedText custom rules (text_of_word Msd (msd_base k ∷ []) word)
fixed_word_text custom rules k word has fixed fits =
    let named : IsWordNamed custom Msd (msd_base k ∷ []) word = record { word = fixed.word_is; fits = fits; are = base_named custom k rules has; direction = fixed.direction; systems_are = sym fixed.system } in
    record {
      k = k;
      has = has;
      word = word_value_text custom Msd (msd_base k ∷ []) word named (λ ns letter. tree_letter custom (Fixed rules) ns letter) (at_numbers word (msd_base k) (λ n letter. IsLetterAt rules n letter) fixed.letters);
    }

-- the text of a word that is the image of the word of a definition
pub image_word_text : (custom : Custom) (read_direction : Direction) (system : NamedSystem) (rules : Rules) (tree : Tree) (v : WordValue) → IsWordNamed custom read_direction (system ∷ []) v
    → ((n : ℕ) (letter : ℤ) → HasLetter v (n ∷ []) letter ↔ IsImageLetter rules (λ m of_word. tree_letter custom tree (m ∷ []) of_word) n letter) → HasTreeText custom (Image read_direction system rules tree) (text_of_word read_direction (system ∷ []) v)
image_word_text custom read_direction system rules tree v is says =
    word_value_text custom read_direction (system ∷ []) v is (λ ns letter. tree_letter custom (Image read_direction system rules tree) ns letter)
    (at_numbers v system (λ n letter. IsImageLetter rules (λ m of_word. tree_letter custom tree (m ∷ []) of_word) n letter) says)

-- the text of a word that definitions in a list make together
pub combined_word_text : (custom : Custom) (read_direction : Direction) (named : List NamedSystem) (parts : Parts) (v : WordValue) → IsWordNamed custom read_direction named v
    → HasLettersOf v named (λ ns letter. first_letter custom parts ns letter) → HasTreeText custom (Combine read_direction named parts) (text_of_word read_direction named v)
combined_word_text custom read_direction named parts v is says =
    word_value_text custom read_direction named v is (λ ns letter. tree_letter custom (Combine read_direction named parts) ns letter)
    (λ ns letter long. (λ has. (long, (says ns letter long).0 has), λ has. (says ns letter long).1 has.1))

-- the text of a word of a transducer's outputs
pub transduced_word_text : (custom : Custom) (system : NamedSystem) (t : Transducer) (tree : Tree) (v : WordValue) → IsWordNamed custom Msd (system ∷ []) v
    → ((n : ℕ) (letter : ℤ) → HasLetter v (n ∷ []) letter ↔ Makes t (λ m of_word. tree_letter custom tree (m ∷ []) of_word) n letter) → HasTreeText custom (Transduced system t tree) (text_of_word Msd (system ∷ []) v)
transduced_word_text custom system t tree v is says =
    word_value_text custom Msd (system ∷ []) v is (λ ns letter. tree_letter custom (Transduced system t tree) ns letter)
    (at_numbers v system (λ n letter. Makes t (λ m of_word. tree_letter custom tree (m ∷ []) of_word) n letter) says)

-- the text of a word over another system
pub converted_word_text : (custom : Custom) (read_direction : Direction) (system : NamedSystem) (tree : Tree) (v : WordValue) → IsWordNamed custom read_direction (system ∷ []) v
    → ((n : ℕ) (letter : ℤ) → HasLetter v (n ∷ []) letter ↔ tree_letter custom tree (n ∷ []) letter) → HasTreeText custom (Converted read_direction system tree) (text_of_word read_direction (system ∷ []) v)
converted_word_text custom read_direction system tree v is says =
    word_value_text custom read_direction (system ∷ []) v is (λ ns letter. tree_letter custom (Converted read_direction system tree) ns letter)
    (at_numbers v system (λ n letter. tree_letter custom tree (n ∷ []) letter) says)

-- images are those of the same word where the letters are the same
pub same_image : (rules : Rules) (P Q : ℕ → ℤ → Type 0) → ((n : ℕ) (letter : ℤ) → P n letter → Q n letter) → (place : ℕ) (letter : ℤ) → IsImageLetter rules P place letter → IsImageLetter rules Q place letter
same_image rules P Q same place letter is = record {
  k = is.k;
  uniform = is.uniform;
  q = is.q;
  r = is.r;
  small = is.small;
  place_is = is.place_is;
  of_word = is.of_word;
  has = same is.q is.of_word is.has;
  letter_is = is.letter_is;
}
