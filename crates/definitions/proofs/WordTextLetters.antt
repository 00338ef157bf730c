-- The text of a word, read as a word's file, has the letters of the word.
use Rattle.std.proofs.Common.{◌≡◌, ◌↔◌, ℕ, zero, suc, ◌-◌, ◌<◌, ◌≤◌, List, [], ◌∷◌, length, map, get_or, ℤ, pos, Option, None, Some, Ok, refl, sym, ap, ◌∙◌, subst, arith}
use Rattle.std.specs.Int.{w32}
use Rattle.std.specs.List.{All, AllZip}
use Rattle.std.specs.Option.{option_map_or}
use Rattle.std.specs.Prelude.{FitsSigned, IfSome}
use Rattle.std.proofs.lemmas.List.{length-map, get_or-map}
use Rattle.std.proofs.lemmas.List.Elements.{All-get_or, All-map}
use Rattle.std.proofs.lemmas.Option.{none-some}
use Rattle.digit_tuple.specs.Deterministic.{Automaton, IsTable, letters_of, states_of, run_of}
use Rattle.digit_tuple.specs.Letters.{IsWord}
use Rattle.digit_tuple.specs.Paddings.{in_order, strip}
use Rattle.digit_tuple.specs.declared.direction.Direction.{Direction}
use Rattle.digit_tuple.specs.declared.header.Header.{Header}
use Rattle.dfa_reading.specs.Branching.{IsLetterOfDigits}
use Rattle.dfa_reading.specs.Listed.{Listed, MovesAlong}
use Rattle.dfa_reading.specs.WordFiles.{word_of}
use Rattle.dfa_reading.proofs.TupleWords.{tuples_of, word_of_tuples}
use Rattle.dfa_text.specs.Lists.{word_listed, AreOutputs}
use Rattle.dfa_text.specs.RelationText.{word_text}
use Rattle.dfa_text.proofs.ListedPaths.{runs_listed}
use Rattle.dfa_text.proofs.PrintedWords.{text_lists_word}
use Rattle.residual_classes.specs.Classes.{class_of}
use Rattle.minimise.proofs.RunLemmas.{run_within}
use Rattle.num_system.proofs.HoldLemmas.{one_tuple, representation_of}
use Rattle.numeration.specs.Representation.{Represents, letters_in, sizes_of}
use Rattle.numeration.specs.Systems.{AreSystems, System}
use Rattle.numeration.proofs.RepresentLemmas.{represents-without_zeros}
use Rattle.word_output.specs.LetterFunctions.{LetterFunctionValue, IsLetterFunction, letter_after, letter_in, outputs_of}
use Rattle.word_output.specs.WordReadings.{HasListedLetterAt}
use Rattle.word_output.proofs.LetterFunctionLemmas.{letter_in-class}
use Rattle.word_output.proofs.StripLemmas.{IsWord-stripped, in_order-strip, strip-twice}
use Rattle.system_files.specs.SystemFiles.{Custom}
use Rattle.definitions.specs.Tracks.{NamedSystem, OverSystems, names_of, systems_of, header_of, header_tracks}
use Rattle.definitions.specs.WordFiles.{HasLetterUnder, ListedLetter, FileLetter}
use Rattle.definitions.specs.WordTexts.{IsWordText}
use Rattle.definitions.proofs.FileNames.{file_systems, track_names}
use Rattle.definitions.proofs.NameLemmas.{named_are_systems, same_list, same_direction}
use Rattle.definitions.proofs.TextMeanings.{system_sizes}
use Rattle.definitions.proofs.WordLetters.{file_letter}

module _ (f : LetterFunctionValue) (is : IsLetterFunction f) where
  -- the letter of a class fits where those of the function do
  class_fits : All (λ letter. FitsSigned w32 letter) f.letters → (class : ℕ) → class ≤ length f.letters → IfSome (letter_in f.letters class) (FitsSigned w32)
  class_fits fits zero small = tt
  class_fits fits (suc class) small =
      let place : suc class - 1 ≡ class = omega arith in
      let read : letter_in f.letters (suc class) ≡ Some (get_or f.letters class (pos 0)) = letter_in-class f.letters (suc class) (omega arith) ∙ ap (λ (k : ℕ). Some (get_or f.letters k (pos 0))) place in
      subst (λ (o : Option ℤ). IfSome o (FitsSigned w32)) (sym read) (All-get_or (λ letter. FitsSigned w32 letter) f.letters class (pos 0) (omega (arith, small)) fits)

  -- so the outputs are those of an automaton
  pub outputs_fit : All (λ letter. FitsSigned w32 letter) f.letters → AreOutputs f.automaton (outputs_of f)
  outputs_fit fits = record {
    count = length-map f.classes (λ class. letter_in f.letters class) ∙ is.canonical.count;
    fits = All-map (λ output. IfSome output (FitsSigned w32)) (λ class. letter_in f.letters class) f.classes (λ q d within. class_fits fits (get_or f.classes q d) (is.within q d within));
  }

  output_at : (q : ℕ) → q < states_of f.automaton → get_or (outputs_of f) q None ≡ letter_in f.letters (class_of f.classes q)
  output_at q within = get_or-map (λ class. letter_in f.letters class) f.classes q 0 None (omega (arith, within, is.canonical.count))

  -- the output of the state that a word leads to is the word's letter
  led_output : (w : List ℕ) (q : ℕ) → run_of f.automaton 0 w ≡ Some q → get_or (outputs_of f) q None ≡ letter_after f w
  led_output w q leads =
      output_at q (run_within f.automaton w 0 q is.canonical.table is.canonical.table.initial leads)
      ∙ sym (ap (λ (o : Option ℕ). letter_in f.letters (option_map_or (λ p. class_of f.classes p) o 0)) leads)

  led_state : (w : List ℕ) (letter : ℤ) → letter_after f w ≡ Some letter → (q : ℕ) × (run_of f.automaton 0 w ≡ Some q)
  led_state w letter has = by (run_of f.automaton 0 w) has
    where
      by : (o : Option ℕ) → letter_in f.letters (option_map_or (λ p. class_of f.classes p) o 0) ≡ Some letter → (q : ℕ) × (o ≡ Some q)
      by None none = absurd (none-some letter none)
      by (Some q) some = (q, refl)

module _ (custom : Custom) (direction : Direction) (named : List NamedSystem) (HasLetter : List ℕ → ℤ → Type 0) (text : List ℕ) (is : IsWordText custom direction named HasLetter text) where
  abbrev d : Automaton
  d = is.function.automaton

  abbrev header : Header
  header = header_of (OverSystems direction named)

  abbrev listed : Listed
  listed = word_listed header d (outputs_of is.function)

  abbrev ss : List System
  ss = systems_of named

  table : IsTable (letters_of d) d.states
  table = is.canonical.canonical.table

  count_of : length ss ≡ length named
  count_of = length-map named (λ (s : NamedSystem). s.system)

  -- the text lists the automaton with the letters of its states
  text_read : word_of text ≡ Ok listed
  text_read =
      ap word_of is.text_is
      ∙ text_lists_word (header_tracks named) d (outputs_of is.function) (record { tracks = file_systems custom direction named is.some is.are; sizes = is.sizes ∙ sym (system_sizes direction named); table = table })
      (outputs_fit is.function is.canonical is.fits)

  -- under the names of systems a letter is listed over the systems
  over_systems : (ns : List ℕ) (letter : ℤ) → HasLetterUnder custom (names_of named) listed ns letter → HasListedLetterAt direction ss listed ns letter
  over_systems ns letter h =
      let same : named ≡ h.named = same_list custom direction h.direction named h.named is.are h.are h.names_are in
      let directions : direction ≡ h.direction = same_direction custom direction h.direction named h.named is.some is.are h.are h.names_are in
      subst (λ (x : List NamedSystem). HasListedLetterAt direction (systems_of x) listed ns letter) (sym same) (subst (λ (x : Direction). HasListedLetterAt x (systems_of h.named) listed ns letter) (sym directions) h.letter_is)

  moved : (tuples : List (List ℕ)) (w : List ℕ) (q : ℕ) → AllZip (IsLetterOfDigits (sizes_of ss)) tuples w → MovesAlong (sizes_of ss) listed 0 tuples q ↔ (run_of d 0 w ≡ Some q)
  moved tuples w q letters = subst (λ (sizes : List ℕ). AllZip (IsLetterOfDigits sizes) tuples w → MovesAlong sizes listed 0 tuples q ↔ (run_of d 0 w ≡ Some q)) is.sizes (runs_listed header d table (outputs_of is.function) tuples w q) letters

  -- what is listed at a place is the letter of the place
  letter_from_listed : (ns : List ℕ) (letter : ℤ) → HasListedLetterAt direction ss listed ns letter → HasLetter ns letter
  letter_from_listed ns letter h =
      let over : IsWord (letters_in ss) h.word = word_of_tuples (sizes_of ss) h.tuples h.word h.letters in
      let q : ℕ = h.letter_is.0 in
      let leads : run_of d 0 h.word ≡ Some q = (moved h.tuples h.word q h.letters).0 h.letter_is.1 in
      let after : letter_after is.function h.word ≡ Some letter = sym (led_output is.function is.canonical h.word q leads) ∙ h.letter_is.2 in
      let (ms, represents, has) = (is.letters h.word over letter).0 after in
      subst (λ (xs : List ℕ). HasLetter xs letter) (one_tuple ss (in_order direction h.word) ms ns represents h.represents) has

  -- and the letter of a place is listed at its representation without leading zeros
  listed_from_letter : (ns : List ℕ) (letter : ℤ) → length ns ≡ length named → HasLetter ns letter → HasListedLetterAt direction ss listed ns letter
  listed_from_letter ns letter count has =
      let systems : AreSystems ss = named_are_systems custom direction named is.are in
      let found = representation_of direction ss ns systems (count ∙ sym count_of) in
      let w : List ℕ = strip direction found.0 in
      let over : IsWord (letters_in ss) w = IsWord-stripped direction (letters_in ss) found.0 found.1 in
      let represents : Represents ss (in_order direction w) ns = subst (λ (v : List ℕ). Represents ss v ns) (sym (in_order-strip direction found.0)) ((represents-without_zeros ss (in_order direction found.0) ns systems).0 found.2) in
      let tuples = tuples_of (sizes_of ss) w over in
      let after : letter_after is.function w ≡ Some letter = (is.letters w over letter).1 (ns, represents, has) in
      let state = led_state is.function is.canonical w letter after in
      record {
        tuples = tuples.0;
        word = w;
        letters = tuples.1;
        represents = represents;
        shortest = strip-twice direction found.0;
        letter_is = (state.0, (moved tuples.0 w state.0 tuples.1).1 state.1, led_output is.function is.canonical w state.0 state.1 ∙ after);
      }

  -- so the text of a word has the letters of the word
  pub word_text_letters : ((ns : List ℕ) (letter : ℤ) → HasLetter ns letter → length ns ≡ length named) → (ns : List ℕ) (letter : ℤ) → FileLetter custom text ns letter ↔ HasLetter ns letter
  word_text_letters long ns letter = (there, back)
    where
      there : FileLetter custom text ns letter → HasLetter ns letter
      there h =
          let below : ListedLetter custom listed ns letter = file_letter custom text listed ns letter text_read h in
          letter_from_listed ns letter (over_systems ns letter (subst (λ (names : List (List ℕ)). HasLetterUnder custom names listed ns letter) (track_names named) below))

      back : HasLetter ns letter → FileLetter custom text ns letter
      back has =
          let here : HasLetterUnder custom (names_of named) listed ns letter = record { direction = direction; named = named; names_are = refl; are = is.are; letter_is = listed_from_letter ns letter (long ns letter has) has } in
          (listed, text_read, subst (λ (names : List (List ℕ)). HasLetterUnder custom names listed ns letter) (sym (track_names named)) here)
