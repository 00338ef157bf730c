-- Of which numbers a definition holds, which letters it has as a word, and which words it has as a language.
use Rattle.std.specs.Prelude.{◌≡◌, ◌⊎◌, ℕ, ℤ, pos, Bool, true, false, List, [], ◌∷◌, ◌++◌, length, reverse, slice_index, ⊤}
use Rattle.std.specs.List.{AllByRecursion, flat_map}
use Rattle.wal_outside.specs.declared.folder.Folder.{Folder}
use Rattle.wal_outside.specs.declared.folder.Folder.TheVariants.{Automata, Words}
use Rattle.wal_outside.specs.Files.{same_file}
use Rattle.formula_truth.specs.Assignments.{Assignment, with_value}
use Rattle.formula_truth.specs.Truth.{Meanings, Holds}
use Rattle.morph_words.specs.FixedPoint.{IsLetterAt}
use Rattle.morph_words.specs.ImageLetters.{IsImageLetter}
use Rattle.regex_build.specs.Expression.{Expression}
use Rattle.regex_build.specs.Matches.{Matches}
use Rattle.regex_build.specs.Patterns.{AreMembers}
use Rattle.dfa_text.specs.Meaning.{FileAccepts}
use Rattle.reg_steps.specs.Relations.{HasMatch}
use Rattle.transducer_reading.specs.LetterRuns.{Makes}
use Rattle.definitions.specs.Tracks.{Tracks, OverSets, OverSystems, systems_of, letter_sets}
use Rattle.definitions.specs.Trees.{Variable, Tree, File, Regex, Formula, Fixed, Image, Combine, Language, Transduced, Converted, Bindings, unbound, bound, Parts, no_parts, part, LanguageOp, Union, Intersection, Concatenation, Star, Reversal, Trees, no_trees, tree_then}
use Rattle.system_files.specs.SystemFiles.{Custom}
use Rattle.definitions.specs.Files.{FileHolds}
use Rattle.definitions.specs.WordFiles.{FileLetter}

-- the numbers under the names of variables, and 0 under every other name
abbrev pub assigned : List Variable → List ℕ → Assignment
assigned [] ns = λ name. 0
assigned (v ∷ variables) [] = λ name. 0
assigned (v ∷ variables) (n ∷ ns) = with_value v.name n (assigned variables ns)

-- some representation of the numbers matches the expression; over sets there are no numbers
abbrev pub RegexHolds : Tracks → Expression (List ℤ) → List ℕ → Type 0
RegexHolds (OverSets sets) expression ns = ⊥
RegexHolds (OverSystems direction named) expression ns = HasMatch direction (systems_of named) (letter_sets (OverSystems direction named)) expression ns

-- the position is one number, of which this holds
abbrev pub AtNumber : (ℕ → Type 0) → List ℕ → Type 0
AtNumber Holds ns = (length ns ≡ 1) × Holds (slice_index ns 0)

-- the one where it is so, and else the other
abbrev pub chosen : Bool → Type 0 → Type 0 → Type 0
chosen true P Q = P
chosen false P Q = Q

abbrev mutual
  -- a file holds as it lists; an expression of the numbers of which a representation matches; a formula of those for which it is true, one
  -- for each free variable; a word and a language over sets hold of none
  pub tree_holds : Custom → Tree → List ℕ → Type 0
  tree_holds custom (File bytes) ns = FileHolds custom bytes ns
  tree_holds custom (Regex tracks expression) ns = RegexHolds tracks expression ns
  tree_holds custom (Formula variables formula bindings) ns = (length ns ≡ length variables) × Holds (record { holds_of = λ name ms. bound_holds custom bindings Automata name ms; has_letter = λ name ms letter. bound_letter custom bindings Words name ms letter }) formula (assigned variables ns)
  tree_holds custom (Fixed rules) ns = ⊥
  tree_holds custom (Image direction system rules tree) ns = ⊥
  tree_holds custom (Combine direction named parts) ns = ⊥
  tree_holds custom (Language sets op trees) ns = ⊥
  tree_holds custom (Transduced system transducer tree) ns = ⊥
  tree_holds custom (Converted direction system tree) ns = ⊥

  -- what a name is bound to holds of the numbers
  pub bound_holds : Custom → Bindings → Folder → List ℕ → List ℕ → Type 0
  bound_holds custom unbound folder name ns = ⊥
  bound_holds custom (bound bindings at under tree) folder name ns = chosen (same_file at under folder name) (tree_holds custom tree ns) (bound_holds custom bindings folder name ns)

  -- A file has the letters that it lists; an expression, a formula and a language are no words. A fixed point has its letters, and the image of a word
  -- those of the images of the word's letters, with none where the word has none. Definitions in a list make their letter at each tuple of
  -- numbers, one for each system. A transducer makes its outputs on the run over the word's letters, and none from the position on at which it
  -- stops: where the word has no letter, or the state no line for it. Over another system a word has its letters.
  pub tree_letter : Custom → Tree → List ℕ → ℤ → Type 0
  tree_letter custom (File bytes) ns letter = FileLetter custom bytes ns letter
  tree_letter custom (Regex tracks expression) ns letter = ⊥
  tree_letter custom (Formula variables formula bindings) ns letter = ⊥
  tree_letter custom (Fixed rules) ns letter = AtNumber (λ n. IsLetterAt rules n letter) ns
  tree_letter custom (Image direction system rules tree) ns letter = AtNumber (λ n. IsImageLetter rules (λ m of_word. tree_letter custom tree (m ∷ []) of_word) n letter) ns
  tree_letter custom (Combine direction named parts) ns letter = (length ns ≡ length named) × first_letter custom parts ns letter
  tree_letter custom (Language sets op trees) ns letter = ⊥
  tree_letter custom (Transduced system transducer tree) ns letter = AtNumber (λ n. Makes transducer (λ m of_word. tree_letter custom tree (m ∷ []) of_word) n letter) ns
  tree_letter custom (Converted direction system tree) ns letter = AtNumber (λ n. tree_letter custom tree (n ∷ []) letter) ns

  -- the letter of the first definition that holds of the numbers, and 0 where none holds
  pub first_letter : Custom → Parts → List ℕ → ℤ → Type 0
  first_letter custom no_parts ns letter = letter ≡ pos 0
  first_letter custom (part tree own parts) ns letter = (tree_holds custom tree ns × (letter ≡ own)) ⊎ ((¬ tree_holds custom tree ns) × first_letter custom parts ns letter)

  -- what a name is bound to has this letter at the position
  pub bound_letter : Custom → Bindings → Folder → List ℕ → List ℕ → ℤ → Type 0
  bound_letter custom unbound folder name ns letter = ⊥
  bound_letter custom (bound bindings at under tree) folder name ns letter = chosen (same_file at under folder name) (tree_letter custom tree ns letter) (bound_letter custom bindings folder name ns letter)

-- the words over the sets that the expression matches; over systems there are none
abbrev pub RegexWords : Tracks → Expression (List ℤ) → List (List ℤ) → Type 0
RegexWords (OverSets sets) expression word = AllByRecursion (AreMembers sets) word × Matches expression word
RegexWords (OverSystems direction named) expression word = ⊥

abbrev mutual
  -- a file over sets has the words that it accepts; an expression over sets those that it matches; and a language those over its sets that
  -- the operation makes; other definitions have none
  pub tree_words : Custom → Tree → List (List ℤ) → Type 0
  tree_words custom (File bytes) word = FileAccepts bytes word
  tree_words custom (Regex tracks expression) word = RegexWords tracks expression word
  tree_words custom (Formula variables formula bindings) word = ⊥
  tree_words custom (Fixed rules) word = ⊥
  tree_words custom (Image direction system rules tree) word = ⊥
  tree_words custom (Combine direction named parts) word = ⊥
  tree_words custom (Transduced system transducer tree) word = ⊥
  tree_words custom (Converted direction system tree) word = ⊥
  tree_words custom (Language sets op trees) word = AllByRecursion (AreMembers sets) word × made_words custom op trees word

  -- The words that are in some; in all; joined of one of each, in order; joined of any number of words of the one, and of none; and those
  -- that are in the one when they are reversed.
  pub made_words : Custom → LanguageOp → Trees → List (List ℤ) → Type 0
  made_words custom Union no_trees word = ⊥
  made_words custom Union (tree_then tree trees) word = tree_words custom tree word ⊎ made_words custom Union trees word
  made_words custom Intersection no_trees word = ⊤
  made_words custom Intersection (tree_then tree trees) word = tree_words custom tree word × made_words custom Intersection trees word
  made_words custom Concatenation no_trees word = word ≡ []
  made_words custom Concatenation (tree_then tree trees) word = (u : List (List ℤ)) × (v : List (List ℤ)) × (word ≡ u ++ v) × tree_words custom tree u × made_words custom Concatenation trees v
  made_words custom Star no_trees word = ⊥
  made_words custom Star (tree_then tree no_trees) word = (pieces : List (List (List ℤ))) × (word ≡ flat_map (λ piece. piece) pieces) × AllByRecursion (λ piece. tree_words custom tree piece) pieces
  made_words custom Star (tree_then tree (tree_then other trees)) word = ⊥
  made_words custom Reversal no_trees word = ⊥
  made_words custom Reversal (tree_then tree no_trees) word = tree_words custom tree (reverse word)
  made_words custom Reversal (tree_then tree (tree_then other trees)) word = ⊥

-- what names mean that are bound so: an automaton's among automata, and a word's among words
abbrev pub meanings_in : Custom → Bindings → Meanings
meanings_in custom bindings = record { holds_of = λ name ms. bound_holds custom bindings Automata name ms; has_letter = λ name ms letter. bound_letter custom bindings Words name ms letter }
