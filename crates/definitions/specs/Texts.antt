-- Which text stores an entry.
use Rattle.std.specs.Prelude.{◌≡◌, ◌↔◌, ℕ, ◌<◌, ℤ, List, [], ◌∷◌, length, Option, None, Some, ⊤}
use Rattle.std.specs.List.{AllByRecursion}
use Rattle.digit_tuple.specs.Deterministic.{Automaton}
use Rattle.digit_tuple.specs.Sets.{sizes_of}
use Rattle.digit_tuple.specs.declared.direction.Direction.{Direction}
use Rattle.digit_tuple.specs.declared.direction.Direction.TheVariants.{Msd}
use Rattle.digit_tuple.specs.declared.header.Header.TheVariants as headers
use Rattle.minimise.specs.Canonical.{IsCanonical}
use Rattle.regex_build.specs.Expression.{Expression}
use Rattle.regex_build.specs.Matches.{Matches}
use Rattle.regex_build.specs.Patterns.{AreMembers}
use Rattle.dfa_text.specs.Meaning.{FileAccepts, AreTrackSets}
use Rattle.dfa_text.specs.RelationText.{relation_text}
use Rattle.wal_outside.specs.declared.folder.Folder.{Folder}
use Rattle.wal_outside.specs.Files.{Files}
use Rattle.reg_steps.specs.RegexSteps.{IsRegexAutomaton}
use Rattle.reg_steps.specs.Relations.{IsRelation}
use Rattle.definitions.specs.Tracks.{NamedSystem, systems_of, Tracks, OverSets, OverSystems, letter_sets, header_of}
use Rattle.morph_words.specs.MorphismKinds.{HasFixedPoint}
use Rattle.morph_words.specs.Rules.{Rules}
use Rattle.definitions.specs.Trees.{Tree, File, Regex, Formula, Fixed, Language, MayBeIn, Entry, Bytes, Defined, Ledger, tree_of, custom_of, word_direction, word_systems}
use Rattle.definitions.specs.TreeMeanings.{tree_letter, tree_words}
use Rattle.definitions.specs.WordTexts.{IsWordText, msd_base}
use Rattle.system_files.specs.SystemFiles.{Custom}
use Rattle.definitions.specs.Named.{AreNamed}
use Rattle.definitions.specs.FormulaTexts.{IsFormulaText}

-- The text of an expression over sets. As a file it accepts exactly the words over the sets that the expression matches; it is the text of
-- the canonical automaton.
pub record IsRegexText (sets : List (List ℤ)) (expression : Expression (List ℤ)) (text : List ℕ) : Type 0 where
  pub tracks : AreTrackSets sets
  pub accepts : (word : List (List ℤ)) → FileAccepts text word ↔ (AllByRecursion (AreMembers sets) word × Matches expression word)
  pub automaton : Automaton
  pub of_regex : IsRegexAutomaton sets expression automaton
  pub text_is : text ≡ relation_text (headers.Sets sets) automaton

-- The text of an expression over systems: that of the canonical automaton of the representations of the tuples of numbers of which some
-- representation matches. The systems are those that their names mean.
pub record IsRepresentedText (custom : Custom) (direction : Direction) (named : List NamedSystem) (expression : Expression (List ℤ)) (text : List ℕ) : Type 0 where
  pub some : 0 < length named
  pub are : AreNamed custom direction named
  pub automaton : Automaton
  pub of_relation : IsRelation direction (systems_of named) (letter_sets (OverSystems direction named)) expression automaton
  pub text_is : text ≡ relation_text (header_of (OverSystems direction named)) automaton

-- the text of an expression over tracks
abbrev pub IsTrackText : Custom → Tracks → Expression (List ℤ) → List ℕ → Type 0
IsTrackText custom (OverSets sets) expression text = IsRegexText sets expression text
IsTrackText custom (OverSystems direction named) expression text = IsRepresentedText custom direction named expression text

-- the text of a fixed point, which is in the base that is the length of all images
pub record IsFixedText (custom : Custom) (rules : Rules) (text : List ℕ) : Type 0 where
  pub k : ℕ
  pub has : HasFixedPoint rules k
  pub word : IsWordText custom Msd (msd_base k ∷ []) (λ ns letter. tree_letter custom (Fixed rules) ns letter) text

-- The text of a language over sets. As a file it accepts exactly the words of the language; it is the text of the canonical automaton.
pub record IsLanguageText (sets : List (List ℤ)) (InLanguage : List (List ℤ) → Type 0) (text : List ℕ) : Type 0 where
  pub tracks : AreTrackSets sets
  pub accepts : (word : List (List ℤ)) → FileAccepts text word ↔ InLanguage word
  pub automaton : Automaton
  pub sizes : automaton.sizes ≡ sizes_of sets
  pub canonical : IsCanonical automaton
  pub text_is : text ≡ relation_text (headers.Sets sets) automaton

-- the text of a definition; the last case is that of the other definitions of words
abbrev pub HasTreeText : Custom → Tree → List ℕ → Type 0
HasTreeText custom (File bytes) text = text ≡ bytes
HasTreeText custom (Regex tracks expression) text = IsTrackText custom tracks expression text
HasTreeText custom (Formula variables formula bindings) text = IsFormulaText custom bindings variables formula text
HasTreeText custom (Fixed rules) text = IsFixedText custom rules text
HasTreeText custom (Language sets op trees) text = IsLanguageText sets (λ word. tree_words custom (Language sets op trees) word) text
HasTreeText custom tree text = IsWordText custom (word_direction tree) (word_systems tree) (λ ns letter. tree_letter custom tree ns letter) text

-- the text of an entry
abbrev pub HasText : Custom → Entry → List ℕ → Type 0
HasText custom (Bytes bytes) text = text ≡ bytes
HasText custom (Defined tree) text = HasTreeText custom tree text

-- the text of an entry that may be in the folder
abbrev pub HasTextIn : Custom → Folder → Entry → List ℕ → Type 0
HasTextIn custom folder entry text = MayBeIn folder (tree_of entry) × HasText custom entry text

-- a text where there is an entry, and no other
abbrev pub HasTextAt : Custom → Folder → Option Entry → Option (List ℕ) → Type 0
HasTextAt custom folder None None = ⊤
HasTextAt custom folder None (Some text) = ⊥
HasTextAt custom folder (Some entry) None = ⊥
HasTextAt custom folder (Some entry) (Some text) = HasTextIn custom folder entry text

-- the files are the texts of the ledger, name by name
abbrev pub Stores : Ledger → Files → Type 0
Stores ledger files = (folder : _) (name : List ℕ) → HasTextAt (custom_of ledger) folder (ledger folder name) (files folder name)
