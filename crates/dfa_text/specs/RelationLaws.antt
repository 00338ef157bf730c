-- What the text of an automaton says of its language.
use Rattle.std.specs.Prelude.{◌≡◌, ◌↔◌, ℕ, ℤ, List, IsTrue}
use Rattle.digit_tuple.specs.Deterministic.{Automaton, IsTable, letters_of, accepts_of}
use Rattle.digit_tuple.specs.Sets.{sizes_of}
use Rattle.digit_tuple.specs.Tuples.{Codes}
use Rattle.digit_tuple.specs.declared.header.Header.{Header}
use Rattle.digit_tuple.specs.declared.header.Header.TheVariants.{Sets}
use Rattle.minimise.specs.Canonical.{IsCanonical}
use Rattle.minimise.specs.Residuals.{SameLanguage}
use Rattle.dfa_text.specs.Meaning.{FileAccepts, AreTrackSets}
use Rattle.dfa_text.specs.RelationText.{relation_text}

-- an automaton over these sets
pub record IsAutomatonOver (sets : List (List ℤ)) (d : Automaton) : Type 0 where
  pub tracks : AreTrackSets sets
  pub sizes : d.sizes ≡ sizes_of sets
  pub table : IsTable (letters_of d) d.states

-- the text accepts a word of tuples if and only if the automaton accepts the word of their letters
abbrev pub TextAcceptsWords : Type 0
TextAcceptsWords = (sets : List (List ℤ)) (d : Automaton) → IsAutomatonOver sets d → (word : List (List ℤ)) (letters : List ℕ) → Codes sets word letters → FileAccepts (relation_text (Sets sets) d) word ↔ IsTrue (accepts_of d letters)

-- and no word that has no letters
abbrev pub TextAcceptsOnlyCodes : Type 0
TextAcceptsOnlyCodes = (sets : List (List ℤ)) (d : Automaton) → IsAutomatonOver sets d → (word : List (List ℤ)) → FileAccepts (relation_text (Sets sets) d) word → (letters : List ℕ) × Codes sets word letters

-- canonical automata with one language have one text over a header
abbrev pub EqualLanguagesHaveEqualTexts : Type 0
EqualLanguagesHaveEqualTexts = (header : Header) (d e : Automaton) → IsCanonical d → IsCanonical e → d.sizes ≡ e.sizes → SameLanguage d e → relation_text header d ≡ relation_text header e

-- automata over sets with one text have the same sets and one language
abbrev pub EqualTextsHaveEqualLanguages : Type 0
EqualTextsHaveEqualLanguages = (sets others : List (List ℤ)) (d e : Automaton) → IsAutomatonOver sets d → IsAutomatonOver others e → relation_text (Sets sets) d ≡ relation_text (Sets others) e → (sets ≡ others) × SameLanguage d e
