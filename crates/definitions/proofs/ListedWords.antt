-- The words that automata list are those that definitions list.
use Rattle.std.proofs.Common.{◌≡◌, ◌↔◌, ℕ, ◌≤◌, ℤ, true, List, [], ◌∷◌, length, None, Some, refl, sym, subst, arith, IsTrue}
use Rattle.std.proofs.lemmas.Bool.{and_from, and_parts}
use Rattle.digit_tuple.specs.Deterministic.{Automaton, IsTable, accepts_of, letters_of}
use Rattle.digit_tuple.specs.Letters.{IsWord, product}
use Rattle.digit_tuple.specs.Paddings.{in_order}
use Rattle.digit_tuple.specs.Sets.{sizes_of}
use Rattle.digit_tuple.specs.Tuples.{Codes}
use Rattle.digit_tuple.specs.declared.direction.Direction.{Direction}
use Rattle.digit_tuple.proofs.AcceptedLemmas.{accepted_over}
use Rattle.digit_tuple.proofs.TupleLemmas.{tuples_from_word}
use Rattle.num_system.specs.Tracks.{systems_of, direction_of}
use Rattle.num_system.proofs.SealedLemmas.{are_systems}
use Rattle.number_relations.specs.Relations.{RelationValue, IsRelation, RelationHolds}
use Rattle.numeration.specs.Representation.{Represents, letters_in}
use Rattle.numeration.specs.Systems.{System}
use Rattle.numeration.specs.Words.{is_plain}
use Rattle.word_walk.specs.Listed.{is_listed}
use Rattle.definitions.specs.Tracks.{OverSets, OverSystems}
use Rattle.definitions.specs.TreeMeanings.{tree_holds, tree_words}
use Rattle.definitions.specs.Listings.{ListsNumbers, ListsTuples}
use Rattle.definitions.specs.ListingLaws.{AutomataListTheirWords, RelationsListShortestWords, SentencesListTheEmptyWord, TextsListAsTheirTrees}
use Rattle.definitions.proofs.LanguageMeanings.{language_text_means}
use Rattle.definitions.proofs.ShortestWords.{plain_shortest, shortest_plain}
use Rattle.definitions.proofs.TextMeanings.{text_means}

-- the automaton of a relation that holds of the same numbers
module _ (holds : List ℕ → Type 0) (r : RelationValue) (is : IsRelation r) (same : (ns : List ℕ) → RelationHolds r ns ↔ holds ns) (w : List ℕ) where
  abbrev direction : Direction
  direction = direction_of r.systems

  abbrev ss : List System
  ss = systems_of r.systems

  there : IsTrue (is_listed r.automaton (Some direction) w) → ListsNumbers direction ss holds w
  there listed =
      let parts = and_parts (accepts_of r.automaton w) (is_plain (in_order direction w)) listed in
      let over : IsWord (letters_in ss) w = subst (λ (sizes : List ℕ). IsWord (product sizes) w) is.closed.sizes (accepted_over r.automaton w is.tracked.canonical.table parts.0) in
      let found = (is.closed.accepts w over).0 parts.0 in
      (found.0, (same found.0).0 found.2, plain_shortest direction ss found.0 w (are_systems r.systems is.sealed) over found.1 parts.1)

  back : ListsNumbers direction ss holds w → IsTrue (is_listed r.automaton (Some direction) w)
  back (ns, held, shortest) =
      and_from (accepts_of r.automaton w) (is_plain (in_order direction w)) ((is.closed.accepts w shortest.over).1 (ns, shortest.represents, (same ns).1 held))
      (shortest_plain direction ss ns w (are_systems r.systems is.sealed) shortest.over shortest.represents shortest)

pub relations_list : RelationsListShortestWords
relations_list custom tree r is same w = (there (λ ns. tree_holds custom tree ns) r is same w, back (λ ns. tree_holds custom tree ns) r is same w)

-- an automaton over sets that accepts the words of a language
module _ (sets : List (List ℤ)) (InLanguage : List (List ℤ) → Type 0) (d : Automaton) (sizes : d.sizes ≡ sizes_of sets) (table : IsTable (letters_of d) d.states)
    (says : (tuples : List (List ℤ)) (w : List ℕ) → Codes sets tuples w → IsTrue (accepts_of d w) ↔ InLanguage tuples) (w : List ℕ) where
  tuples_listed : IsTrue (is_listed d None w) → ListsTuples sets InLanguage w
  tuples_listed listed =
      let parts = and_parts (accepts_of d w) true listed in
      let over : IsWord (product (sizes_of sets)) w = subst (λ (s : List ℕ). IsWord (product s) w) sizes (accepted_over d w table parts.0) in
      let found = tuples_from_word sets w over in
      (found.0, (says found.0 w found.1).0 parts.0, found.1)

  listed_tuples : ListsTuples sets InLanguage w → IsTrue (is_listed d None w)
  listed_tuples (tuples, within, codes) = and_from (accepts_of d w) true ((says tuples w codes).1 within) refl

pub automata_list : AutomataListTheirWords
automata_list custom tree sets d sizes table says w = (tuples_listed sets (λ tuples. tree_words custom tree tuples) d sizes table says w, listed_tuples sets (λ tuples. tree_words custom tree tuples) d sizes table says w)

pub texts_list : TextsListAsTheirTrees
texts_list custom tree text may is (OverSets sets) w =
    (λ h. (h.0, (language_text_means custom tree text may is h.0).0 h.1, h.2), λ h. (h.0, (language_text_means custom tree text may is h.0).1 h.1, h.2))
texts_list custom tree text may is (OverSystems _ named) w =
    (λ h. (h.0, (text_means custom tree text may is h.0).0 h.1, h.2), λ h. (h.0, (text_means custom tree text may is h.0).1 h.1, h.2))

-- a word of no letters
empty_word : (w : List ℕ) → length w ≤ 0 → w ≡ []
empty_word [] short = refl
empty_word (a ∷ w) short = absurd (omega (arith, short))

no_numbers : (w ns : List ℕ) → Represents [] w ns → ns ≡ []
no_numbers w [] represents = refl
no_numbers w (n ∷ ns) represents = absurd represents

module _ (holds : List ℕ → Type 0) (direction : Direction) (w : List ℕ) where
  only_empty : ListsNumbers direction [] holds w → (w ≡ []) × holds []
  only_empty (ns, held, shortest) =
      let none : ns ≡ [] = no_numbers (in_order direction w) ns shortest.represents in
      let same : Represents [] (in_order direction []) ns = subst (λ (ms : List ℕ). Represents [] (in_order direction []) ms) (sym none) tt in
      (empty_word w (shortest.least [] tt same), subst holds none held)

  empty_listed : (w ≡ []) × holds [] → ListsNumbers direction [] holds w
  empty_listed (empty, held) = subst (λ (v : List ℕ). ListsNumbers direction [] holds v) (sym empty) ([], held, record { over = tt; represents = tt; least = λ v over represents. omega arith })

pub sentences_list : SentencesListTheEmptyWord
sentences_list custom tree direction w = (only_empty (λ ns. tree_holds custom tree ns) direction w, empty_listed (λ ns. tree_holds custom tree ns) direction w)
