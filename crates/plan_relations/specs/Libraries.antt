-- What names mean while a formula is decided: relations, automatic words, and numeration systems.
use Rattle.std.specs.Prelude.{◌≡◌, ℕ, List, [], ◌∷◌, ◌++◌, Option, None, Some, if◌then◌else◌}
use Rattle.std.specs.List.{AllByRecursion}
use Rattle.std.specs.Str.{bytes_eq}
use Rattle.formula_truth.specs.Truth.{Meanings}
use Rattle.num_system.specs.Sealed.{SystemValue}
use Rattle.named_systems.specs.NamedSystems.{NamedSystem, system_named, AreSealed}
use Rattle.number_relations.specs.Relations.{RelationValue, IsRelation, RelationHolds}
use Rattle.word_output.specs.Words.{WordValue, IsWordValue, HasLetter}

pub record NamedRelation : Type 0 where
  pub name : List ℕ
  pub relation : RelationValue

pub record NamedWord : Type 0 where
  pub name : List ℕ
  pub word : WordValue

-- what was read: the relations of automata, and words
pub record ReadValue : Type 0 where
  pub relations : List NamedRelation
  pub words : List NamedWord

pub record LibraryValue : Type 0 where
  pub relations : List NamedRelation
  pub words : List NamedWord
  pub systems : List NamedSystem

-- with one more after the others
abbrev pub with_relation : List NamedRelation → List ℕ → RelationValue → List NamedRelation
with_relation rs name r = rs ++ record { name = name; relation = r } ∷ []

abbrev pub with_word : List NamedWord → List ℕ → WordValue → List NamedWord
with_word ws name w = ws ++ record { name = name; word = w } ∷ []

-- the first of a name
abbrev pub relation_named : List NamedRelation → List ℕ → Option RelationValue
relation_named [] name = None
relation_named (r ∷ rs) name = if bytes_eq r.name name then Some r.relation else relation_named rs name

abbrev pub word_named : List NamedWord → List ℕ → Option WordValue
word_named [] name = None
word_named (w ∷ ws) name = if bytes_eq w.name name then Some w.word else word_named ws name

abbrev pub IsRelationIn : LibraryValue → List ℕ → RelationValue → Type 0
IsRelationIn library name r = relation_named library.relations name ≡ Some r

abbrev pub IsWordIn : LibraryValue → List ℕ → WordValue → Type 0
IsWordIn library name w = word_named library.words name ≡ Some w

abbrev pub IsSystemIn : LibraryValue → List ℕ → SystemValue → Type 0
IsSystemIn library name s = system_named library.systems name ≡ Some s

abbrev pub AreRelations : List NamedRelation → Type 0
AreRelations rs = AllByRecursion (λ (r : NamedRelation). IsRelation r.relation) rs

abbrev pub AreWords : List NamedWord → Type 0
AreWords ws = AllByRecursion (λ (w : NamedWord). IsWordValue w.word) ws

-- all relations are relations, and all words are words
pub record IsRead (read : ReadValue) : Type 0 where
  pub relations : AreRelations read.relations
  pub words : AreWords read.words

-- and all systems are sealed
pub record IsLibrary (library : LibraryValue) : Type 0 where
  pub relations : AreRelations library.relations
  pub words : AreWords library.words
  pub systems : AreSealed library.systems

-- what names mean: an automaton's name the relation of that name, and a word's name the word of that name
abbrev pub meanings_of : LibraryValue → Meanings
meanings_of library = record {
  holds_of = λ name ns. (r : RelationValue) × IsRelationIn library name r × RelationHolds r ns;
  has_letter = λ name ns b. (w : WordValue) × IsWordIn library name w × HasLetter w ns b;
}
