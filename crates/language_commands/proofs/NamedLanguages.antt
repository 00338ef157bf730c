-- The languages under names have the words of the definitions that the names mean.
use Rattle.std.proofs.Common.{◌≡◌, ℕ, ℤ, Bool, true, false, cond, List, [], ◌∷◌, Option, None, Some, Ok, bytes_eq, inl, inr, refl, sym, ap, ◌∙◌, subst}
use Rattle.std.specs.List.{All, AllByRecursion}
use Rattle.std.proofs.lemmas.Slice.Eq.{bytes_eq-Decides}
use Rattle.wal_outside.specs.Files.{Files}
use Rattle.wal_outside.specs.declared.folder.Folder.TheVariants.{Automata}
use Rattle.digit_tuple.specs.Deterministic as deterministic
use Rattle.digit_tuple.specs.Sets.{IsAscending}
use Rattle.digit_tuple.specs.Steps.{StepLog}
use Rattle.automaton_steps.proofs.ThenAnswers.{equal_value, no_fault}
use Rattle.dfa_text.specs.Meaning.{FileAccepts}
use Rattle.dfa_loading.specs.Loading.{AreListedBy}
use Rattle.dfa_loading.specs.Places.{IsListedBy, place_of}
use Rattle.dfa_loading.specs.declared.loaded.Loaded.{Loaded}
use Rattle.formula_resolve.specs.declared.file.File.{File}
use Rattle.formula_resolve.specs.declared.file.File.TheVariants.{Automaton, Word}
use Rattle.definitions.specs.Laws.{LanguageTextsMeanTheirTrees}
use Rattle.definitions.specs.Texts.{HasText, HasTextAt, HasTreeText, Stores}
use Rattle.definitions.specs.TreeMeanings.{tree_words}
use Rattle.definitions.specs.Trees.{Trees, MayBeIn, Entry, Bytes, Defined, Ledger, tree_of, custom_of, with_tree, trees_of}
use Rattle.system_files.specs.SystemFiles.{Custom}
use Rattle.language_steps.specs.LanguageSteps.{DoesPlainTable, DoesReads, language_named, languages_named, named_language, with_language}
use Rattle.language_steps.specs.Operands.{HasCount, HasLanguage}
use Rattle.language_steps.specs.Tables.{IsOverSets, table_name}
use Rattle.language_steps.specs.declared.op.LanguageOp.{LanguageOp}
use Rattle.language_steps.specs.declared.op.LanguageOp.TheVariants.{Pair, One}
use Rattle.language_steps.specs.declared.reading.NamedLanguage.{NamedLanguage}
use Rattle.language_steps.proofs.Coded.{IsOf, of_same}
use Rattle.language_steps.proofs.TableWords.{table_words}
use Rattle.language_commands.proofs.LanguageWords.{AreOf, IsAlone}

-- the file of an automaton
abbrev pub IsAutomaton : File → Type 0
IsAutomaton (Automaton name) = Unit {0}
IsAutomaton (Word name) = ⊥

-- an entry's text is that of its definition
entry_text : (custom : Custom) (entry : Entry) (text : List ℕ) → HasText custom entry text → HasTreeText custom (tree_of entry) text
entry_text custom (Bytes bytes) text has = has
entry_text custom (Defined tree) text has = has

-- the entry of a text
record HasEntry (custom : Custom) (found : Option Entry) (text : List ℕ) : Type 0 where
  entry : Entry
  there : found ≡ Some entry
  may : MayBeIn Automata (tree_of entry)
  text_is : HasTreeText custom (tree_of entry) text

entry_of : (custom : Custom) (found : Option Entry) (bytes : Option (List ℕ)) (text : List ℕ) → HasTextAt custom Automata found bytes → bytes ≡ Some text → HasEntry custom found text
entry_of custom None None text at is = let no : None ≡ Some text = is in absurd (cc)
entry_of custom None (Some other) text at is = absurd at
entry_of custom (Some entry) None text at is = absurd at
entry_of custom (Some entry) (Some other) text at is =
    let same : other ≡ text = let e : Some other ≡ Some text = is in cc in
    record { entry = entry; there = refl; may = at.0; text_is = subst (HasTreeText custom (tree_of entry)) same (entry_text custom entry other at.1) }

module _ (sets : List (List ℤ)) (files : Files) where
  -- a language of what a text lists that is among automata under its name
  pub record IsOfText (name : List ℕ) (d : deterministic.Automaton) : Type 0 where
    pub text : List ℕ
    pub there : files Automata name ≡ Some text
    pub words : IsOf sets (λ word. FileAccepts text word) d

  abbrev AreOfTexts : List NamedLanguage → Type 0
  AreOfTexts languages = AllByRecursion (λ (l : NamedLanguage). IsOfText l.name l.language) languages

  -- the language of a table
  of_table : (file : File) (table : Loaded) (d : deterministic.Automaton) (old new : StepLog) → IsListedBy files file table → IsAutomaton file → IsOverSets sets table → DoesPlainTable table.listed old (Ok d) new → IsOfText (table_name table) d
  of_table (Word name) table d old new listed is over does = absurd is
  of_table (Automaton name) table d old new listed is over does =
      let at : table_name table ≡ name = ap (λ (f : File). (place_of f).1) listed.lists.file_is in
      record { text = listed.text; there = ap (files Automata) at ∙ listed.there; words = table_words sets listed.text table.listed listed.lists.lists over d old new does }

  -- those of all tables
  reads_of_texts : (named : List File) (tables : List Loaded) (languages : List NamedLanguage) (old new : StepLog) → AreListedBy files named tables → AllByRecursion IsAutomaton named → AllByRecursion (IsOverSets sets) tables → DoesReads tables old (Ok languages) new → AreOfTexts languages
  reads_of_texts [] [] languages old new listed are over (is, same) = subst AreOfTexts (sym (equal_value languages [] is)) tt
  reads_of_texts [] (table ∷ tables) languages old new listed are over does = absurd listed
  reads_of_texts (file ∷ named) [] languages old new listed are over does = absurd listed
  reads_of_texts (file ∷ named) (table ∷ tables) languages old new listed are over (inr (fault, failed, is)) = absurd (no_fault languages fault is)
  reads_of_texts (file ∷ named) (table ∷ tables) languages old new listed are over (inl (d, mid, done, inr (fault, failed, is))) = absurd (no_fault languages fault is)
  reads_of_texts (file ∷ named) (table ∷ tables) languages old new listed are over (inl (d, mid, done, inl (others, late, reads, (is, same)))) =
      subst AreOfTexts (sym (equal_value languages (named_language table d ∷ others) is))
      (of_table file table d old mid listed.0 are.0 over.0 done, reads_of_texts named tables others mid late listed.1 are.1 over.1 reads)

  -- that of a name
  found_of : (languages : List NamedLanguage) (name : List ℕ) (d : deterministic.Automaton) → AreOfTexts languages → language_named languages name ≡ Some d → IsOfText name d
  found_of [] name d all is = let no : None ≡ Some d = is in absurd (cc)
  found_of (l ∷ languages) name d all is = by (bytes_eq l.name name) refl is (λ later. found_of languages name d all.1 later)
    where
      by : (b : Bool) → bytes_eq l.name name ≡ b → cond b (Some l.language) (language_named languages name) ≡ Some d → (language_named languages name ≡ Some d → IsOfText name d) → IsOfText name d
      by true same found rest =
          let own : l.language ≡ d = let e : Some l.language ≡ Some d = found in cc in
          let at : l.name ≡ name = (bytes_eq-Decides l.name name).0 same in
          subst (IsOfText name) own (subst (λ (n : List ℕ). IsOfText n l.language) at all.0)
      by false apart found rest = rest found

-- a star and a reversal are of one language
pub named_alone : (op : LanguageOp) (languages : List NamedLanguage) (names : List (List ℕ)) → HasCount op names → AllByRecursion (HasLanguage languages) names → (custom : Custom) (sets : List (List ℤ)) (up : All IsAscending sets) → IsAlone custom sets up op (languages_named languages names)
named_alone (Pair op) languages names count all custom sets up = tt
named_alone (One op) languages [] (name, is) all custom sets up = let no : [] ≡ name ∷ [] = is in absurd (cc)
named_alone (One op) languages (first ∷ []) (name, is) all custom sets up = (all.0.0, ap (λ (o : Option deterministic.Automaton). with_language o []) all.0.1)
named_alone (One op) languages (first ∷ second ∷ names) (name, is) all custom sets up = let no : (second ∷ names) ≡ [] = cc in absurd (cc)

module _ (law : LanguageTextsMeanTheirTrees) (ledger : Ledger) (files : Files) (stores : Stores ledger files) (sets : List (List ℤ)) (up : All IsAscending sets) where
  -- a language under a name has the words of the definition that the name means
  one_of : (found : Option deterministic.Automaton) (entry : Option Entry) (d : deterministic.Automaton) (text : List ℕ) (ds : List deterministic.Automaton) (trees : Trees) → found ≡ Some d → HasEntry (custom_of ledger) entry text → IsOf sets (λ word. FileAccepts text word) d
      → AreOf (custom_of ledger) sets up ds trees → AreOf (custom_of ledger) sets up (with_language found ds) (with_tree entry trees)
  one_of None entry d text ds trees is has words are = let no : None ≡ Some d = is in absurd (cc)
  one_of (Some other) None d text ds trees is has words are = let no : None ≡ Some has.entry = has.there in absurd (cc)
  one_of (Some other) (Some entry) d text ds trees is has words are =
      let own : d ≡ other = let e : Some other ≡ Some d = is in cc in
      let at : has.entry ≡ entry = let e : Some entry ≡ Some has.entry = has.there in cc in
      let means = λ (word : List (List ℤ)). law (custom_of ledger) (tree_of has.entry) text has.may has.text_is word in
      let mine : IsOf sets (λ word. tree_words (custom_of ledger) (tree_of has.entry) word) d =
      of_same sets (λ word. FileAccepts text word) (λ word. tree_words (custom_of ledger) (tree_of has.entry) word) d (λ word accepts. (means word).0 accepts) (λ word in_tree. (means word).1 in_tree) words in
      let there : IsOf sets (λ word. tree_words (custom_of ledger) (tree_of entry) word) d = subst (λ (x : Entry). IsOf sets (λ word. tree_words (custom_of ledger) (tree_of x) word) d) at mine in
      (subst (IsOf sets (λ word. tree_words (custom_of ledger) (tree_of entry) word)) own there, are)

  pub named_of : (languages : List NamedLanguage) (names : List (List ℕ)) → AllByRecursion (λ (l : NamedLanguage). IsOfText sets files l.name l.language) languages → AllByRecursion (HasLanguage languages) names
      → AreOf (custom_of ledger) sets up (languages_named languages names) (trees_of ledger names)
  named_of languages [] all has = tt
  named_of languages (name ∷ names) all has =
      let own : IsOfText sets files name has.0.0 = found_of sets files languages name has.0.0 all has.0.1 in
      one_of (language_named languages name) (ledger Automata name) has.0.0 own.text (languages_named languages names) (trees_of ledger names) has.0.1
      (entry_of (custom_of ledger) (ledger Automata name) (files Automata name) own.text (stores Automata name) own.there) own.words (named_of languages names all has.1)

  pub reads_are_of : (named : List File) (tables : List Loaded) (languages : List NamedLanguage) (old new : StepLog) → AreListedBy files named tables → AllByRecursion IsAutomaton named → AllByRecursion (IsOverSets sets) tables → DoesReads tables old (Ok languages) new
      → AllByRecursion (λ (l : NamedLanguage). IsOfText sets files l.name l.language) languages
  reads_are_of named tables languages old new listed are over does = reads_of_texts sets files named tables languages old new listed are over does
