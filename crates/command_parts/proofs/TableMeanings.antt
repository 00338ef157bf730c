-- The names of a formula mean the same in its library and by the definitions of the ledger.
use Rattle.std.proofs.Common.{◌≡◌, ◌≢◌, ◌↔◌, inl, inr, ℕ, ℤ, Bool, true, false, List, [], ◌∷◌, Option, None, Some, if◌then◌else◌, bytes_eq, refl, sym, ap, ◌∙◌, subst}
use Rattle.std.proofs.lemmas.Option.{none-some}
use Rattle.std.proofs.lemmas.Slice.Eq.{bytes_eq-Decides}
use Rattle.digit_tuple.specs.Steps.{StepLog}
use Rattle.wal_outside.specs.Files.{Files}
use Rattle.wal_outside.specs.declared.folder.Folder.{Folder}
use Rattle.wal_outside.specs.declared.folder.Folder.TheVariants.{Automata, Words}
use Rattle.dfa_loading.specs.Loading.{AreListedBy}
use Rattle.dfa_loading.specs.Places.{IsListedBy}
use Rattle.dfa_loading.specs.declared.loaded.Loaded.{Loaded}
use Rattle.number_relations.specs.Relations.{RelationValue, RelationHolds}
use Rattle.word_output.specs.Words.{WordValue, HasLetter}
use Rattle.formula_resolve.specs.FirstMentions.{IsOnce}
use Rattle.formula_resolve.specs.declared.file.File.{File}
use Rattle.formula_resolve.specs.declared.file.File.TheVariants.{Automaton, Word}
use Rattle.formula_truth.proofs.MeaningLemmas.{MeanTheSame}
use Rattle.plan_relations.specs.Libraries.{NamedRelation, NamedWord, relation_named, word_named, meanings_of}
use Rattle.named_systems.specs.NamedSystems.{NamedSystem, AreSealed}
use Rattle.definitions.specs.Laws.{TextsMeanTheirTrees, WordTextsMeanTheirTrees}
use Rattle.definitions.specs.TableLaws.{TablesHold}
use Rattle.definitions.specs.Texts.{HasTreeText, HasText, HasTextIn, HasTextAt, Stores}
use Rattle.definitions.specs.TreeMeanings.{tree_holds, bound_holds, tree_letter, bound_letter, meanings_in}
use Rattle.definitions.specs.Trees.{Tree, Entry, Bytes, Defined, Ledger, Bindings, unbound, tree_of, bindings_of, custom_of}
use Rattle.definitions.specs.WordLaws.{WordsHaveFileLetters}
use Rattle.system_files.specs.SystemFiles.{Custom}
use Rattle.command_parts.specs.FormulaSteps.{AreMeant}
use Rattle.command_parts.specs.TableReads.{TableRead, ARelation, AWord, relations_in, words_in, library_with, IsTableRead, IsRelationRead, IsWordRead, AreTablesRead}
use Rattle.command_parts.specs.TableReading.{IsReadable, AreReadable}
use Rattle.command_parts.proofs.BoundFiles.{file_of, AreMeantAs, AreUnlike, are_unlike, bound_there, bound_back}
use Rattle.command_parts.proofs.TableRelations.{relation_holds}
use Rattle.command_parts.proofs.TableWords.{word_letters}

-- the text of an entry is that of its definition
pub tree_text : (custom : Custom) (entry : Entry) (text : List ℕ) → HasText custom entry text → HasTreeText custom (tree_of entry) text
tree_text custom (Bytes bytes) text has = has
tree_text custom (Defined tree) text has = has

-- where there is a text there is an entry
pub entry_there : (custom : Custom) (folder : Folder) (entry : Option Entry) (text : Option (List ℕ)) (bytes : List ℕ) → HasTextAt custom folder entry text → text ≡ Some bytes → (e : Entry) × (entry ≡ Some e) × HasTextIn custom folder e bytes
entry_there custom folder None None bytes has is = absurd (none-some bytes is)
entry_there custom folder None (Some text) bytes has is = absurd has
entry_there custom folder (Some e) None bytes has is = absurd has
entry_there custom folder (Some e) (Some text) bytes has is = (e, refl, subst (HasTextIn custom folder e) same has)
  where
    same : text ≡ bytes
    same = cc

-- what is under the name holds of the numbers of which the relation does
pub record HoldsAs (ledger : Ledger) (name : List ℕ) (r : RelationValue) : Type 0 where
  pub entry : Entry
  pub there : ledger Automata name ≡ Some entry
  pub same : (ns : List ℕ) → RelationHolds r ns ↔ tree_holds (custom_of ledger) (tree_of entry) ns

-- what is under the name has the letters that the word has
pub record HasLettersAs (ledger : Ledger) (name : List ℕ) (w : WordValue) : Type 0 where
  pub entry : Entry
  pub there : ledger Words name ≡ Some entry
  pub same : (ns : List ℕ) (letter : ℤ) → HasLetter w ns letter ↔ tree_letter (custom_of ledger) (tree_of entry) ns letter

-- what was read means the same as what the ledger has under its name
abbrev pub MeansAs : Ledger → TableRead → Type 0
MeansAs ledger (ARelation r) = HoldsAs ledger r.name r.relation
MeansAs ledger (AWord w) = HasLettersAs ledger w.name w.word

-- the names of the same kind of file are the same
automata_same : (m n : List ℕ) → Automaton m ≡ Automaton n → m ≡ n
automata_same m n same = cc

words_same : (m n : List ℕ) → Word m ≡ Word n → m ≡ n
words_same m n same = cc

module _ (ledger : Ledger) (name ns : List ℕ) where
  -- the numbers of which an automaton's name holds by these bindings
  abbrev IsBoundTo : Bindings → Type 0
  IsBoundTo bindings = bound_holds (custom_of ledger) bindings Automata name ns

  abbrev TreeHolds : Tree → Type 0
  TreeHolds tree = tree_holds (custom_of ledger) tree ns

  -- the numbers of which the relation of this name holds
  abbrev NamedHolds : List TableRead → Type 0
  NamedHolds reads = (r : RelationValue) × (relation_named (relations_in reads) name ≡ Some r) × RelationHolds r ns

  relation_none : NamedHolds [] → ⊥
  relation_none (v, is, holds) = none-some v is

  relation_first : (r : TableRead) (reads : List TableRead) → file_of r ≡ Automaton name → MeansAs ledger r → (entry : Entry) × (ledger Automata name ≡ Some entry) × (NamedHolds (r ∷ reads) ↔ TreeHolds (tree_of entry))
  relation_first (AWord w) reads same like = absurd (cc)
  relation_first (ARelation r) reads same like = (like.entry, ap (ledger Automata) (sym own) ∙ like.there, (there, back))
    where
      own : r.name ≡ name
      own = automata_same r.name name same

      found : relation_named (r ∷ relations_in reads) name ≡ Some r.relation
      found = ap (λ (c : Bool). if c then Some r.relation else relation_named (relations_in reads) name) ((bytes_eq-Decides r.name name).1 own)

      there : NamedHolds (ARelation r ∷ reads) → TreeHolds (tree_of like.entry)
      there (v, is, holds) =
          let one : v ≡ r.relation = let e : Some v ≡ Some r.relation = sym is ∙ found in cc in
          (like.same ns).0 (subst (λ (x : RelationValue). RelationHolds x ns) one holds)

      back : TreeHolds (tree_of like.entry) → NamedHolds (ARelation r ∷ reads)
      back holds = (r.relation, found, (like.same ns).1 holds)

  relation_other : (r : TableRead) (reads : List TableRead) → file_of r ≢ Automaton name → NamedHolds (r ∷ reads) ↔ NamedHolds reads
  relation_other (AWord w) reads apart = (λ h. h, λ h. h)
  relation_other (ARelation r) reads apart = by (bytes_eq r.name name) refl
    where
      by : (b : Bool) → bytes_eq r.name name ≡ b → NamedHolds (ARelation r ∷ reads) ↔ NamedHolds reads
      by true same = absurd (apart (ap Automaton ((bytes_eq-Decides r.name name).0 same)))
      by false other =
          let skipped : relation_named (r ∷ relations_in reads) name ≡ relation_named (relations_in reads) name = ap (λ (c : Bool). if c then Some r.relation else relation_named (relations_in reads) name) other in
          (λ (h : NamedHolds (ARelation r ∷ reads)). (h.0, sym skipped ∙ h.1, h.2), λ (h : NamedHolds reads). (h.0, skipped ∙ h.1, h.2))

  module _ (named : List File) (reads : List TableRead) (apart : AreUnlike named) (like : AreMeantAs (MeansAs ledger) named reads) where
    -- the relation of the name holds of the numbers of which what the name is bound to does
    holds_bound : NamedHolds reads → IsBoundTo (bindings_of ledger named)
    holds_bound holds = bound_there ledger (Automaton name) IsBoundTo TreeHolds (λ bindings at under tree. refl) (MeansAs ledger) NamedHolds relation_none relation_first relation_other named reads unbound apart like holds

    bound_held : IsBoundTo (bindings_of ledger named) → NamedHolds reads
    bound_held holds = elim (bound_back ledger (Automaton name) IsBoundTo TreeHolds (λ bindings at under tree. refl) (MeansAs ledger) NamedHolds relation_none relation_first relation_other named reads unbound apart like holds) [ inl found ↦ found | inr none ↦ absurd none ]

module _ (ledger : Ledger) (name ns : List ℕ) (letter : ℤ) where
  -- the letter that a word's name has by these bindings
  abbrev IsLettered : Bindings → Type 0
  IsLettered bindings = bound_letter (custom_of ledger) bindings Words name ns letter

  abbrev TreeLetter : Tree → Type 0
  TreeLetter tree = tree_letter (custom_of ledger) tree ns letter

  -- the letter of the word of this name
  abbrev NamedLetter : List TableRead → Type 0
  NamedLetter reads = (w : WordValue) × (word_named (words_in reads) name ≡ Some w) × HasLetter w ns letter

  word_none : NamedLetter [] → ⊥
  word_none (v, is, has) = none-some v is

  word_first : (r : TableRead) (reads : List TableRead) → file_of r ≡ Word name → MeansAs ledger r → (entry : Entry) × (ledger Words name ≡ Some entry) × (NamedLetter (r ∷ reads) ↔ TreeLetter (tree_of entry))
  word_first (ARelation r) reads same like = absurd (cc)
  word_first (AWord w) reads same like = (like.entry, ap (ledger Words) (sym own) ∙ like.there, (there, back))
    where
      own : w.name ≡ name
      own = words_same w.name name same

      found : word_named (w ∷ words_in reads) name ≡ Some w.word
      found = ap (λ (c : Bool). if c then Some w.word else word_named (words_in reads) name) ((bytes_eq-Decides w.name name).1 own)

      there : NamedLetter (AWord w ∷ reads) → TreeLetter (tree_of like.entry)
      there (v, is, has) =
          let one : v ≡ w.word = let e : Some v ≡ Some w.word = sym is ∙ found in cc in
          (like.same ns letter).0 (subst (λ (x : WordValue). HasLetter x ns letter) one has)

      back : TreeLetter (tree_of like.entry) → NamedLetter (AWord w ∷ reads)
      back has = (w.word, found, (like.same ns letter).1 has)

  word_other : (r : TableRead) (reads : List TableRead) → file_of r ≢ Word name → NamedLetter (r ∷ reads) ↔ NamedLetter reads
  word_other (ARelation r) reads apart = (λ h. h, λ h. h)
  word_other (AWord w) reads apart = by (bytes_eq w.name name) refl
    where
      by : (b : Bool) → bytes_eq w.name name ≡ b → NamedLetter (AWord w ∷ reads) ↔ NamedLetter reads
      by true same = absurd (apart (ap Word ((bytes_eq-Decides w.name name).0 same)))
      by false other =
          let skipped : word_named (w ∷ words_in reads) name ≡ word_named (words_in reads) name = ap (λ (c : Bool). if c then Some w.word else word_named (words_in reads) name) other in
          (λ (h : NamedLetter (AWord w ∷ reads)). (h.0, sym skipped ∙ h.1, h.2), λ (h : NamedLetter reads). (h.0, skipped ∙ h.1, h.2))

  module _ (named : List File) (reads : List TableRead) (apart : AreUnlike named) (like : AreMeantAs (MeansAs ledger) named reads) where
    -- the word of the name has the letters that what the name is bound to has
    letter_bound : NamedLetter reads → IsLettered (bindings_of ledger named)
    letter_bound has = bound_there ledger (Word name) IsLettered TreeLetter (λ bindings at under tree. refl) (MeansAs ledger) NamedLetter word_none word_first word_other named reads unbound apart like has

    bound_lettered : IsLettered (bindings_of ledger named) → NamedLetter reads
    bound_lettered has = elim (bound_back ledger (Word name) IsLettered TreeLetter (λ bindings at under tree. refl) (MeansAs ledger) NamedLetter word_none word_first word_other named reads unbound apart like has) [ inl found ↦ found | inr none ↦ absurd none ]

-- the laws of definitions by which what is read of a file means what the file does
pub record MeaningLaws : Type 0 where
  pub texts : TextsMeanTheirTrees
  pub words : WordTextsMeanTheirTrees
  pub tables : TablesHold
  pub letters : WordsHaveFileLetters

module _ (laws : MeaningLaws) (ledger : Ledger) (files : Files) (systems : List NamedSystem) (stores : Stores ledger files) (sealed : AreSealed systems) (are : AreMeant (custom_of ledger) systems) where
  -- a relation that is read of a table holds as what the ledger has under the table's name
  table_holds_as : (table : Loaded) (old new : StepLog) (r : NamedRelation) → IsListedBy files (Automaton r.name) table → IsReadable systems table → IsRelationRead systems old table r new → HoldsAs ledger r.name r.relation
  table_holds_as table old new r listed readable read =
      let found = entry_there (custom_of ledger) Automata (ledger Automata r.name) (files Automata r.name) listed.text (stores Automata r.name) listed.there in
      let holds : (ns : List ℕ) → RelationHolds r.relation ns ↔ tree_holds (custom_of ledger) (tree_of found.0) ns = λ ns.
      let file = relation_holds laws.tables (custom_of ledger) systems sealed are old new table r listed.text listed.lists.lists readable read ns in
      let tree = laws.texts (custom_of ledger) (tree_of found.0) listed.text found.2.0 (tree_text (custom_of ledger) found.0 listed.text found.2.1) ns in
      ((λ h. tree.0 (file.0 h)), (λ h. file.1 (tree.1 h))) in
      record { entry = found.0; there = found.1; same = holds }

  -- a word that is read of a table has the letters of what the ledger has under the table's name
  word_letters_as : (table : Loaded) (old new : StepLog) (w : NamedWord) → IsListedBy files (Word w.name) table → IsReadable systems table → IsWordRead systems old table w new → HasLettersAs ledger w.name w.word
  word_letters_as table old new w listed readable read =
      let found = entry_there (custom_of ledger) Words (ledger Words w.name) (files Words w.name) listed.text (stores Words w.name) listed.there in
      let letters : (ns : List ℕ) (letter : ℤ) → HasLetter w.word ns letter ↔ tree_letter (custom_of ledger) (tree_of found.0) ns letter = λ ns letter.
      let file = word_letters systems sealed old new table w readable read (custom_of ledger) are laws.letters listed.text listed.lists.lists ns letter in
      let tree = laws.words (custom_of ledger) (tree_of found.0) listed.text found.2.0 (tree_text (custom_of ledger) found.0 listed.text found.2.1) ns letter in
      ((λ h. tree.0 (file.0 h)), (λ h. file.1 (tree.1 h))) in
      record { entry = found.0; there = found.1; same = letters }

  file_read : (old new : StepLog) (table : Loaded) (r : TableRead) → IsTableRead systems old table r new → table.file ≡ file_of r
  file_read old new table (ARelation r) read = read.file_is
  file_read old new table (AWord w) read = read.file_is

  means_as : (table : Loaded) (old new : StepLog) (r : TableRead) → IsListedBy files (file_of r) table → IsReadable systems table → IsTableRead systems old table r new → MeansAs ledger r
  means_as table old new (ARelation r) listed readable read = table_holds_as table old new r listed readable read
  means_as table old new (AWord w) listed readable read = word_letters_as table old new w listed readable read

  -- what is read of tables means what the ledger has under their names
  pub tables_mean_as : (named : List File) (tables : List Loaded) (reads : List TableRead) (old new : StepLog) → AreListedBy files named tables → AreReadable systems tables → AreTablesRead systems old tables reads new → AreMeantAs (MeansAs ledger) named reads
  tables_mean_as [] [] [] old new listed readable made = tt
  tables_mean_as [] [] (r ∷ reads) old new listed readable made = absurd made
  tables_mean_as [] (table ∷ tables) reads old new listed readable made = absurd listed
  tables_mean_as (file ∷ named) [] reads old new listed readable made = absurd listed
  tables_mean_as (file ∷ named) (table ∷ tables) [] old new listed readable made = absurd made
  tables_mean_as (file ∷ named) (table ∷ tables) (r ∷ reads) old new listed readable (mid, first, rest) =
      let own : file_of r ≡ file = sym (file_read old mid table r first) ∙ listed.0.lists.file_is in
      (own, means_as table old mid r (subst (λ (f : File). IsListedBy files f table) (sym own) listed.0) readable.0 first, tables_mean_as named tables reads mid new listed.1 readable.1 rest)

  -- so names mean the same in the library of what is read and by the bindings of the files
  pub tables_mean_the_same : (named : List File) (tables : List Loaded) (reads : List TableRead) (old new : StepLog) → IsOnce named
      → AreListedBy files named tables → AreReadable systems tables → AreTablesRead systems old tables reads new → MeanTheSame (meanings_of (library_with reads systems)) (meanings_in (custom_of ledger) (bindings_of ledger named))
  tables_mean_the_same named tables reads old new once listed readable made =
      let apart : AreUnlike named = are_unlike named once in
      let like : AreMeantAs (MeansAs ledger) named reads = tables_mean_as named tables reads old new listed readable made in
      record {
        holds_there = λ name ns holds. holds_bound ledger name ns named reads apart like holds;
        holds_back = λ name ns holds. bound_held ledger name ns named reads apart like holds;
        letter_there = λ name ns letter has. letter_bound ledger name ns letter named reads apart like has;
        letter_back = λ name ns letter has. bound_lettered ledger name ns letter named reads apart like has;
      }

-- a relation that is read holds as what the ledger has under its name
pub named_holds_as : (ledger : Ledger) (named : List File) (reads : List TableRead) → AreMeantAs (MeansAs ledger) named reads → (name : List ℕ) (v : RelationValue) → relation_named (relations_in reads) name ≡ Some v → HoldsAs ledger name v
named_holds_as ledger [] [] like name v is = absurd (none-some v is)
named_holds_as ledger [] (r ∷ reads) like name v is = absurd like
named_holds_as ledger (file ∷ named) [] like name v is = absurd like
named_holds_as ledger (file ∷ named) (AWord w ∷ reads) like name v is = named_holds_as ledger named reads like.2 name v is
named_holds_as ledger (file ∷ named) (ARelation r ∷ reads) like name v is = by (bytes_eq r.name name) refl is (named_holds_as ledger named reads like.2 name v)
  where
    by : (b : Bool) → bytes_eq r.name name ≡ b → (if b then Some r.relation else relation_named (relations_in reads) name) ≡ Some v → (relation_named (relations_in reads) name ≡ Some v → HoldsAs ledger name v) → HoldsAs ledger name v
    by true same found later =
        let one : r.relation ≡ v = let e : Some r.relation ≡ Some v = found in cc in
        subst (HoldsAs ledger name) one (subst (λ (n : List ℕ). HoldsAs ledger n r.relation) ((bytes_eq-Decides r.name name).0 same) like.1)
    by false other found later = later found
