-- The files of loaded tables are those that were named, each once; and what such files list.
use Rattle.std.proofs.Common.{◌≡◌, ◌≢◌, ℕ, suc, ◌<◌, Bool, true, false, ◌||◌, List, [], ◌∷◌, length, take, get_or, Ok, refl, sym, ap, ◌∙◌, subst, arith}
use Rattle.std.specs.List.{AllByRecursion}
use Rattle.std.proofs.lemmas.Slice.Eq.{bytes_eq-Decides}
use Rattle.wal_outside.specs.Files.{Files}
use Rattle.formula_resolve.specs.FirstMentions.{has, is_same_file, IsOnce}
use Rattle.formula_resolve.specs.declared.file.File.{File}
use Rattle.formula_resolve.specs.declared.file.File.TheVariants.{Automaton, Word}
use Rattle.dfa_reading.specs.Listed.{Listed}
use Rattle.dfa_reading.specs.WordFiles.{IsWordListed}
use Rattle.dfa_reading.proofs.ReadWords.{word_files_list_words}
use Rattle.dfa_loading.specs.Loading.{AreListedBy}
use Rattle.dfa_loading.specs.Places.{ListsAs, lists_of}
use Rattle.dfa_loading.specs.declared.loaded.Loaded.{Loaded}
use Rattle.definitions.proofs.FileTables.{word_has_states}
use Rattle.definitions.specs.TableLaws.{FilesAreTables}
use Rattle.definitions.specs.TableSteps.{IsTable}

pub same_itself : (file : File) → is_same_file file file ≡ true
same_itself (Automaton name) = (bytes_eq-Decides name name).1 refl
same_itself (Word name) = (bytes_eq-Decides name name).1 refl

-- no table is of this file
abbrev pub HasNo : File → List Loaded → Type 0
HasNo file tables = AllByRecursion (λ (t : Loaded). t.file ≢ file) tables

-- each table is of a file of its own
abbrev pub AreApart : List Loaded → Type 0
AreApart [] = Unit {0}
AreApart (table ∷ tables) = HasNo table.file tables × AreApart tables

or_left : (a b : Bool) → (a || b) ≡ false → a ≡ false
or_left true b h = absurd (cc)
or_left false b h = refl

or_right : (a b : Bool) → (a || b) ≡ false → b ≡ false
or_right true b h = absurd (cc)
or_right false b h = h

once_split : (first : File) (named : List File) → IsOnce (first ∷ named) → (i : ℕ) (file : File) → i < length named → file ≡ get_or named i file → (is_same_file first file || has is_same_file (take i named) file) ≡ false
once_split first named once i file within at = once (suc i) file (omega (arith, within)) at

-- the files after the first are each once
pub once_rest : (first : File) (named : List File) → IsOnce (first ∷ named) → IsOnce named
once_rest first named once i file within at = or_right (is_same_file first file) (has is_same_file (take i named) file) (once_split first named once i file within at)

-- no file is the same as this one
abbrev pub IsOther : File → List File → Type 0
IsOther first named = (i : ℕ) (file : File) → i < length named → file ≡ get_or named i file → is_same_file first file ≡ false

pub once_other : (first : File) (named : List File) → IsOnce (first ∷ named) → IsOther first named
once_other first named once i file within at = or_left (is_same_file first file) (has is_same_file (take i named) file) (once_split first named once i file within at)

other_files : (files : Files) (file : File) (named : List File) (tables : List Loaded) → AreListedBy files named tables → IsOther file named → HasNo file tables
other_files files file [] [] are other = tt
other_files files file [] (table ∷ tables) are other = absurd are
other_files files file (first ∷ named) [] are other = absurd are
other_files files file (first ∷ named) (table ∷ tables) are other =
    (apart, other_files files file named tables are.1 (λ i at within is. other (suc i) at (omega (arith, within)) is))
  where
    apart : table.file ≢ file
    apart same =
        let is : file ≡ first = sym same ∙ are.0.lists.file_is in
        let yes : is_same_file file first ≡ true = subst (λ (f : File). is_same_file file f ≡ true) is (same_itself file) in
        let no : is_same_file file first ≡ false = other 0 first (omega arith) refl in
        cc

-- the tables of files that are each once are of files of their own
pub files_apart : (files : Files) (named : List File) (tables : List Loaded) → IsOnce named → AreListedBy files named tables → AreApart tables
files_apart files [] [] once are = tt
files_apart files [] (table ∷ tables) once are = absurd are
files_apart files (file ∷ named) [] once are = absurd are
files_apart files (file ∷ named) (table ∷ tables) once are =
    let own : HasNo file tables = other_files files file named tables are.1 (once_other file named once) in
    (subst (λ (f : File). HasNo f tables) (sym are.0.lists.file_is) own, files_apart files named tables (once_rest file named once) are.1)

-- a table that the text of a file lists; a word's file lists a word
pub record IsListedTable (table : Loaded) : Type 0 where
  pub lists : lists_of table.file table.text ≡ Ok table.listed
  pub is_table : IsTable table.listed
  pub is_word : (name : List ℕ) → table.file ≡ Word name → IsWordListed table.listed

-- what a file lists has a state below a header that wants one
file_table : FilesAreTables → (file : File) (text : List ℕ) (listed : Listed) → lists_of file text ≡ Ok listed → IsTable listed
file_table law (Automaton name) text listed lists = law text listed lists
file_table law (Word name) text listed lists = word_has_states text listed lists

listed_table : (law : FilesAreTables) (file : File) (text : List ℕ) (table : Loaded) → ListsAs file text table → IsListedTable table
listed_table law file text table is = record {
  lists = ap (λ (f : File). lists_of f table.text) is.file_is ∙ (ap (lists_of file) is.text_is ∙ is.lists);
  is_table = file_table law file text table.listed is.lists;
  is_word = λ name word. word_files_list_words text table.listed (subst (λ (f : File). lists_of f text ≡ Ok table.listed) (sym is.file_is ∙ word) is.lists);
}

pub tables_listed : (law : FilesAreTables) (files : Files) (named : List File) (tables : List Loaded) → AreListedBy files named tables → AllByRecursion IsListedTable tables
tables_listed law files [] [] are = tt
tables_listed law files [] (table ∷ tables) are = absurd are
tables_listed law files (file ∷ named) [] are = absurd are
tables_listed law files (file ∷ named) (table ∷ tables) are =
    (listed_table law file are.0.text table are.0.lists, tables_listed law files named tables are.1)
