-- Names mean the same in a ledger and in the files that are its texts.
use Rattle.std.proofs.Common.{◌↔◌, ℕ, ℤ, Bool, true, false, List, [], ◌∷◌, Option, None, Some, sym, subst}
use Rattle.std.specs.List.{fold}
use Rattle.std.specs.Option.{option_map}
use Rattle.wal_outside.specs.declared.folder.Folder.TheVariants.{Automata, Words}
use Rattle.wal_outside.specs.Files.{Files, same_file}
use Rattle.formula_resolve.specs.declared.file.File as formula_file
use Rattle.formula_resolve.specs.declared.file.File.TheVariants.{Automaton, Word}
use Rattle.definitions.specs.Trees.{Tree, File, Bindings, unbound, bound, Entry, Bytes, Defined, Ledger, ledger_of, tree_of, custom_of, with_entry, with_file}
use Rattle.system_files.specs.SystemFiles.{Custom}
use Rattle.definitions.specs.Files.{FileHolds}
use Rattle.definitions.specs.WordFiles.{FileLetter}
use Rattle.definitions.specs.TreeMeanings.{tree_holds, bound_holds, tree_letter, bound_letter, chosen}
use Rattle.definitions.specs.Texts.{HasTextIn, HasTextAt, Stores}
use Rattle.definitions.specs.Laws.{BindTheSame, FilesBindAsTheirLedger}
use Rattle.definitions.proofs.TextMeanings.{text_means}
use Rattle.definitions.proofs.WordTexts.{word_text_means}

-- the definition of an entry holds as its text does among automata
pub entry_holds : (custom : Custom) (entry : Entry) (text : List ℕ) → HasTextIn custom Automata entry text → (ns : List ℕ) → tree_holds custom (tree_of entry) ns ↔ FileHolds custom text ns
entry_holds custom (Bytes bytes) text is ns = (λ h. subst (λ (file : List ℕ). FileHolds custom file ns) (sym is.1) h, λ h. subst (λ (file : List ℕ). FileHolds custom file ns) is.1 h)
entry_holds custom (Defined tree) text has ns = let both = text_means custom tree text has.0 has.1 ns in (both.1, both.0)

-- among words it has the letters that its text has
pub entry_letter : (custom : Custom) (entry : Entry) (text : List ℕ) → HasTextIn custom Words entry text → (ns : List ℕ) (letter : ℤ) → tree_letter custom (tree_of entry) ns letter ↔ FileLetter custom text ns letter
entry_letter custom (Bytes bytes) text has ns letter = let both = word_text_means custom (File bytes) text has.0 has.1 ns letter in (both.1, both.0)
entry_letter custom (Defined tree) text has ns letter = let both = word_text_means custom tree text has.0 has.1 ns letter in (both.1, both.0)

chosen_same : (test : Bool) (P Q R S : Type 0) → P ↔ R → Q ↔ S → chosen test P Q ↔ chosen test R S
chosen_same true P Q R S first other = first
chosen_same false P Q R S first other = other

module _ (custom : Custom) (bindings others : Bindings) (same : BindTheSame custom bindings others) where
  -- one automaton more, bound to what holds of the same numbers
  bound_same : (under : List ℕ) (tree other : Tree) → ((ns : List ℕ) → tree_holds custom tree ns ↔ tree_holds custom other ns) → (name ns : List ℕ)
      → bound_holds custom (bound bindings Automata under tree) Automata name ns ↔ bound_holds custom (bound others Automata under other) Automata name ns
  bound_same under tree other means name ns =
      chosen_same (same_file Automata under Automata name) (tree_holds custom tree ns) (bound_holds custom bindings Automata name ns) (tree_holds custom other ns) (bound_holds custom others Automata name ns) (means ns) (same.holds name ns)

  -- one word more, bound to what has the same letters
  letters_same : (under : List ℕ) (tree other : Tree) → ((ns : List ℕ) (letter : ℤ) → tree_letter custom tree ns letter ↔ tree_letter custom other ns letter) → (name ns : List ℕ) (letter : ℤ)
      → bound_letter custom (bound bindings Words under tree) Words name ns letter ↔ bound_letter custom (bound others Words under other) Words name ns letter
  letters_same under tree other means name ns letter =
      chosen_same (same_file Words under Words name) (tree_letter custom tree ns letter) (bound_letter custom bindings Words name ns letter) (tree_letter custom other ns letter) (bound_letter custom others Words name ns letter) (means ns letter)
      (same.letters name ns letter)

  -- what an entry and its text bind the name of an automaton to
  automaton_same : (under : List ℕ) (entry : Option Entry) (text : Option (List ℕ)) → HasTextAt custom Automata entry text
      → BindTheSame custom (with_entry bindings Automata under entry) (with_entry others Automata under (option_map (λ bytes. Bytes bytes) text))
  automaton_same under None None has = same
  automaton_same under None (Some text) has = absurd has
  automaton_same under (Some entry) None has = absurd has
  automaton_same under (Some entry) (Some text) has = record {
    holds = bound_same under (tree_of entry) (File text) (entry_holds custom entry text has);
    letters = same.letters;
  }

  -- and that of a word
  word_same : (under : List ℕ) (entry : Option Entry) (text : Option (List ℕ)) → HasTextAt custom Words entry text
      → BindTheSame custom (with_entry bindings Words under entry) (with_entry others Words under (option_map (λ bytes. Bytes bytes) text))
  word_same under None None has = same
  word_same under None (Some text) has = absurd has
  word_same under (Some entry) None has = absurd has
  word_same under (Some entry) (Some text) has = record {
    holds = same.holds;
    letters = letters_same under (tree_of entry) (File text) (entry_letter custom entry text has);
  }

module _ (ledger : Ledger) (files : Files) (stores : Stores ledger files) where
  -- the file of a formula
  file_same : (file : formula_file.File) (bindings others : Bindings) → BindTheSame (custom_of ledger) bindings others → BindTheSame (custom_of ledger) (with_file ledger bindings file) (with_file (ledger_of files) others file)
  file_same (Automaton name) bindings others same = automaton_same (custom_of ledger) bindings others same name (ledger Automata name) (files Automata name) (stores Automata name)
  file_same (Word name) bindings others same = word_same (custom_of ledger) bindings others same name (ledger Words name) (files Words name) (stores Words name)

  files_same : (named : List formula_file.File) (bindings others : Bindings) → BindTheSame (custom_of ledger) bindings others → BindTheSame (custom_of ledger) (fold (with_file ledger) bindings named) (fold (with_file (ledger_of files)) others named)
  files_same [] bindings others same = same
  files_same (file ∷ named) bindings others same = files_same named (with_file ledger bindings file) (with_file (ledger_of files) others file) (file_same file bindings others same)

nothing_bound : (custom : Custom) → BindTheSame custom unbound unbound
nothing_bound custom = record { holds = λ name ns. (λ h. h, λ h. h); letters = λ name ns letter. (λ h. h, λ h. h) }

pub files_bind : FilesBindAsTheirLedger
files_bind ledger files stores named = files_same ledger files stores named unbound unbound (nothing_bound (custom_of ledger))
