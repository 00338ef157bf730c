-- The text of what language commands make is that of the operation on the definitions of their names.
use Rattle.std.proofs.Common.{ℕ, ℤ, List, [], ◌∷◌, Ok, inl, inr, refl}
use Rattle.std.specs.List.{All, AllByRecursion}
use Rattle.wal_outside.specs.Files.{Files}
use Rattle.digit_tuple.specs.Deterministic as deterministic
use Rattle.digit_tuple.specs.Sets.{IsAscending}
use Rattle.digit_tuple.specs.Steps.{StepLog}
use Rattle.digit_tuple.specs.declared.header.Header.TheVariants as headers
use Rattle.automaton_steps.proofs.ThenAnswers.{no_fault}
use Rattle.dfa_text.specs.Meaning.{AreTrackSets, FileAccepts}
use Rattle.dfa_text.specs.RelationLaws.{IsAutomatonOver}
use Rattle.dfa_text.specs.RelationText.{relation_text}
use Rattle.dfa_text.proofs.RelationPaths.{text_accepts_only_codes, text_accepts_words}
use Rattle.dfa_loading.specs.Loading.{AreListedBy}
use Rattle.dfa_loading.specs.declared.loaded.Loaded.{Loaded}
use Rattle.formula_resolve.specs.declared.file.File.{File}
use Rattle.formula_resolve.specs.declared.file.File.TheVariants.{Automaton, Word}
use Rattle.definitions.specs.Laws.{LanguageTextsMeanTheirTrees}
use Rattle.definitions.specs.Texts.{HasTreeText, Stores}
use Rattle.definitions.specs.TreeMeanings.{tree_words, made_words}
use Rattle.definitions.specs.Trees.{Language, Ledger, custom_of, trees_of}
use Rattle.language_steps.specs.declared.op.LanguageOp.{LanguageOp}
use Rattle.language_steps.specs.LanguageSteps.{DoesLanguage, languages_named}
use Rattle.language_steps.specs.Operands.{HasCount, HasTable}
use Rattle.language_steps.specs.Tables.{AreOverSets, IsOverSets}
use Rattle.language_steps.proofs.Coded.{Accepted, IsOf, codes_members}
use Rattle.language_steps.proofs.HeaderSets.{file_sets}
use Rattle.language_steps.proofs.Readings.{all_named}
use Rattle.language_commands.specs.LanguageOutcomes.{tree_op}
use Rattle.language_commands.proofs.LanguageWords.{operation_words}
use Rattle.language_commands.proofs.NamedLanguages.{IsAutomaton, named_alone, named_of, reads_are_of}

-- tables over the same sets, of which there is one
all_over : (sets : List (List ℤ)) (tables : List Loaded) → AreOverSets sets tables → AllByRecursion (IsOverSets sets) tables
all_over sets [] over = absurd over
all_over sets (table ∷ tables) over = over

-- have the sets of a file's header
tracks_of : (files : Files) (named : List File) (sets : List (List ℤ)) (tables : List Loaded) → AreListedBy files named tables → AllByRecursion IsAutomaton named → AreOverSets sets tables → AreTrackSets sets
tracks_of files named sets [] listed are over = absurd over
tracks_of files [] sets (table ∷ tables) listed are over = absurd listed
tracks_of files (Word name ∷ named) sets (table ∷ tables) listed are over = absurd are.0
tracks_of files (Automaton name ∷ named) sets (table ∷ tables) listed are over = file_sets listed.0.text table.listed sets listed.0.lists.lists over.0

module _ (law : LanguageTextsMeanTheirTrees) (ledger : Ledger) (files : Files) (named : List File) (tables : List Loaded) (sets : List (List ℤ)) (stores : Stores ledger files) (listed : AreListedBy files named tables)
    (are : AllByRecursion IsAutomaton named) (over : AreOverSets sets tables) where
  tracks : AreTrackSets sets
  tracks = tracks_of files named sets tables listed are over

  up : All IsAscending sets
  up = λ k d within. (tracks.each k d within).ascending

  module _ (op : LanguageOp) (names : List (List ℕ)) (count : HasCount op names) (has : AllByRecursion (HasTable tables) names) where
    made_of : (old new : StepLog) (made : deterministic.Automaton) → DoesLanguage op names tables old (Ok made) new → IsOf sets (λ word. made_words (custom_of ledger) (tree_op op) (trees_of ledger names) word) made
    made_of old new made (inr (fault, failed, is)) = absurd (no_fault made fault is)
    made_of old new made (inl (languages, mid, reads, does)) =
        let each = all_named tables languages old mid names reads has in
        let words = reads_are_of law ledger files stores sets up named tables languages old mid listed are (all_over sets tables over) reads in
        operation_words (custom_of ledger) sets up op made (languages_named languages names) (trees_of ledger names) mid new
        (named_of law ledger files stores sets up languages names words each) (named_alone op languages names count each (custom_of ledger) sets up) does

    text_of : (made : deterministic.Automaton) → IsOf sets (λ word. made_words (custom_of ledger) (tree_op op) (trees_of ledger names) word) made → HasTreeText (custom_of ledger) (Language sets (tree_op op) (trees_of ledger names)) (relation_text (headers.Sets sets) made)
    text_of made is = record { tracks = tracks; accepts = λ word. (accepted word, accepts word); automaton = made; sizes = is.sizes; canonical = is.canonical; text_is = refl }
      where
        on : IsAutomatonOver sets made
        on = record { tracks = tracks; sizes = is.sizes; table = is.canonical.table }

        accepted : (word : List (List ℤ)) → FileAccepts (relation_text (headers.Sets sets) made) word → tree_words (custom_of ledger) (Language sets (tree_op op) (trees_of ledger names)) word
        accepted word file =
            let coded = text_accepts_only_codes sets made on word file in
            (codes_members sets word coded.0 coded.1, is.has word (coded.0, coded.1, (text_accepts_words sets made on word coded.0 coded.1).0 file))

        accepts : (word : List (List ℤ)) → tree_words (custom_of ledger) (Language sets (tree_op op) (trees_of ledger names)) word → FileAccepts (relation_text (headers.Sets sets) made) word
        accepts word (members, in_words) =
            let coded : Accepted sets made word = is.fits word in_words in
            (text_accepts_words sets made on word coded.0 coded.1).1 coded.2

-- where files that are the texts of a ledger list tables over the same sets, one for each name
pub languages_have_texts : LanguageTextsMeanTheirTrees → (ledger : Ledger) (files : Files) (named : List File) (tables : List Loaded) (sets : List (List ℤ)) → Stores ledger files → AreListedBy files named tables → AllByRecursion IsAutomaton named → AreOverSets sets tables
    → (op : LanguageOp) (names : List (List ℕ)) → HasCount op names → AllByRecursion (HasTable tables) names → (old new : StepLog) (made : deterministic.Automaton) → DoesLanguage op names tables old (Ok made) new
    → HasTreeText (custom_of ledger) (Language sets (tree_op op) (trees_of ledger names)) (relation_text (headers.Sets sets) made)
languages_have_texts law ledger files named tables sets stores listed are over op names count has old new made does =
    text_of law ledger files named tables sets stores listed are over op names count has made (made_of law ledger files named tables sets stores listed are over op names count has old new made does)
