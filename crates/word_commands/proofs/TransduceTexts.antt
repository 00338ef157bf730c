-- The word of a transducer's outputs has the letters of the definition that is stored, so its text is that of the definition.
use Rattle.std.proofs.Common.{◌≡◌, ℕ, List, [], ◌∷◌, Some, inl, refl, sym, ap, ◌∙◌, subst}
use Rattle.std.specs.Int.{w32}
use Rattle.std.specs.List.{All}
use Rattle.std.specs.Prelude.{FitsSigned}
use Rattle.wal_outside.specs.Files.{Files}
use Rattle.digit_tuple.specs.Steps.{StepLog}
use Rattle.digit_tuple.specs.declared.direction.Direction.{Direction}
use Rattle.digit_tuple.specs.declared.direction.Direction.TheVariants.{Msd}
use Rattle.digit_tuple.specs.declared.steps.StepLine.{StepLine}
use Rattle.base_k.specs.Positional.{base}
use Rattle.dfa_loading.specs.Headers.{headers_of}
use Rattle.formula_build.specs.TrackSystems.{IsWordOverSystems}
use Rattle.formula_resolve.specs.Headers.{Headers, word_tracks}
use Rattle.num_system.specs.Tracks.{direction_of, systems_of}
use Rattle.system_names.specs.declared.system_kind.SystemKind.TheVariants.{Base}
use Rattle.transducer_reading.proofs.RunLemmas.{Makes-weaker}
use Rattle.word_output.specs.Words.{HasLetter, WordValue}
use Rattle.definitions.specs.Named.{IsSystemNamed}
use Rattle.definitions.specs.Texts.{HasTreeText, Stores}
use Rattle.definitions.specs.TreeMeanings.{tree_letter}
use Rattle.definitions.specs.Trees.{Ledger, Transduced, custom_of, tree_of}
use Rattle.definitions.proofs.WordValueTexts.{IsWordNamed, transduced_word_text}
use Rattle.system_files.specs.SystemFiles.{Custom}
use Rattle.word_commands.specs.declared.base_system.BaseSystem.{BaseSystem}
use Rattle.word_commands.specs.declared.transduce.ReadTransducer.{ReadTransducer}
use Rattle.word_commands.specs.BaseWords.{IsBaseOf, name_of_base, named_base}
use Rattle.word_commands.specs.ImageOutcomes.{IsOldWordRead}
use Rattle.word_commands.specs.OldWordMakes.{AreTablesOfOld}
use Rattle.command_parts.specs.TableReads.{library_with}
use Rattle.word_commands.specs.TransduceMakes.{HasMsdBase, IsTransducedOld}
use Rattle.command_parts.specs.WordPrinting.{HaveNames, named_text}
use Rattle.word_commands.proofs.BaseTexts.{one_name}
use Rattle.word_commands.proofs.BaseWordLemmas.{IsOverBaseSystem, base_text, word_base}
use Rattle.word_commands.proofs.OldWords.{old_means, old_over}
use Rattle.command_parts.proofs.TableMeanings.{HasLettersAs}

-- the name of a base means the base, in its direction
base_is_named : (custom : Custom) (read_direction : Direction) (s : BaseSystem) (h : Headers) (old : List ℕ) → IsBaseOf (Some read_direction) h old s → IsSystemNamed custom (name_of_base s) read_direction (base s.base)
base_is_named custom read_direction s h old is = subst (λ (d : Direction). IsSystemNamed custom (name_of_base s) d (base s.base)) is.direction_is (inl (Base s.base, (is.base_is, refl), refl))

module _ (read : ReadTransducer) (files : Files) (listed : AreTablesOfOld read.old files) (over : HasMsdBase read) (custom : Custom) (admitted : StepLog) (word : WordValue) (lines : List StepLine) (is : IsTransducedOld admitted custom read word lines) where
  abbrev before : IsOldWordRead admitted custom read.old.mentioned.tables.items read.old.name
  before = is.of_old.made.before

  over_systems : IsWordOverSystems (library_with before.reads before.systems) (word_tracks (headers_of read.old.mentioned.tables.items) read.old.name) before.word
  over_systems =
      old_over read.old.name read.old.mentioned.tables.items files listed before.systems before.sealed custom before.meant is.of_old.has before.reads admitted before.reading before.read before.word before.word_is

  old_base : IsOverBaseSystem before.word.systems over.0
  old_base = word_base custom before.systems before.reads (Some Msd) (headers_of read.old.mentioned.tables.items) read.old.name over.0 before.word before.meant over.1 over_systems

  new_base : systems_of word.systems ≡ base over.0.base ∷ []
  new_base = ap systems_of is.transduced.systems ∙ old_base.base_is

  new_direction : direction_of word.systems ≡ Msd
  new_direction = ap direction_of is.transduced.systems ∙ (old_base.direction_is ∙ over.1.direction_is)

  -- the name of the base is that of the word's system
  pub transduced_names : HaveNames (name_of_base over.0 ∷ []) word.systems
  transduced_names = one_name over.0.base (name_of_base over.0) word.systems over.1.base_is new_base

  module _ (ledger : Ledger) (stores : Stores ledger files) (same : custom_of ledger ≡ custom) where
    -- what is under the old name
    pub transduced_entry : HasLettersAs ledger read.old.name before.word
    transduced_entry =
        old_means read.old.name read.old.mentioned.tables.items files listed before.systems before.sealed custom before.meant is.of_old.has before.reads admitted before.reading before.read ledger stores same before.word before.word_is

    -- the text is that of its definition under the transducer
    pub transduced_text : All (λ letter. FitsSigned w32 letter) word.function.letters → HasTreeText (custom_of ledger) (Transduced (named_base over.0) read.transducer (tree_of transduced_entry.entry)) (named_text (name_of_base over.0 ∷ []) word)
    transduced_text fits =
        let t = read.transducer in
        let tree = tree_of transduced_entry.entry in
        let system = named_base over.0 in
        let named : IsWordNamed (custom_of ledger) Msd (system ∷ []) word = record {
          word = is.transduced.word_is;
          fits = fits;
          are = (base_is_named (custom_of ledger) Msd over.0 (headers_of read.old.mentioned.tables.items) read.old.name over.1, tt);
          direction = new_direction;
          systems_are = sym new_base;
        } in
        subst (HasTreeText (custom_of ledger) (Transduced system t tree)) (sym (base_text over.0 (name_of_base over.0) word refl new_base))
        (transduced_word_text (custom_of ledger) system t tree word named
        (λ n letter. (
          λ has. Makes-weaker t (λ m c. HasLetter before.word (m ∷ []) c) (λ m c. tree_letter (custom_of ledger) tree (m ∷ []) c) (λ m c. (transduced_entry.same (m ∷ []) c).0) n letter ((is.transduced.letters n letter).0 has),
          λ made. (is.transduced.letters n letter).1 (Makes-weaker t (λ m c. tree_letter (custom_of ledger) tree (m ∷ []) c) (λ m c. HasLetter before.word (m ∷ []) c) (λ m c. (transduced_entry.same (m ∷ []) c).1) n letter made),
        )))
