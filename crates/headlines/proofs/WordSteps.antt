-- The files of words that commands make.
use Rattle.std.proofs.Common.{◌≡◌, ℕ, ℤ, List, [], ◌∷◌, Some, Ok, refl, sym, ap, ◌∙◌, subst}
use Rattle.wal_outside.specs.Files.{Files, put}
use Rattle.wal_outside.specs.Views.{StoreView}
use Rattle.wal_outside.specs.declared.folder.Folder.{Folder}
use Rattle.wal_outside.specs.declared.folder.Folder.TheVariants.{Words}
use Rattle.dfa_reading.specs.Headers.{Systems}
use Rattle.dfa_reading.specs.Listed.{Listed}
use Rattle.dfa_reading.specs.WordFiles.{word_of}
use Rattle.dfa_text.specs.Lists.{IsAutomatonUnder, word_listed}
use Rattle.dfa_text.proofs.PrintedWords.{text_lists_word}
use Rattle.digit_tuple.specs.declared.direction.Direction.{Direction}
use Rattle.system_files.specs.SystemFiles.{Custom}
use Rattle.word_output.specs.LetterFunctions.{outputs_of}
use Rattle.definitions.specs.Texts.{HasText}
use Rattle.definitions.specs.Tracks.{NamedSystem, OverSystems, header_of, header_tracks}
use Rattle.definitions.specs.TreeMeanings.{tree_letter}
use Rattle.definitions.specs.Trees.{Tree, Fixed, Image, Combine, Transduced, Converted, Entry, Ledger, Defined, MayBeIn, custom_of, tree_of}
use Rattle.definitions.specs.WordTexts.{IsWordText}
use Rattle.definitions.proofs.FileNames.{file_systems}
use Rattle.definitions.proofs.TextMeanings.{system_sizes}
use Rattle.definitions.proofs.WordTextLetters.{outputs_fit}
use Rattle.definitions.proofs.WordTexts.{word_text_means}
use Rattle.command_parts.specs.Accepting.{Success}
use Rattle.word_commands.specs.BaseWords.{name_of_base, named_base}
use Rattle.command_parts.specs.Checks.{Check}
use Rattle.word_commands.specs.CombineOutcomes.{parts_from, combine_checks}
use Rattle.word_commands.specs.ConvertOutcomes.{convert_checks}
use Rattle.word_commands.specs.ImageOutcomes.{image_checks}
use Rattle.word_commands.specs.PromoteOutcomes.{promote_checks}
use Rattle.word_commands.specs.TransduceOutcomes.{transduce_checks}
use Rattle.session_cli.proofs.CommandsMade.{promote_made, image_made, combine_made, transduce_made, convert_made}
use Rattle.headlines.specs.Words.{IsStoredWord, IsPromoted, IsImaged, IsTransduced, IsConverted, IsCombined, Promotions, Images, Transductions, Conversions, Combinations}
use Rattle.headlines.proofs.AcceptedCommands.{IsMade, is_made}

-- the bytes, read as a word's file, are over the system of this name
record IsRead (bytes name : List ℕ) : Type 0 where
  listed : Listed
  read : word_of bytes ≡ Ok listed
  over : listed.header ≡ Systems (name ∷ [])

-- the text of a word over one system is
over_named : (custom : Custom) (direction : Direction) (s : NamedSystem) (HasLetter : List ℕ → ℤ → Type 0) (text : List ℕ) → IsWordText custom direction (s ∷ []) HasLetter text → IsRead text s.name
over_named custom direction s HasLetter text is =
    let under : IsAutomatonUnder (header_of (OverSystems direction (s ∷ []))) is.function.automaton = record { tracks = file_systems custom direction (s ∷ []) is.some is.are; sizes = is.sizes ∙ sym (system_sizes direction (s ∷ [])); table = is.canonical.canonical.table } in
    record {
      listed = word_listed (header_of (OverSystems direction (s ∷ []))) is.function.automaton (outputs_of is.function);
      read = ap word_of is.text_is ∙ text_lists_word (header_tracks (s ∷ [])) is.function.automaton (outputs_of is.function) under (outputs_fit is.function is.canonical is.fits);
      over = refl;
    }

module _ (limit : ℕ) (ledger : Ledger) (files : Files) (command : List ℕ) (new : StoreView) (success : Success) (bytes : List ℕ)
    (text : HasText (custom_of ledger) success.entry bytes) (stored : new.files ≡ Some (put files success.folder success.name bytes)) where
  -- the file that was stored
  stored_at : (name : List ℕ) → success.folder ≡ Words → success.name ≡ name → new.files ≡ Some (put files Words name bytes)
  stored_at name folder_is name_is = subst (λ (n : List ℕ). new.files ≡ Some (put files Words n bytes)) name_is (subst (λ (f : Folder). new.files ≡ Some (put files f success.name bytes)) folder_is stored)

  -- the word of this definition was made under this name
  of_tree : (name : List ℕ) (tree : Tree) → MayBeIn Words tree → success.folder ≡ Words → success.name ≡ name → success.entry ≡ Defined tree → IsStoredWord (custom_of ledger) files name (λ place letter. tree_letter (custom_of ledger) tree place letter) new
  of_tree name tree may_be folder_is name_is entry_is = record {
    bytes = bytes;
    stored = stored_at name folder_is name_is;
    letters = λ place letter. word_text_means (custom_of ledger) tree bytes may_be (subst (λ (e : Entry). HasText (custom_of ledger) e bytes) entry_is text) place letter;
  }

  promoted : (promote_checks limit ledger command).answers (Ok success) → IsPromoted ledger files command new
  promoted (head, h, (rules, (own, stores, read), (lines, l, (is, fits)))) = record {
    head = head;
    derived = h;
    rules = rules;
    morphism = record { files = own; stored = stores; read = read };
    word = of_tree head.word (Fixed rules) refl (ap (λ (s : Success). s.folder) is) (ap (λ (s : Success). s.name) is) (ap (λ (s : Success). s.entry) is);
  }

  imaged : (image_checks limit ledger command).answers (Ok success) → IsImaged ledger files command new
  imaged (head, h, (rules, (own, stores, read), (tables, t, (admitted, a, (one, o, (uniform, u, (track, w, (lines, l, (entry, e, (is, fits)))))))))) = record {
    head = head;
    derived = h;
    rules = rules;
    morphism = record { files = own; stored = stores; read = read };
    old = entry;
    there = e;
    word = of_tree head.word (Image track.direction track.system rules (tree_of entry)) refl (ap (λ (s : Success). s.folder) is) (ap (λ (s : Success). s.name) is) (ap (λ (s : Success). s.entry) is);
  }

  transduced : (transduce_checks limit ledger command).answers (Ok success) → IsTransduced ledger files command new
  transduced (head, h, (transducer, (own, stores, read), (tables, t, (admitted, a, (over, o, (lines, l, (entry, e, (is, fits)))))))) = record {
    head = head;
    derived = h;
    transducer = transducer;
    is_transducer = record { files = own; stored = stores; read = read };
    old = entry;
    there = e;
    word = of_tree head.word (Transduced (named_base over) transducer (tree_of entry)) refl (ap (λ (s : Success). s.folder) is) (ap (λ (s : Success). s.name) is) (ap (λ (s : Success). s.entry) is);
  }

  converted : (convert_checks limit ledger command).answers (Ok success) → IsConverted ledger files command new
  converted (head, h, (tables, t, (other, n, (admitted, a, (over, o, (change, c, (lines, l, (entry, e, (is, fits))))))))) =
      let tree : Tree = Converted change.system.direction (named_base change.system) (tree_of entry) in
      let own : HasText (custom_of ledger) (Defined tree) bytes = subst (λ (e : Entry). HasText (custom_of ledger) e bytes) (ap (λ (s : Success). s.entry) is) text in
      let read : IsRead bytes (name_of_base change.system) = over_named (custom_of ledger) change.system.direction (named_base change.system) (λ place letter. tree_letter (custom_of ledger) tree place letter) bytes own in
      record {
        head = head;
        derived = h;
        old = entry;
        there = e;
        word = record { bytes = bytes; stored = stored_at head.word (ap (λ (s : Success). s.folder) is) (ap (λ (s : Success). s.name) is); letters = λ place letter. word_text_means (custom_of ledger) tree bytes refl own place letter };
        listed = read.listed;
        read = read.read;
        over = read.over ∙ ap (λ (name : List ℕ). Systems (name ∷ [])) (sym c.name_is.1);
      }

  combined : (combine_checks limit ledger command).answers (Ok success) → IsCombined ledger files command new
  combined (head, h, (tables, t, (admitted, a, (none, p, (one, s, (lines, l, (tracks, u, (is, fits)))))))) = record {
    head = head;
    derived = h;
    tables = tables;
    loaded = t;
    tracks = tracks;
    systems = u;
    word = of_tree head.word (Combine tracks.direction tracks.named (parts_from ledger 0 head.automata)) refl (ap (λ (s : Success). s.folder) is) (ap (λ (s : Success). s.name) is) (ap (λ (s : Success). s.entry) is);
  }

pub promotions : Promotions
promotions limit ledger files old new command shown printed is reported c =
    let checks : Ledger → Check Success = λ known. promote_checks limit known command in
    let m : IsMade (checks ledger) ledger files new = is_made limit command checks (λ known accepted answered. promote_made limit known command accepted is answered) ledger files old new shown printed reported c in
    promoted limit ledger files command new m.success m.bytes m.text m.stored m.made

pub images : Images
images limit ledger files old new command shown printed is reported c =
    let checks : Ledger → Check Success = λ known. image_checks limit known command in
    let m : IsMade (checks ledger) ledger files new = is_made limit command checks (λ known accepted answered. image_made limit known command accepted is answered) ledger files old new shown printed reported c in
    imaged limit ledger files command new m.success m.bytes m.text m.stored m.made

pub transductions : Transductions
transductions limit ledger files old new command shown printed is reported c =
    let checks : Ledger → Check Success = λ known. transduce_checks limit known command in
    let m : IsMade (checks ledger) ledger files new = is_made limit command checks (λ known accepted answered. transduce_made limit known command accepted is answered) ledger files old new shown printed reported c in
    transduced limit ledger files command new m.success m.bytes m.text m.stored m.made

pub conversions : Conversions
conversions limit ledger files old new command shown printed is reported c =
    let checks : Ledger → Check Success = λ known. convert_checks limit known command in
    let m : IsMade (checks ledger) ledger files new = is_made limit command checks (λ known accepted answered. convert_made limit known command accepted is answered) ledger files old new shown printed reported c in
    converted limit ledger files command new m.success m.bytes m.text m.stored m.made

pub combinations : Combinations
combinations limit ledger files old new command shown printed is reported c =
    let checks : Ledger → Check Success = λ known. combine_checks limit known command in
    let m : IsMade (checks ledger) ledger files new = is_made limit command checks (λ known accepted answered. combine_made limit known command accepted is answered) ledger files old new shown printed reported c in
    combined limit ledger files command new m.success m.bytes m.text m.stored m.made
