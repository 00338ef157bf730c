-- The text of a definition, read as a file, holds of what the definition holds of.
use Rattle.std.proofs.Common.{◌≡◌, ◌↔◌, ℕ, ◌<◌, Bool, true, false, List, [], ◌∷◌, length, ℤ, Ok, refl, sym, ap, ◌∙◌, subst, arith}
use Rattle.std.specs.List.{AllZip}
use Rattle.std.proofs.lemmas.List.{length-map}
use Rattle.digit_tuple.specs.Deterministic.{Automaton, IsTable, letters_of}
use Rattle.digit_tuple.specs.Letters.{IsWord}
use Rattle.digit_tuple.specs.Paddings.{in_order}
use Rattle.digit_tuple.specs.Sets.{sizes_of}
use Rattle.digit_tuple.specs.declared.direction.Direction.{Direction}
use Rattle.digit_tuple.specs.declared.header.Header.{Header}
use Rattle.digit_tuple.specs.declared.header.Header.TheVariants as headers
use Rattle.digit_tuple.proofs.SystemLemmas.{length-digit_set}
use Rattle.wal_outside.specs.declared.folder.Folder.TheVariants.{Automata, Words}
use Rattle.formula_parse.specs.Trees as trees
use Rattle.numeration.specs.Systems.{System}
use Rattle.numeration.specs.Representation as representation
use Rattle.numeration.specs.Representation.{letters_in}
use Rattle.numeration.specs.Relations.{HoldsOf}
use Rattle.num_system.proofs.HoldLemmas.{one_tuple, represented_count, representation_of}
use Rattle.regex_build.specs.Expression.{Expression}
use Rattle.reg_steps.specs.Relations.{HasMatch}
use Rattle.dfa_reading.specs.Branching.{IsLetterOfDigits}
use Rattle.dfa_reading.specs.Headers.{Truth, truth_of, header_of as file_header_of}
use Rattle.dfa_reading.specs.Listed.{Listed, ListedAccepts}
use Rattle.dfa_reading.specs.Reading.{relation_of, add_line}
use Rattle.dfa_reading.specs.Lines.{is_passed}
use Rattle.dfa_reading.proofs.TupleWords.{tuples_of, word_of_tuples}
use Rattle.dfa_text.specs.Lists.{automaton_listed, IsAutomatonUnder}
use Rattle.dfa_text.specs.RelationText.{relation_text}
use Rattle.dfa_text.proofs.ListedPaths.{accepts_listed}
use Rattle.dfa_text.proofs.PrintedRelations.{text_lists}
use Rattle.definitions.specs.Tracks.{NamedSystem, Tracks, OverSets, OverSystems, names_of, systems_of, letter_sets, header_of}
use Rattle.definitions.specs.Trees.{Variable, File, Regex, Formula, Language, Bindings}
use Rattle.system_files.specs.SystemFiles.{Custom}
use Rattle.definitions.specs.Named.{AreNamed}
use Rattle.definitions.specs.Files.{HasListedWord, HoldsUnder, ListedHolds, FileHolds}
use Rattle.definitions.specs.TreeMeanings.{RegexHolds, tree_holds}
use Rattle.definitions.specs.FormulaTexts.{IsSolvedBy, named_systems, IsSolutionText, IsSentenceText, truth_text, IsFormulaText}
use Rattle.definitions.specs.Texts.{IsRepresentedText, IsTrackText}
use Rattle.definitions.specs.Laws.{TextsMeanTheirTrees}
use Rattle.definitions.proofs.NameLemmas.{named_are_systems, same_list, same_direction}
use Rattle.definitions.proofs.FileNames.{file_systems, track_names}

-- over the digits of systems are as many digits as the systems have
pub system_sizes : (direction : Direction) (named : List NamedSystem) → sizes_of (letter_sets (OverSystems direction named)) ≡ representation.sizes_of (systems_of named)
system_sizes direction [] = refl
system_sizes direction (s ∷ named) = ap (λ (n : ℕ). n ∷ sizes_of (letter_sets (OverSystems direction named))) (length-digit_set s.system.digits) ∙ ap (λ (ns : List ℕ). s.system.digits ∷ ns) (system_sizes direction named)

-- a file that lists something holds of what this holds of
file_holds : (custom : Custom) (text : List ℕ) (listed : Listed) → relation_of text ≡ Ok listed → (ns : List ℕ) → FileHolds custom text ns ↔ ListedHolds custom listed ns
file_holds custom text listed read ns = (there, λ h. (listed, read, h))
  where
    there : FileHolds custom text ns → ListedHolds custom listed ns
    there (other, also, h) =
        let same : other ≡ listed = let e : Ok other ≡ Ok listed = sym also ∙ read in cc in
        subst (λ (l : Listed). ListedHolds custom l ns) same h

module _ (custom : Custom) (direction : Direction) (named : List NamedSystem) (some : 0 < length named) (are : AreNamed custom direction named) where
  -- under the names of systems it holds over the systems
  under_names : (listed : Listed) (ns : List ℕ) → HoldsUnder custom (names_of named) listed ns → HasListedWord direction (systems_of named) listed ns
  under_names listed ns h =
      let same : named ≡ h.named = same_list custom direction h.direction named h.named are h.are h.names_are in
      let directions : direction ≡ h.direction = same_direction custom direction h.direction named h.named some are h.are h.names_are in
      subst (λ (x : List NamedSystem). HasListedWord direction (systems_of x) listed ns) (sym same) (subst (λ (x : Direction). HasListedWord x (systems_of h.named) listed ns) (sym directions) h.word)

  module _ (holds : List ℕ → Type 0) (d : Automaton) (table : IsTable (letters_of d) d.states) (relates : HoldsOf direction (systems_of named) holds d) where
    abbrev header : Header
    header = header_of (OverSystems direction named)

    abbrev listed : Listed
    listed = automaton_listed header d

    abbrev ss : List System
    ss = systems_of named

    abbrev printed : List ℕ
    printed = relation_text header d

    count_of : length ss ≡ length named
    count_of = length-map named (λ (s : NamedSystem). s.system)

    -- a representation of the numbers is listed where the automaton holds of them
    word_holds : (ns : List ℕ) → HasListedWord direction ss listed ns → (length ns ≡ length named) × holds ns
    word_holds ns h =
        let letters : AllZip (IsLetterOfDigits d.sizes) h.tuples h.word = subst (λ (sizes : List ℕ). AllZip (IsLetterOfDigits sizes) h.tuples h.word) (sym relates.sizes) h.letters in
        let accepts : ListedAccepts d.sizes listed h.tuples = subst (λ (sizes : List ℕ). ListedAccepts sizes listed h.tuples) (sym relates.sizes) h.accepts in
        let over : IsWord (letters_in ss) h.word = word_of_tuples (representation.sizes_of ss) h.tuples h.word h.letters in
        let found = (relates.accepts h.word over).0 ((accepts_listed header d table h.tuples h.word letters).0 accepts) in
        (represented_count ss (in_order direction h.word) ns h.represents ∙ count_of, subst holds (one_tuple ss (in_order direction h.word) found.0 ns found.1 h.represents) found.2)

    listed_word : (ns : List ℕ) → length ns ≡ length named → holds ns → HasListedWord direction ss listed ns
    listed_word ns count held =
        let found = representation_of direction ss ns (named_are_systems custom direction named are) (count ∙ sym count_of) in
        let tuples = tuples_of (representation.sizes_of ss) found.0 found.1 in
        let letters : AllZip (IsLetterOfDigits d.sizes) tuples.0 found.0 = subst (λ (sizes : List ℕ). AllZip (IsLetterOfDigits sizes) tuples.0 found.0) (sym relates.sizes) tuples.1 in
        let accepts : ListedAccepts d.sizes listed tuples.0 = (accepts_listed header d table tuples.0 found.0 letters).1 ((relates.accepts found.0 found.1).1 (ns, found.2, held)) in
        record {
          tuples = tuples.0;
          word = found.0;
          letters = tuples.1;
          represents = found.2;
          accepts = subst (λ (sizes : List ℕ). ListedAccepts sizes listed tuples.0) relates.sizes accepts;
        }

    text_read : relation_of printed ≡ Ok listed
    text_read = text_lists header d (record { tracks = file_systems custom direction named some are; sizes = relates.sizes ∙ sym (system_sizes direction named); table = table })

    -- the text of an automaton holds of the numbers of which the automaton holds
    pub automaton_text_holds : (ns : List ℕ) → FileHolds custom (relation_text (header_of (OverSystems direction named)) d) ns ↔ ((length ns ≡ length named) × holds ns)
    automaton_text_holds ns = (there, back)
      where
        below : FileHolds custom printed ns ↔ ListedHolds custom listed ns
        below = file_holds custom printed listed text_read ns

        there : FileHolds custom printed ns → (length ns ≡ length named) × holds ns
        there h = word_holds ns (under_names listed ns (subst (λ (names : List (List ℕ)). HoldsUnder custom names listed ns) (track_names named) (below.0 h)))

        back : (length ns ≡ length named) × holds ns → FileHolds custom printed ns
        back (count, held) =
            let here : HoldsUnder custom (names_of named) listed ns = record { direction = direction; named = named; names_are = refl; are = are; word = listed_word ns count held } in
            below.1 (subst (λ (names : List (List ℕ)). HoldsUnder custom names listed ns) (sym (track_names named)) here)

-- over sets a text holds of no numbers
sets_text_holds : (custom : Custom) (sets : List (List ℤ)) (d : Automaton) (text : List ℕ) → IsAutomatonUnder (headers.Sets sets) d → text ≡ relation_text (headers.Sets sets) d → (ns : List ℕ) → FileHolds custom text ns ↔ ⊥
sets_text_holds custom sets d text under is ns = file_holds custom text (automaton_listed (headers.Sets sets) d) (ap relation_of is ∙ text_lists (headers.Sets sets) d under) ns

-- over systems of the numbers of which a representation matches
represented_text_holds : (custom : Custom) (direction : Direction) (named : List NamedSystem) (e : Expression (List ℤ)) (text : List ℕ) → IsRepresentedText custom direction named e text → (ns : List ℕ)
    → FileHolds custom text ns ↔ HasMatch direction (systems_of named) (letter_sets (OverSystems direction named)) e ns
represented_text_holds custom direction named e text is ns =
    let ss = systems_of named in
    let match : List ℕ → Type 0 = HasMatch direction ss (letter_sets (OverSystems direction named)) e in
    let relates : HoldsOf direction ss match is.automaton = record { sizes = is.of_relation.sizes; accepts = is.of_relation.language } in
    let both = automaton_text_holds custom direction named is.some is.are match is.automaton is.of_relation.canonical.table relates ns in
    let count : match ns → length ns ≡ length named = λ m. represented_count ss (in_order direction m.word) ns m.represents ∙ length-map named (λ (s : NamedSystem). s.system) in
    rw is.text_is (λ h. (both.0 h).1, λ m. both.1 (count m, m))

track_text_holds : (custom : Custom) (tracks : Tracks) (e : Expression (List ℤ)) (text : List ℕ) → IsTrackText custom tracks e text → (ns : List ℕ) → FileHolds custom text ns ↔ RegexHolds tracks e ns
track_text_holds custom (OverSets sets) e text is ns = sets_text_holds custom sets is.automaton text (record { tracks = is.tracks; sizes = is.of_regex.sizes; table = is.of_regex.canonical.table }) is.text_is ns
track_text_holds custom (OverSystems direction named) e text is ns = represented_text_holds custom direction named e text is ns

-- what the text of a truth lists
pub truth_read : (truth : Bool) → relation_of (truth_text truth) ≡ Ok (record { header = Truth truth; outputs = []; lines = [] })
unfolding relation_of add_line is_passed file_header_of truth_of
truth_read true = refl
truth_read false = refl

none_of : (ns : List ℕ) → length ns ≡ 0 → ns ≡ []
none_of [] count = refl
none_of (n ∷ ns) count = absurd (omega (arith, count))

module _ (custom : Custom) (bindings : Bindings) (formula : trees.Formula) where
  -- the text of a sentence
  sentence_text_holds : (text : List ℕ) → IsSentenceText custom bindings formula text → (ns : List ℕ) → FileHolds custom text ns ↔ tree_holds custom (Formula [] formula bindings) ns
  sentence_text_holds text (truth, has, is) ns =
      let both = file_holds custom text (record { header = Truth truth; outputs = []; lines = [] }) (ap relation_of is ∙ truth_read truth) ns in
      (λ h. let held = both.0 h in (ap length held.1, has.0 held.0), λ h. both.1 (has.1 h.1, none_of ns h.0))

  -- and of a formula with free variables
  solution_text_holds : (variables : List Variable) (text : List ℕ) → 0 < length variables → IsSolutionText custom bindings variables formula text → (ns : List ℕ) → FileHolds custom text ns ↔ tree_holds custom (Formula variables formula bindings) ns
  solution_text_holds variables text some is ns =
      let named = named_systems variables in
      let count : length named ≡ length variables = length-map variables (λ (v : Variable). v.system) in
      let both = automaton_text_holds custom is.direction named (omega (arith, some, count)) is.named (IsSolvedBy custom bindings variables formula) is.automaton is.canonical.table is.holds ns in
      rw is.text_is (λ h. let held = both.0 h in (held.0 ∙ count, held.1), λ h. both.1 (h.0 ∙ sym count, h.1))

  formula_text_holds : (variables : List Variable) (text : List ℕ) → IsFormulaText custom bindings variables formula text → (ns : List ℕ) → FileHolds custom text ns ↔ tree_holds custom (Formula variables formula bindings) ns
  formula_text_holds [] text is ns = sentence_text_holds text is ns
  formula_text_holds (v ∷ variables) text is ns = solution_text_holds (v ∷ variables) text (omega arith) is ns

-- words are not among automata
not_among : {P : Type 0} → Automata ≡ Words → P
not_among same = absurd (cc)

pub text_means : TextsMeanTheirTrees
text_means custom (File bytes) text may is ns = (λ h. subst (λ (file : List ℕ). FileHolds custom file ns) is h, λ h. subst (λ (file : List ℕ). FileHolds custom file ns) (sym is) h)
text_means custom (Regex tracks e) text may is ns = track_text_holds custom tracks e text is ns
text_means custom (Formula variables formula bindings) text may is ns = formula_text_holds custom bindings formula variables text is ns
text_means custom (Language sets op trees) text may is ns = sets_text_holds custom sets is.automaton text (record { tracks = is.tracks; sizes = is.sizes; table = is.canonical.table }) is.text_is ns
text_means custom _ text may is ns = not_among may
