-- The text of a definition, read as a file over sets, accepts the words of the definition.
use Rattle.std.proofs.Common.{◌≡◌, ◌↔◌, ℕ, ◌<◌, List, [], ◌∷◌, length, ℤ, Ok, sym, ap, ◌∙◌, subst, arith}
use Rattle.std.proofs.lemmas.List.{length-map}
use Rattle.digit_tuple.specs.Deterministic.{Automaton, IsTable, letters_of}
use Rattle.digit_tuple.specs.declared.direction.Direction.{Direction}
use Rattle.wal_outside.specs.declared.folder.Folder.TheVariants.{Automata, Words}
use Rattle.formula_parse.specs.Trees as trees
use Rattle.numeration.specs.Representation as representation
use Rattle.regex_build.specs.Expression.{Expression}
use Rattle.dfa_reading.specs.Headers as file
use Rattle.dfa_reading.specs.Listed.{Listed}
use Rattle.dfa_reading.specs.Reading.{relation_of}
use Rattle.dfa_text.specs.Lists.{automaton_listed}
use Rattle.dfa_text.specs.Meaning.{FileAccepts}
use Rattle.dfa_text.specs.RelationText.{relation_text}
use Rattle.dfa_text.proofs.PrintedRelations.{text_lists}
use Rattle.definitions.specs.Tracks.{NamedSystem, Tracks, OverSets, OverSystems, systems_of, header_of}
use Rattle.definitions.specs.Trees.{Variable, File, Regex, Formula, Language, Bindings}
use Rattle.system_files.specs.SystemFiles.{Custom}
use Rattle.definitions.specs.Named.{AreNamed}
use Rattle.definitions.specs.FormulaTexts.{named_systems, IsFormulaText}
use Rattle.definitions.specs.TreeMeanings.{RegexWords}
use Rattle.definitions.specs.Texts.{IsTrackText}
use Rattle.definitions.specs.Laws.{LanguageTextsMeanTheirTrees}
use Rattle.definitions.proofs.FileNames.{file_systems}
use Rattle.definitions.proofs.TextMeanings.{system_sizes, truth_read}

-- what is listed under another header than one of sets accepts no word of tuples
no_words : (text : List ℕ) (listed : Listed) → relation_of text ≡ Ok listed → ((sets : List (List ℤ)) → listed.header ≡ file.Sets sets → ⊥) → (word : List (List ℤ)) → FileAccepts text word → ⊥
no_words text listed read other word h =
    let same : h.listed ≡ listed = let e : Ok h.listed ≡ Ok listed = sym h.read ∙ read in cc in
    other h.sets (subst (λ (l : Listed). l.header ≡ file.Sets h.sets) same h.header)

-- over systems a text accepts no word of tuples
systems_text_words : (custom : Custom) (direction : Direction) (named : List NamedSystem) (d : Automaton) (text : List ℕ) → 0 < length named → AreNamed custom direction named → d.sizes ≡ representation.sizes_of (systems_of named)
    → IsTable (letters_of d) d.states → text ≡ relation_text (header_of (OverSystems direction named)) d → (word : List (List ℤ)) → FileAccepts text word ↔ ⊥
systems_text_words custom direction named d text some are sizes table is word =
    let header = header_of (OverSystems direction named) in
    let read : relation_of text ≡ Ok (automaton_listed header d) =
    ap relation_of is ∙ text_lists header d (record { tracks = file_systems custom direction named some are; sizes = sizes ∙ sym (system_sizes direction named); table = table }) in
    (no_words text (automaton_listed header d) read (λ sets e. cc) word, λ none. absurd none)

track_text_words : (custom : Custom) (tracks : Tracks) (e : Expression (List ℤ)) (text : List ℕ) → IsTrackText custom tracks e text → (word : List (List ℤ)) → FileAccepts text word ↔ RegexWords tracks e word
track_text_words custom (OverSets sets) e text is word = is.accepts word
track_text_words custom (OverSystems direction named) e text is word =
    systems_text_words custom direction named is.automaton text is.some is.are is.of_relation.sizes is.of_relation.canonical.table is.text_is word

formula_text_words : (custom : Custom) (bindings : Bindings) (formula : trees.Formula) (variables : List Variable) (text : List ℕ) → IsFormulaText custom bindings variables formula text → (word : List (List ℤ)) → FileAccepts text word ↔ ⊥
formula_text_words custom bindings formula [] text (truth, has, is) word =
    (no_words text (record { header = file.Truth truth; outputs = []; lines = [] }) (ap relation_of is ∙ truth_read truth) (λ sets e. cc) word, λ none. absurd none)
formula_text_words custom bindings formula (v ∷ variables) text is word =
    let count = length-map (v ∷ variables) (λ (x : Variable). x.system) in
    systems_text_words custom is.direction (named_systems (v ∷ variables)) is.automaton text (omega (arith, count)) is.named is.holds.sizes is.canonical.table is.text_is word

-- words are not among automata
not_among : {P : Type 0} → Automata ≡ Words → P
not_among same = absurd (cc)

pub language_text_means : LanguageTextsMeanTheirTrees
language_text_means custom (File bytes) text may is word = (λ h. subst (λ (bs : List ℕ). FileAccepts bs word) is h, λ h. subst (λ (bs : List ℕ). FileAccepts bs word) (sym is) h)
language_text_means custom (Regex tracks e) text may is word = track_text_words custom tracks e text is word
language_text_means custom (Formula variables formula bindings) text may is word = formula_text_words custom bindings formula variables text is word
language_text_means custom (Language sets op trees) text may is word = is.accepts word
language_text_means custom _ text may is word = not_among may
