-- The word that listed automata make has the letters of their definitions, so its text is that of the definition that is stored.
use Rattle.std.proofs.Common.{◌≡◌, ◌↔◌, ℕ, suc, ℤ, pos, List, [], ◌∷◌, length, Option, None, Some, Ok, inl, inr, refl, sym, ap, ◌∙◌, subst, arith}
use Rattle.std.specs.Int.{w32}
use Rattle.std.specs.List.{All, AllByRecursion}
use Rattle.std.specs.Prelude.{FitsSigned}
use Rattle.std.proofs.lemmas.Option.{same_Some}
use Rattle.wal_outside.specs.Files.{Files}
use Rattle.combinations.specs.Combined.{IsCombined, AreSystemsFor, IsCombination}
use Rattle.combinations.specs.Parts.{PartValue}
use Rattle.command_head.specs.Heads.{ValuedName}
use Rattle.command_head.specs.Values.{value_at}
use Rattle.digit_tuple.specs.Steps.{StepLog}
use Rattle.digit_tuple.specs.Systems.{IsDigitCount}
use Rattle.digit_tuple.specs.declared.header.Header.TheVariants as headers
use Rattle.digit_tuple.specs.declared.steps.StepLine.{StepLine}
use Rattle.digit_tuple.specs.declared.systems.SystemTrack.{SystemTrack}
use Rattle.dfa_loading.specs.Headers.{headers_of}
use Rattle.dfa_loading.specs.Loading.{AreListedBy}
use Rattle.dfa_loading.specs.declared.loaded.Loaded.{Loaded}
use Rattle.dfa_text.specs.RelationText.{word_text}
use Rattle.plan_relations.specs.Libraries.{NamedRelation, relation_named}
use Rattle.named_systems.specs.NamedSystems.{NamedSystem}
use Rattle.formula_resolve.specs.Headers.{Headers, automaton_tracks}
use Rattle.num_system.specs.Sealed.{SystemValue, system_of}
use Rattle.num_system.specs.Tracks.{direction_of}
use Rattle.number_relations.specs.Relations.{RelationValue}
use Rattle.word_output.specs.Words.{WordValue}
use Rattle.definitions.specs.Texts.{HasTreeText, Stores}
use Rattle.definitions.specs.Tracks as tracks
use Rattle.definitions.specs.Tracks.{header_tracks}
use Rattle.definitions.specs.TreeMeanings.{first_letter}
use Rattle.definitions.specs.Trees.{Entry, Ledger, Parts, Combine, with_part, custom_of}
use Rattle.word_output.specs.LetterFunctions.{outputs_of}
use Rattle.definitions.proofs.TextMeanings.{text_means}
use Rattle.definitions.proofs.TableRelations.{table_holds}
use Rattle.definitions.proofs.WordTexts.{word_text_means}
use Rattle.definitions.proofs.WordValueTexts.{IsWordNamed, HasLettersOf, combined_word_text}
use Rattle.system_files.specs.SystemFiles.{Custom}
use Rattle.word_commands.specs.CombineMakes.{first_names}
use Rattle.word_commands.specs.CombineOutcomes.{WordTracks, HaveSystemsOfFirst, first_plain, listed_files, listed_names, listed_systems, parts_from}
use Rattle.word_commands.specs.CombineSteps.{ArePartsFrom, AreCombineSteps}
use Rattle.command_parts.specs.FormulaLoads.{HasSystems}
use Rattle.command_parts.specs.FormulaSteps.{AreMeant}
use Rattle.command_parts.specs.TableReads.{relations_in}
use Rattle.command_parts.specs.WordPrinting.{HaveNames, tracks_named, named_text}
use Rattle.word_commands.proofs.CombineCheckNames.{WordTracksAnswers}
use Rattle.word_commands.proofs.ListedTables.{listed_readable, listed_under}
use Rattle.command_parts.proofs.MeantNames.{found_meant, named_digits}
use Rattle.command_parts.proofs.TableMeanings.{HoldsAs, named_holds_as, tables_mean_as}
use Rattle.command_parts.proofs.TableRelations.{AreUnder, as_many_under, with_names, names_with, named_with, systems_with}
use Rattle.command_parts.proofs.WordLaws.{words_have_file_letters}

-- the tracks of names over systems are those of the systems with their names
tracks_are_named : (names : List (List ℕ)) (found : List SystemValue) → tracks_named names found ≡ header_tracks (with_names names found)
tracks_are_named [] found = refl
tracks_are_named (name ∷ names) [] = refl
tracks_are_named (name ∷ names) (s ∷ found) = ap (λ (ts : List SystemTrack). record { name = name; digits = s.digits } ∷ ts) (tracks_are_named names found)

-- a system that a name means has as many digits as a track may have
under_digits : (custom : Custom) (systems : List NamedSystem) (names : List (List ℕ)) (found : List SystemValue) → AreMeant custom systems → AreUnder systems names found → AllByRecursion (λ (s : SystemValue). IsDigitCount s.digits) found
under_digits custom systems [] [] meant under = tt
under_digits custom systems [] (s ∷ found) meant under = absurd under
under_digits custom systems (name ∷ names) [] meant under = tt
under_digits custom systems (name ∷ names) (s ∷ found) meant under = (named_digits custom name s.direction (system_of s) (found_meant custom systems name s meant under.0), under_digits custom systems names found meant under.1)

-- there are as many systems as names
pub have_names : (custom : Custom) (systems : List NamedSystem) (names : List (List ℕ)) (found : List SystemValue) → AreMeant custom systems → AreUnder systems names found → HaveNames names found
have_names custom systems names found meant under = record { count = sym (as_many_under systems names found under); digits = under_digits custom systems names found meant under }

with_count : (names : List (List ℕ)) (found : List SystemValue) → length found ≡ length names → length (with_names names found) ≡ length found
with_count [] found count = sym count
with_count (name ∷ names) [] count = refl
with_count (name ∷ names) (s ∷ found) count = ap suc (with_count names found (omega (arith, count)))

-- The first relation that holds has the value of the first definition that holds.
module _ (ledger : Ledger) (relations : List NamedRelation) (means : (name : List ℕ) (r : RelationValue) → relation_named relations name ≡ Some r → HoldsAs ledger name r) (ns : List ℕ) (letter : ℤ) where
  abbrev pub MakesSame : List PartValue → Parts → Type 0
  MakesSame parts trees = IsCombined (Some (pos 0)) parts ns letter ↔ first_letter (custom_of ledger) trees ns letter

  pub letters_same : (place : ℕ) (automata : List ValuedName) (parts : List PartValue) → ArePartsFrom relations place automata parts → MakesSame parts (parts_from ledger place automata)
  letters_same place [] [] are = ((λ is. sym (same_Some (pos 0) letter is)), (λ is. ap Some (sym is)))
  letters_same place [] (p ∷ parts) are = absurd are
  letters_same place (v ∷ automata) [] are = absurd are
  letters_same place (v ∷ automata) (p ∷ parts) (is, value, rest) =
      let own : HoldsAs ledger v.name p.relation = means v.name p.relation is in
      let later : MakesSame parts (parts_from ledger (suc place) automata) = letters_same (suc place) automata parts rest in
      subst (λ (e : Option Entry). MakesSame (p ∷ parts) (with_part e (value_at place v.value) (parts_from ledger (suc place) automata))) (sym own.there) (there own later, back own later)
    where
      there : (own : HoldsAs ledger v.name p.relation) → MakesSame parts (parts_from ledger (suc place) automata) → IsCombined (Some (pos 0)) (p ∷ parts) ns letter
          → first_letter (custom_of ledger) (with_part (Some own.entry) (value_at place v.value) (parts_from ledger (suc place) automata)) ns letter
      there own later (inl (holds, letter_is)) = inl ((own.same ns).0 holds, letter_is ∙ value)
      there own later (inr (none, others)) = inr ((λ holds. none ((own.same ns).1 holds)), later.0 others)

      back : (own : HoldsAs ledger v.name p.relation) → MakesSame parts (parts_from ledger (suc place) automata)
          → first_letter (custom_of ledger) (with_part (Some own.entry) (value_at place v.value) (parts_from ledger (suc place) automata)) ns letter → IsCombined (Some (pos 0)) (p ∷ parts) ns letter
      back own later (inl (holds, letter_is)) = inl ((own.same ns).1 holds, letter_is ∙ sym value)
      back own later (inr (none, others)) = inr ((λ holds. none ((own.same ns).0 holds)), later.1 others)

-- the systems of the first automaton, with their names
abbrev pub first_tracks : Headers → List (List ℕ) → WordValue → WordTracks
first_tracks h [] word = record { direction = direction_of word.systems; named = [] }
first_tracks h (name ∷ names) word = record { direction = direction_of word.systems; named = with_names (automaton_tracks h name) word.systems }

module _ (automata : List ValuedName) (tables : List Loaded) (files : Files) (listed : AreListedBy files (listed_files automata) tables)
    (plain : first_plain (headers_of tables) (listed_names automata) ≡ None) (shape : HaveSystemsOfFirst (headers_of tables) (listed_names automata)) (custom : Custom) (admitted : StepLog) (word : WordValue) (lines : List StepLine)
    (steps : AreCombineSteps admitted custom tables automata word lines) (has : HasSystems (listed_systems tables automata) steps.before.systems) where
  abbrev pub h : Headers
  h = headers_of tables

  combination : IsCombination (Some (pos 0)) steps.before.parts steps.before.tracks word
  combination = steps.done.step.made_is

  under_first : (vs : List ValuedName) (ps : List PartValue) → HaveSystemsOfFirst h (listed_names vs) → ArePartsFrom (relations_in steps.before.reads) 0 vs ps → AreSystemsFor ps steps.before.tracks
      → ((name : List ℕ) (r : RelationValue) → relation_named (relations_in steps.before.reads) name ≡ Some r → AreUnder steps.before.systems (automaton_tracks h name) r.systems) → AreUnder steps.before.systems (first_names h (listed_names vs)) steps.before.tracks
  under_first [] ps one are tracks_are under = absurd one
  under_first (v ∷ vs) [] one are tracks_are under = absurd are
  under_first (v ∷ vs) (p ∷ ps) one (is, value, rest) tracks_are under = subst (λ (ss : List SystemValue). AreUnder steps.before.systems (automaton_tracks h v.name) ss) (sym tracks_are) (under v.name p.relation is)

  -- the word's systems are under the names of the first automaton's tracks
  pub word_under : AreUnder steps.before.systems (first_names h (listed_names automata)) word.systems
  word_under =
      subst (λ (ss : List SystemValue). AreUnder steps.before.systems (first_names h (listed_names automata)) ss) (sym combination.systems_are)
      (under_first automata steps.before.parts shape steps.before.parts_are steps.before.tracks_are
      (listed_under automata tables files listed steps.before.systems steps.before.sealed custom steps.before.meant plain has steps.before.reads admitted steps.before.reading steps.before.read))

  pub word_names : HaveNames (first_names h (listed_names automata)) word.systems
  word_names = have_names custom steps.before.systems (first_names h (listed_names automata)) word.systems steps.before.meant word_under

  -- so they are those of the word's tracks
  pub word_tracks_are : WordTracksAnswers custom h (listed_names automata) (Ok (first_tracks h (listed_names automata) word))
  word_tracks_are = by (listed_names automata) shape word_under
    where
      by : (names : List (List ℕ)) → HaveSystemsOfFirst h names → AreUnder steps.before.systems (first_names h names) word.systems → WordTracksAnswers custom h names (Ok (first_tracks h names word))
      by [] one under = absurd one
      by (name ∷ names) one under = (
        names_with custom steps.before.systems steps.before.meant (automaton_tracks h name) word.systems under,
        named_with custom steps.before.systems steps.before.meant (direction_of word.systems) (automaton_tracks h name) word.systems combination.word_is.shared_direction under,
      )

  -- the text of a word with these letters is that of the definition
  word_text_is : (parts : Parts) → All (λ letter. FitsSigned w32 letter) word.function.letters → ((ns : List ℕ) (letter : ℤ) → IsCombined (Some (pos 0)) steps.before.parts ns letter ↔ first_letter custom parts ns letter)
      → HasTreeText custom (Combine (first_tracks h (listed_names automata) word).direction (first_tracks h (listed_names automata) word).named parts) (named_text (first_names h (listed_names automata)) word)
  word_text_is parts fit same = by (listed_names automata) shape word_under
    where
      by : (names : List (List ℕ)) → HaveSystemsOfFirst h names → AreUnder steps.before.systems (first_names h names) word.systems → HasTreeText custom (Combine (first_tracks h names word).direction (first_tracks h names word).named parts) (named_text (first_names h names) word)
      by [] one under = absurd one
      by (name ∷ names) one under =
          let of_first : List (List ℕ) = automaton_tracks h name in
          let named : List tracks.NamedSystem = with_names of_first word.systems in
          let count : length named ≡ length word.systems = with_count of_first word.systems (as_many_under steps.before.systems of_first word.systems under) in
          let is : IsWordNamed custom (direction_of word.systems) named word = record {
            word = combination.word_is;
            fits = fit;
            are = named_with custom steps.before.systems steps.before.meant (direction_of word.systems) of_first word.systems combination.word_is.shared_direction under;
            direction = refl;
            systems_are = systems_with custom steps.before.systems steps.before.meant of_first word.systems under;
          } in
          let letters : HasLettersOf word named (λ ns letter. first_letter custom parts ns letter) = λ ns letter long.
          let own = combination.letters ns letter (long ∙ (count ∙ ap length combination.systems_are)) in
          ((λ has. (same ns letter).0 (own.0 has)), (λ has. own.1 ((same ns letter).1 has))) in
          subst (λ (ts : List SystemTrack). HasTreeText custom (Combine (direction_of word.systems) named parts) (word_text (headers.Systems ts) word.function.automaton (outputs_of word.function)))
          (sym (tracks_are_named of_first word.systems)) (combined_word_text custom (direction_of word.systems) named parts word is letters)

-- and it is that of the definition that the command stores
module _ (ledger : Ledger) (automata : List ValuedName) (tables : List Loaded) (files : Files) (stores : Stores ledger files) (listed : AreListedBy files (listed_files automata) tables)
    (plain : first_plain (headers_of tables) (listed_names automata) ≡ None) (shape : HaveSystemsOfFirst (headers_of tables) (listed_names automata)) (admitted : StepLog) (word : WordValue) (lines : List StepLine)
    (steps : AreCombineSteps admitted (custom_of ledger) tables automata word lines) (has : HasSystems (listed_systems tables automata) steps.before.systems) where
  relations_mean : (name : List ℕ) (r : RelationValue) → relation_named (relations_in steps.before.reads) name ≡ Some r → HoldsAs ledger name r
  relations_mean name r is =
      let readable = listed_readable automata tables files listed steps.before.systems steps.before.sealed (custom_of ledger) steps.before.meant plain has in
      named_holds_as ledger (listed_files automata) steps.before.reads
      (tables_mean_as (record { texts = text_means; words = word_text_means; tables = table_holds; letters = words_have_file_letters }) ledger files steps.before.systems stores steps.before.sealed steps.before.meant (listed_files automata) tables steps.before.reads admitted steps.before.reading listed readable steps.before.read)
      name r is

  -- where its letters fit in 32 bits
  pub stored_text_is : All (λ letter. FitsSigned w32 letter) word.function.letters
      → HasTreeText (custom_of ledger) (Combine (first_tracks (headers_of tables) (listed_names automata) word).direction (first_tracks (headers_of tables) (listed_names automata) word).named (parts_from ledger 0 automata)) (named_text (first_names (headers_of tables) (listed_names automata)) word)
  stored_text_is fit =
      word_text_is automata tables files listed plain shape (custom_of ledger) admitted word lines steps has (parts_from ledger 0 automata) fit
      (λ ns letter. letters_same ledger (relations_in steps.before.reads) relations_mean ns letter 0 automata steps.before.parts steps.before.parts_are)
