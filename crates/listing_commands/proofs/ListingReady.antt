-- A table that a file lists can be read, and its tracks have the digits of its header.
use Rattle.std.proofs.Common.{◌≡◌, ℕ, ℤ, true, false, List, [], ◌∷◌, length, Ok, inl, inr, refl, sym, ap, ◌∙◌, subst, arith}
use Rattle.std.specs.List.{AllByRecursion}
use Rattle.wal_outside.specs.Files.{Files}
use Rattle.digit_tuple.specs.Deterministic as deterministic
use Rattle.digit_tuple.specs.Sets.{sizes_of}
use Rattle.digit_tuple.specs.Steps.{StepLog}
use Rattle.digit_tuple.specs.Systems.{IsDigitCount, digit_sets}
use Rattle.digit_tuple.specs.declared.step_fault.StepFault.TheVariants.{Memory}
use Rattle.digit_tuple.proofs.SystemLemmas.{length-digit_set}
use Rattle.automaton_steps.proofs.ThenAnswers.{no_fault}
use Rattle.dfa_loading.specs.Headers.{headers_of}
use Rattle.dfa_loading.specs.Loading.{AreListedBy}
use Rattle.dfa_loading.specs.declared.loaded.Loaded.{Loaded}
use Rattle.dfa_reading.specs.Branching.{AreGiven, sizes_in}
use Rattle.dfa_reading.specs.Headers.{Header, Truth, Systems, Sets, has_states}
use Rattle.dfa_reading.specs.Listed.{Listed}
use Rattle.dfa_reading.specs.Reading.{relation_of}
use Rattle.formula_resolve.proofs.FirstLemmas.{first_once}
use Rattle.named_systems.specs.NamedSystems.{NamedSystem, AreSealed, HasSystemIn}
use Rattle.num_system.specs.Sealed.{SystemValue, system_of}
use Rattle.num_system.specs.Tracks.{systems_of}
use Rattle.number_relations.specs.Relations.{RelationValue}
use Rattle.numeration.specs.Representation as representation
use Rattle.language_steps.specs.LanguageSteps.{DoesPlainTable}
use Rattle.language_steps.specs.Operands.{IsPlainTable}
use Rattle.language_steps.specs.Tables.{is_over_sets}
use Rattle.definitions.specs.TableSteps.{DoesTable, IsTable}
use Rattle.definitions.proofs.FileTables.{file_is_table}
use Rattle.definitions.proofs.TableRelations.{table_holds}
use Rattle.system_files.specs.SystemFiles.{Custom}
use Rattle.command_parts.specs.FormulaLoads.{HasSystems}
use Rattle.command_parts.specs.FormulaSteps.{AreMeant}
use Rattle.listing_commands.specs.ListingMakes.{CanBeListed, HasTracks, HaveHeader, sets_below}
use Rattle.listing_commands.specs.ListingOutcomes.{listing_files, listing_mentions, listing_systems}
use Rattle.command_parts.specs.TableReads.{AreSystemsUnder}
use Rattle.command_parts.specs.TableReading.{IsReadable}
use Rattle.command_parts.specs.WordPrinting.{tracks_named}
use Rattle.command_parts.proofs.MeantNames.{found_meant, named_digits}
use Rattle.command_parts.proofs.MentionedTables.{IsNotOverSets, tables_systems}
use Rattle.command_parts.proofs.ReadableTables.{all_readable}
use Rattle.command_parts.proofs.TableFiles.{files_apart, tables_listed}
use Rattle.command_parts.proofs.TableHeaders.{headers_kept, tables_shared_direction}
use Rattle.command_parts.proofs.TableRelations.{AreUnder, as_many_under, below_sealed, below_tracks, read_shared_direction}

not_sets : (table : Loaded) → is_over_sets table.listed.header ≡ false → IsNotOverSets table
not_sets table other sets is = let no : true ≡ false = sym (ap is_over_sets is) ∙ other in cc

-- a table that is loaded can be read
pub can_be_listed : (files : Files) (name : List ℕ) (table : Loaded) (systems : List NamedSystem) → AreListedBy files (listing_files name) (table ∷ []) → AreSealed systems → HasSystems (listing_systems (table ∷ []) name) systems → (custom : Custom) × AreMeant custom systems → CanBeListed systems table
can_be_listed files name table systems listed sealed has meant = record {
  lists = ap relation_of listed.0.lists.text_is ∙ listed.0.lists.lists;
  is_table = file_is_table listed.0.text table.listed listed.0.lists.lists;
  sealed = sealed;
  readable = λ other. (all_readable meant.0 systems (table ∷ []) (headers_of (table ∷ [])) meant.1 (tables_listed file_is_table files (listing_files name) (table ∷ []) listed)
      (headers_kept (table ∷ []) (files_apart files (listing_files name) (table ∷ []) (first_once (listing_mentions name)) listed)) (not_sets table other, tt) (tables_shared_direction files (listing_files name) (table ∷ []) listed)
      (tables_systems (HasSystemIn systems) (headers_of (table ∷ [])) files (listing_mentions name) (table ∷ []) listed has.mentioned)).0;
  meant = meant;
}

-- systems that are found under names have as many digits as a track may have
found_digits : (custom : Custom) (systems : List NamedSystem) (names : List (List ℕ)) (found : List SystemValue) → AreMeant custom systems → AreUnder systems names found → AllByRecursion (λ (s : SystemValue). IsDigitCount s.digits) found
found_digits custom systems [] [] meant under = tt
found_digits custom systems [] (s ∷ found) meant under = absurd under
found_digits custom systems (name ∷ names) [] meant under = absurd under
found_digits custom systems (name ∷ names) (s ∷ found) meant under = (named_digits custom name s.direction (system_of s) (found_meant custom systems name s meant under.0), found_digits custom systems names found meant under.1)

have_header : (custom : Custom) (systems : List NamedSystem) (header : Header) (found : List SystemValue) → AreMeant custom systems → AreSystemsUnder systems header found → HaveHeader header found
have_header custom systems (Truth value) found meant under = under
have_header custom systems (Systems names) found meant under = record { count = sym (as_many_under systems names found under); digits = found_digits custom systems names found meant under }
have_header custom systems (Sets sets) found meant under = absurd under

-- those under the names of its header are its tracks
pub has_tracks : (systems : List NamedSystem) (table : Loaded) (found : List SystemValue) → CanBeListed systems table → IsReadable systems table → AreSystemsUnder systems table.listed.header found → HasTracks table found
has_tracks systems table found can readable under = record {
  lists = can.lists;
  is_table = can.is_table;
  sealed = below_sealed systems table.listed.header found can.sealed under;
  tracks_are = below_tracks systems table.listed.header found under (read_shared_direction systems table found readable under);
  named = have_header can.meant.0 systems table.listed.header found can.meant.1 under;
}

-- a table over sets has a state
pub plain_table : (table : Loaded) (sets : List (List ℤ)) → table.listed.header ≡ Sets sets → IsTable table.listed → IsPlainTable table
plain_table table sets header is = record { states = is (ap has_states header); given = subst (λ (h : Header). AreGiven h []) (sym header) tt }

-- the sizes of what is read
pub plain_sizes : (listed : Listed) (sets : List (List ℤ)) → listed.header ≡ Sets sets → (d : deterministic.Automaton) (old new : StepLog) → DoesPlainTable listed old (Ok d) new → d.sizes ≡ sizes_of sets
plain_sizes listed sets header d old new (inl large) = absurd (no_fault d _ large.refused)
plain_sizes listed sets header d old new (inr (inl out)) = absurd (no_fault d Memory out)
plain_sizes listed sets header d old new (inr (inr (n, over, done))) = done.step.made_is.sizes ∙ (over.is_branching.sizes_are ∙ ap (λ (h : Header). sizes_in h []) header)

named_sizes : (names : List (List ℕ)) (found : List SystemValue) → length names ≡ length found → sizes_of (digit_sets (tracks_named names found)) ≡ representation.sizes_of (systems_of found)
named_sizes [] [] count = refl
named_sizes [] (s ∷ found) count = absurd (omega (arith, count))
named_sizes (name ∷ names) [] count = absurd (omega (arith, count))
named_sizes (name ∷ names) (s ∷ found) count = let rest = named_sizes names found (omega (arith, count)) in λ i. length-digit_set s.digits i ∷ rest i

below_sizes : (header : Header) (found : List SystemValue) → HaveHeader header found → sizes_of (sets_below header found) ≡ representation.sizes_of (systems_of found)
below_sizes (Truth value) found none = sym (ap (λ (ss : List SystemValue). representation.sizes_of (systems_of ss)) none)
below_sizes (Systems names) found have = named_sizes names found have.count
below_sizes (Sets sets) found have = absurd have

pub relation_sizes : (table : Loaded) (found : List SystemValue) (r : RelationValue) (old new : StepLog) → HasTracks table found → DoesTable found table.listed old (Ok r) new → r.automaton.sizes ≡ sizes_of (sets_below table.listed.header found)
relation_sizes table found r old new has does =
    let made = table_holds found table.listed old new r (record { sealed = has.sealed; tracks = has.tracks_are }) does in
    made.relation.closed.sizes ∙ (ap (λ (ss : List SystemValue). representation.sizes_of (systems_of ss)) made.systems_are ∙ sym (below_sizes table.listed.header found has.named))
