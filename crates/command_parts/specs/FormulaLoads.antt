-- What the code does for a formula, part by part.
use Rattle.std.specs.Prelude.{◌≡◌, ◌≢◌, ◌↔◌, ◌⊎◌, ℕ, ◌<◌, ◌≤◌, List, [], length, Bool, IsTrue, ⊤, map}
use Rattle.std.specs.List.{AllByRecursion}
use Rattle.wal_outside.specs.Files.{Files}
use Rattle.dfa_loading.specs.Loading.{FirstFails}
use Rattle.digit_tuple.specs.declared.header.Header.TheVariants as headers
use Rattle.digit_tuple.specs.declared.systems.SystemTrack.{SystemTrack}
use Rattle.dfa_text.specs.RelationText.{relation_text}
use Rattle.named_systems.specs.NamedSystems.{NamedSystem, HasSystemIn}
use Rattle.formula_parse.specs.FormulaTrees.{default_system}
use Rattle.formula_resolve.specs.declared.file.File.{File}
use Rattle.formula_resolve.specs.declared.variable.Variable.{Variable}
use Rattle.num_system.specs.Sealed.{SystemValue}
use Rattle.number_relations.specs.Relations.{RelationValue, RelationHolds}
use Rattle.command_parts.specs.declared.text_refusal.TextRefusal.TheVariants as text_refusals
use Rattle.command_parts.specs.declared.refusal.Refusal.TheVariants as refusals
use Rattle.command_parts.specs.declared.fault.Fault.{Fault}
use Rattle.command_parts.specs.declared.fault.Fault.TheVariants as faults
use Rattle.command_parts.specs.FormulaFaults.{fault_of_loading}
use Rattle.dfa_loading.specs.declared.fault.LoadFault.{LoadFault}
use Rattle.definitions.specs.FormulaTexts.{truth_text}
use Rattle.command_parts.specs.WordPrinting.{HaveNames, tracks_named}

-- why the tables of some files are not there
abbrev pub AreUnloaded : Files → List File → Fault → Type 0
AreUnloaded files named fault = (own : LoadFault) × (fault_of_loading own ≡ fault) × FirstFails files named own

-- each of these names and the default means a system
pub record HasSystems (names : List (List ℕ)) (systems : List NamedSystem) : Type 0 where
  pub mentioned : AllByRecursion (HasSystemIn systems) names
  pub default : HasSystemIn systems default_system

-- the names of the systems of variables
abbrev pub variable_systems : List Variable → List (List ℕ)
variable_systems variables = map (λ (v : Variable). v.system) variables

-- the tracks of variables over these systems, as long as there are both
abbrev pub tracks_over : List Variable → List SystemValue → List SystemTrack
tracks_over variables systems = tracks_named (variable_systems variables) systems

-- there is a variable for each of the systems, and each has as many digits as a track may have
abbrev pub HaveTracks : List Variable → List SystemValue → Type 0
HaveTracks variables systems = HaveNames (variable_systems variables) systems

-- the text of the automaton under the names of these systems
abbrev pub automaton_text : List Variable → RelationValue → List ℕ
automaton_text variables r = relation_text (headers.Systems (tracks_over variables r.systems)) r.automaton

-- the text of a relation on the numbers of these variables: its truth where it has no track
abbrev pub IsTextOf : List Variable → RelationValue → List ℕ → Type 0
IsTextOf variables r text =
    ((r.names ≡ []) × ((truth : Bool) × (IsTrue truth ↔ RelationHolds r []) × (text ≡ truth_text truth)))
    ⊎ ((r.names ≢ []) × (text ≡ automaton_text variables r) × (length text ≤ 16777216))

-- the text is too long, or memory ran out
abbrev pub HasNoTextOf : List Variable → RelationValue → Fault → Type 0
HasNoTextOf variables r (faults.Refused refusal) = (refusal ≡ refusals.Text (text_refusals.Long 16777216)) × (r.names ≢ []) × (16777216 < length (automaton_text variables r))
HasNoTextOf variables r (faults.Store folder name) = ⊥
HasNoTextOf variables r faults.Memory = ⊤
