-- What is known of a word whose table is read and whose track is over a base: its systems are the base, read in the direction that the name says.
use Rattle.std.proofs.Common.{◌≡◌, ℕ, List, [], ◌∷◌, length, get_or, Option, Some, refl, ap, ◌∙◌, subst, arith}
use Rattle.digit_tuple.specs.declared.direction.Direction.{Direction}
use Rattle.base_k.specs.Positional.{base}
use Rattle.dfa_text.specs.RelationText.{word_text}
use Rattle.digit_tuple.specs.declared.header.Header.TheVariants as headers
use Rattle.digit_tuple.specs.declared.systems.SystemTrack.{SystemTrack}
use Rattle.formula_build.specs.TrackSystems.{IsWordOverSystems}
use Rattle.formula_resolve.specs.Headers.{Headers, word_tracks}
use Rattle.named_systems.specs.NamedSystems.{NamedSystem, system_named}
use Rattle.num_system.specs.Sealed.{SystemValue, system_of}
use Rattle.num_system.specs.Tracks.{absent_system, direction_of, systems_of}
use Rattle.word_output.specs.LetterFunctions.{outputs_of}
use Rattle.word_output.specs.Words.{WordValue}
use Rattle.definitions.proofs.WordValueTexts.{text_of_word}
use Rattle.system_files.specs.SystemFiles.{Custom}
use Rattle.word_commands.specs.declared.base_system.BaseSystem.{BaseSystem}
use Rattle.word_commands.specs.BaseWords.{IsBaseOf, IsNameOfBase, name_of_base, named_base}
use Rattle.command_parts.specs.FormulaSteps.{AreMeant}
use Rattle.command_parts.specs.TableReads.{TableRead, library_with}
use Rattle.command_parts.specs.WordPrinting.{named_text}
use Rattle.word_commands.proofs.BaseNames.{base_meant}
use Rattle.word_commands.proofs.BaseTexts.{one_track}
use Rattle.command_parts.proofs.MeantNames.{found_meant}

-- the one system of the tracks is this base, read in its direction
pub record IsOverBaseSystem (systems : List SystemValue) (s : BaseSystem) : Type 0 where
  pub base_is : systems_of systems ≡ base s.base ∷ []
  pub direction_is : direction_of systems ≡ s.direction

-- a system that is found under the name of a base is the base
pub found_base : (custom : Custom) (systems : List NamedSystem) (name : List ℕ) (s : BaseSystem) (system : SystemValue) → AreMeant custom systems → IsNameOfBase s name → system_named systems name ≡ Some system → (system.direction ≡ s.direction) × (system_of system ≡ base s.base)
found_base custom systems name s system meant is found = base_meant custom name s system.direction (system_of system) is (found_meant custom systems name system meant found)

only_system : (systems : List SystemValue) → length systems ≡ 1 → systems ≡ get_or systems 0 absent_system ∷ []
only_system [] one = absurd (omega (arith, one))
only_system (s ∷ []) one = refl
only_system (s ∷ t ∷ systems) one = absurd (omega (arith, one))

-- so is that of the tracks of a word that is over it
pub word_base : (custom : Custom) (systems : List NamedSystem) (reads : List TableRead) (asked : Option Direction) (h : Headers) (word : List ℕ) (s : BaseSystem) (v : WordValue) → AreMeant custom systems → IsBaseOf asked h word s
    → IsWordOverSystems (library_with reads systems) (word_tracks h word) v → IsOverBaseSystem v.systems s
word_base custom systems reads asked h word s v meant is over =
    let one : IsWordOverSystems (library_with reads systems) (name_of_base s ∷ []) v = subst (λ (ns : List (List ℕ)). IsWordOverSystems (library_with reads systems) ns v) is.tracks_are over in
    let system : SystemValue = get_or v.systems 0 absent_system in
    let here = found_base custom systems (name_of_base s) s system meant (is.base_is, refl) (one.each 0 (omega arith)) in
    let only : v.systems ≡ system ∷ [] = only_system v.systems one.count in
    record {
      base_is = ap systems_of only ∙ ap (λ x. x ∷ []) here.1;
      direction_is = ap direction_of only ∙ here.0;
    }

-- the text of a word over a base under the name of the base
pub base_text : (s : BaseSystem) (name : List ℕ) (v : WordValue) → name ≡ name_of_base s → systems_of v.systems ≡ base s.base ∷ [] → named_text (name ∷ []) v ≡ text_of_word s.direction (named_base s ∷ []) v
base_text s name v name_is over =
    ap (λ (n : List ℕ). named_text (n ∷ []) v) name_is
    ∙ ap (λ (ts : List SystemTrack). word_text (headers.Systems ts) v.function.automaton (outputs_of v.function)) (one_track s.base (name_of_base s) v.systems over)
