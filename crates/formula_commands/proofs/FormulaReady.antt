-- What resolving and building a formula asks for, of the systems that a session keeps.
use Rattle.std.proofs.Common.{◌≡◌, List, None, Result, Ok, refl, sym, ap, ◌∙◌, subst}
use Rattle.dfa_loading.specs.Headers.{headers_of}
use Rattle.dfa_loading.specs.declared.loaded.Loaded.{Loaded}
use Rattle.digit_tuple.specs.Steps.{StepLog}
use Rattle.digit_tuple.specs.declared.step_fault.StepFault.{StepFault}
use Rattle.formula_parse.specs.Trees as trees
use Rattle.formula_parse.specs.Views.{formula_view}
use Rattle.formula_parse.specs.declared.tree.Formula as declared
use Rattle.formula_resolve.specs.FreeVariables.{free_variables}
use Rattle.formula_resolve.specs.Occurrences.{all_occurrences}
use Rattle.formula_resolve.specs.Headers.{Headers}
use Rattle.formula_resolve.specs.Resolving.{fault_of}
use Rattle.formula_build.specs.KnownNames.{AreKnownIn}
use Rattle.plan_relations.specs.Libraries.{ReadValue, LibraryValue}
use Rattle.named_systems.specs.NamedSystems.{NamedSystem, AreSealed}
use Rattle.formula_build.specs.Resolved.{plan_headers}
use Rattle.formula_build.specs.ResolvedViews.{IsPlanned, formula_of, headers_in}
use Rattle.formula_build.specs.ResolvedViews.{library_of as resolved_library}
use Rattle.formula_build.specs.Solutions.{BuildsFormula, IsSolution, formula_plan, direction_named}
use Rattle.formula_build.specs.TrackSystems.{Fits}
use Rattle.formula_build.specs.VariableTracks.{IsOverVariables}
use Rattle.formula_build.specs.declared.names.Names.{Names}
use Rattle.formula_build.specs.declared.resolving.Resolved.{Resolved}
use Rattle.number_relations.specs.Relations.{RelationValue}
use Rattle.system_files.specs.SystemFiles.{Custom}
use Rattle.formula_commands.specs.FormulaOutcomes.{ResolvedAnswers}
use Rattle.command_parts.specs.FormulaSteps.{AreMeant, AreFormulaSteps}
use Rattle.command_parts.specs.TableReads.{TableRead, AreTablesRead, read_of, library_with}

-- a formula that was resolved has no fault
pub resolves_here : (tables : List Loaded) (formula : trees.Formula) (headers : Headers) → headers ≡ headers_of tables → fault_of headers formula ≡ None → ResolvedAnswers tables formula (Ok tt)
resolves_here tables formula headers is reported = subst (λ (h : Headers). fault_of h formula ≡ None) is reported

-- what is known of a formula that was resolved with the names of a session
pub record IsSetUp (r : Resolved) (read : ReadValue) (reads : List TableRead) (formula : trees.Formula) (tables : List Loaded) (systems : List NamedSystem) : Type 0 where
  pub library : resolved_library r read ≡ library_with reads systems
  pub headers : headers_in r ≡ headers_of tables
  pub formula_is : formula_of r ≡ formula

pub set_up : (r : Resolved) (read : ReadValue) (reads : List TableRead) (formula : declared.Formula) (tables : List Loaded) (names : Names) (systems : List NamedSystem) → r.formula.now ≡ formula → r.names.now ≡ names → names.headers ≡ headers_of tables → names.systems ≡ systems
    → read ≡ read_of reads → IsSetUp r read reads (formula_view formula) tables systems
set_up r read reads formula tables names systems formula_eq names_are headers systems_are read_is = record {
  library = λ i. record { relations = (read_is i).relations; words = (read_is i).words; systems = ((ap (λ (n : Names). n.systems) names_are) ∙ systems_are) i };
  headers = ap (λ (n : Names). n.headers) names_are ∙ headers;
  formula_is = ap formula_view formula_eq;
}

module _ (r : Resolved) (read : ReadValue) (reads : List TableRead) (formula : trees.Formula) (tables : List Loaded) (systems : List NamedSystem) (up : IsSetUp r read reads formula tables systems) where
  pub fits_here : Fits (library_with reads systems) (plan_headers (headers_of tables)) direction_named → Fits (resolved_library r read) (plan_headers (headers_in r)) direction_named
  fits_here fits =
      subst (λ (h : Headers). Fits (resolved_library r read) (plan_headers h) direction_named) (sym up.headers)
      (subst (λ (l : LibraryValue). Fits l (plan_headers (headers_of tables)) direction_named) (sym up.library) fits)

  pub known_here : AreKnownIn (library_with reads systems) formula → AreKnownIn (resolved_library r read) (formula_of r)
  known_here known =
      subst (λ (f : trees.Formula). AreKnownIn (resolved_library r read) f) (sym up.formula_is)
      (subst (λ (l : LibraryValue). AreKnownIn l formula) (sym up.library) known)

  pub solution_here : (c : RelationValue) → IsSolution (resolved_library r read) (formula_of r) c → IsSolution (library_with reads systems) formula c
  solution_here c is = subst (λ (f : trees.Formula). IsSolution (library_with reads systems) f c) up.formula_is (subst (λ (l : LibraryValue). IsSolution l (formula_of r) c) up.library is)

  pub tracks_here : (c : RelationValue) → IsOverVariables (resolved_library r read) r.variables.items c → IsOverVariables (library_with reads systems) r.variables.items c
  tracks_here c over = subst (λ (l : LibraryValue). IsOverVariables l r.variables.items c) up.library over

  pub variables_here : IsPlanned r → r.variables.items ≡ free_variables (all_occurrences (headers_of tables) formula)
  variables_here planned = planned.variables ∙ (λ i. free_variables (all_occurrences (up.headers i) (up.formula_is i)))

  -- the steps were done, or stopped, after the tables were read
  pub steps_here : (admitted : StepLog) (custom : Custom) (reading new : StepLog) (result : Result RelationValue StepFault) → AreSealed systems → AreMeant custom systems → AreTablesRead systems admitted tables reads reading
      → BuildsFormula (resolved_library r read) (formula_plan (headers_in r) (formula_of r)) reading result new → AreFormulaSteps admitted custom tables formula result new.lines
  steps_here admitted custom reading new result are_sealed meant tables_read builds =
      let two = subst (λ (l : LibraryValue). BuildsFormula l (formula_plan (headers_in r) (formula_of r)) reading result new) up.library builds in
      let three = subst (λ (h : Headers). BuildsFormula (library_with reads systems) (formula_plan h (formula_of r)) reading result new) up.headers two in
      record {
        systems = systems;
        sealed = are_sealed;
        meant = meant;
        reads = reads;
        reading = reading;
        read = tables_read;
        log = new;
        builds = subst (λ (f : trees.Formula). BuildsFormula (library_with reads systems) (formula_plan (headers_of tables) f) reading result new) up.formula_is three;
        lines_are = refl;
      }
