-- From the relation that was built of a formula to what its command stores and prints.
use Rattle.std.proofs.Common.{◌≡◌, ◌≢◌, ◌↔◌, ◌⊎◌, ℕ, Bool, true, false, List, [], ◌∷◌, ◌++◌, Option, None, Some, IsSome, IfSome, IsTrue, Ok, inl, inr, refl, sym, subst, arith}
use Rattle.std.proofs.lemmas.Bool.{false≢true}
use Rattle.wal_outside.specs.Places.{Place}
use Rattle.digit_tuple.specs.declared.steps.StepLine.{StepLine}
use Rattle.formula_parse.specs.Trees as trees
use Rattle.formula_resolve.specs.declared.variable.Variable as resolved
use Rattle.plan_relations.specs.Libraries.{LibraryValue, meanings_of}
use Rattle.formula_truth.proofs.MeaningLemmas.{MeanTheSame}
use Rattle.formula_build.specs.Solutions.{IsSolution}
use Rattle.formula_build.specs.VariableTracks.{IsOverVariables}
use Rattle.number_relations.specs.Relations.{RelationValue, RelationHolds}
use Rattle.command_parts.specs.declared.fault.Fault.{Fault}
use Rattle.command_parts.specs.declared.fault.Fault.TheVariants as faults
use Rattle.command_parts.specs.declared.file_change.Made.{Made}
use Rattle.command_parts.specs.Checks.{Pure, Fails}
use Rattle.definitions.specs.Trees.{Variable, Bindings}
use Rattle.definitions.specs.TreeMeanings.{meanings_in}
use Rattle.system_files.specs.SystemFiles.{Custom}
use Rattle.command_parts.specs.Accepting.{FitsFile, stored}
use Rattle.definitions.specs.FormulaTexts.{truth_text, IsSolutionText, IsFormulaText, HasVerdict}
use Rattle.command_parts.specs.FormulaSteps.{AreMeant}
use Rattle.command_parts.specs.FormulaLoads.{automaton_text, IsTextOf, HasNoTextOf}
use Rattle.command_parts.specs.Lines.{shown_steps, verdict_line}
use Rattle.command_parts.specs.FileChanges.{Makes}
use Rattle.formula_commands.specs.VariablesOver.{variables_over}
use Rattle.formula_commands.proofs.FormulaCheckNames.{VerdictAnswers, formula_success, after_variables}
use Rattle.command_parts.proofs.CheckSteps.{fails_after, makes_after}
use Rattle.formula_commands.proofs.FormulaSolutions.{solution_text, no_variables, some_variables, sentence_truth}

-- a formula with a variable has the text of its solutions
with_variables : (custom : Custom) (bindings : Bindings) (variables : List Variable) (formula : trees.Formula) (text : List ℕ) → variables ≢ [] → IsSolutionText custom bindings variables formula text → IsFormulaText custom bindings variables formula text
with_variables custom bindings [] formula text some is = absurd (some refl)
with_variables custom bindings (v ∷ variables) formula text some is = is

-- a relation has no track, or some
abbrev AreSome : List (List ℕ) → Type 0
AreSome names = (names ≡ []) ⊎ (names ≢ [])

some_names : (names : List (List ℕ)) → AreSome names
some_names [] = inl refl
some_names (n ∷ names) = inr (λ is. cc)

short_truth : (truth : Bool) → FitsFile (truth_text truth)
short_truth true = omega arith
short_truth false = omega arith

module _ (custom : Custom) (l : LibraryValue) (bindings : Bindings) (means : MeanTheSame (meanings_of l) (meanings_in custom bindings)) (meant : AreMeant custom l.systems) (formula : trees.Formula) (found : List resolved.Variable) (r : RelationValue) (solution : IsSolution l formula r) (over : IsOverVariables l found r) where
  abbrev variables : List Variable
  variables = variables_over found r.systems

  -- the text that is stored is that of the formula
  pub formula_text_is : (text : List ℕ) → IsTextOf found r text → IsFormulaText custom bindings variables formula text
  formula_text_is text (inl (none, (truth, is, text_is))) =
      let empty : variables ≡ [] = no_variables custom l bindings means meant formula found r solution over none in
      subst (λ (vs : List Variable). IsFormulaText custom bindings vs formula text) (sym empty) (truth, sentence_truth custom l bindings means meant formula found r solution over none truth is, text_is)
  formula_text_is text (inr (some, text_is, fits)) =
      with_variables custom bindings variables formula text (some_variables custom l bindings means meant formula found r solution over some) (subst (IsSolutionText custom bindings variables formula) (sym text_is) (solution_text custom l bindings means meant formula found r solution over))

  pub text_fits : (text : List ℕ) → IsTextOf found r text → FitsFile text
  text_fits text (inl (none, (truth, is, text_is))) = subst FitsFile (sym text_is) (short_truth truth)
  text_fits text (inr (some, text_is, fits)) = fits

  -- and the verdict that is printed is its truth
  pub verdict_is : (verdict : Option Bool) → (IsSome verdict ↔ (r.names ≡ [])) → IfSome verdict (λ truth. IsTrue truth ↔ RelationHolds r []) → HasVerdict custom bindings variables formula verdict
  verdict_is verdict there truth = by_names (some_names r.names) verdict there truth
    where
      of_sentence : (v : Option Bool) → r.names ≡ [] → (IsSome v ↔ (r.names ≡ [])) → IfSome v (λ truth. IsTrue truth ↔ RelationHolds r []) → HasVerdict custom bindings [] formula v
      of_sentence None none there truth = absurd (false≢true (there.1 none))
      of_sentence (Some b) none there truth = sentence_truth custom l bindings means meant formula found r solution over none b truth

      of_variables : (vs : List Variable) (v : Option Bool) → vs ≢ [] → r.names ≢ [] → (IsSome v ↔ (r.names ≡ [])) → HasVerdict custom bindings vs formula v
      of_variables [] v some named there = absurd (some refl)
      of_variables (x ∷ vs) None some named there = tt
      of_variables (x ∷ vs) (Some b) some named there = named (there.0 refl)

      by_names : AreSome r.names → (v : Option Bool) → (IsSome v ↔ (r.names ≡ [])) → IfSome v (λ truth. IsTrue truth ↔ RelationHolds r []) → HasVerdict custom bindings variables formula v
      by_names (inl none) v there truth = subst (λ (vs : List Variable). HasVerdict custom bindings vs formula v) (sym (no_variables custom l bindings means meant formula found r solution over none)) (of_sentence v none there truth)
      by_names (inr some) v there truth = of_variables variables v (some_variables custom l bindings means meant formula found r solution over some) some there

  -- so this is what the command makes
  pub text_made : (place : Place) (lines : List StepLine) (verdict : Option Bool) (shown : Bool) (made : Made) → HasVerdict custom bindings variables formula verdict → IsTextOf found r made.stored.items
      → made.printed ≡ shown_steps shown lines ++ verdict_line verdict → Makes custom (after_variables custom place bindings formula lines variables) shown (Ok made)
  text_made place lines verdict shown made says is printed =
      makes_after custom (Pure (VerdictAnswers custom bindings variables formula)) (λ v. stored custom (formula_success place bindings variables formula lines v)) verdict shown (Ok made) says
      (record {
        success = formula_success place bindings variables formula lines verdict;
        answers = (refl, (made.stored.items, formula_text_is made.stored.items is, text_fits made.stored.items is));
        has_text = formula_text_is made.stored.items is;
        printed_is = printed;
      })

  -- a text that is too long is not stored
  pub text_refused : (place : Place) (lines : List StepLine) (fault : Fault) → HasNoTextOf found r fault → Fails (after_variables custom place bindings formula lines variables) fault
  text_refused place lines (faults.Refused refusal) (is, some, long) =
      let has : IsFormulaText custom bindings variables formula (automaton_text found r) = with_variables custom bindings variables formula (automaton_text found r) (some_variables custom l bindings means meant formula found r solution over some) (solution_text custom l bindings means meant formula found r solution over) in
      let says : HasVerdict custom bindings variables formula None = without_verdict variables (some_variables custom l bindings means meant formula found r solution over some) in
      fails_after (Pure (VerdictAnswers custom bindings variables formula)) (λ v. stored custom (formula_success place bindings variables formula lines v)) None (faults.Refused refusal) says (is, (automaton_text found r, has, long))
    where
      without_verdict : (vs : List Variable) → vs ≢ [] → HasVerdict custom bindings vs formula None
      without_verdict [] named = absurd (named refl)
      without_verdict (x ∷ vs) named = tt
  text_refused place lines (faults.Store folder name) refused = absurd refused
  text_refused place lines faults.Memory refused = tt
