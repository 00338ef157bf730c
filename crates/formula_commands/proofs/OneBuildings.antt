-- The steps of a formula have one outcome: one list of lines, or one fault.
use Rattle.std.proofs.Common.{◌≡◌, ◌≢◌, List, ◌⊎◌, Result, Ok, Err, inl, inr, refl, sym, ap, ◌∙◌, subst}
use Rattle.wal_outside.specs.Files.{Files}
use Rattle.digit_tuple.specs.Steps.{StepLog}
use Rattle.digit_tuple.specs.declared.step_fault.StepFault.{StepFault}
use Rattle.digit_tuple.specs.declared.step_fault.StepFault.TheVariants as steps
use Rattle.automaton_steps.proofs.AnswerCases.{one_result}
use Rattle.digit_tuple.specs.declared.steps.StepLine.{StepLine}
use Rattle.dfa_loading.specs.Headers.{headers_of}
use Rattle.dfa_loading.specs.Loading.{AreListedBy}
use Rattle.dfa_loading.specs.declared.loaded.Loaded.{Loaded}
use Rattle.formula_parse.specs.Trees as trees
use Rattle.formula_resolve.specs.FirstMentions.{first_files}
use Rattle.formula_resolve.specs.Mentions.{mentions}
use Rattle.plan_relations.specs.Libraries.{IsLibrary}
use Rattle.formula_build.specs.OneBuilding.{Agree}
use Rattle.formula_build.specs.Solutions.{BuildsFormula, formula_plan}
use Rattle.formula_build.proofs.OneBuildingLemmas.{one_building}
use Rattle.number_relations.specs.Relations.{RelationValue}
use Rattle.system_files.specs.SystemFiles.{Custom}
use Rattle.definitions.proofs.TableRelations.{table_holds}
use Rattle.command_parts.specs.declared.refusal.Refusal.{Refusal}
use Rattle.command_parts.specs.Checks.{Pure, IsSingle}
use Rattle.formula_commands.specs.FormulaOutcomes.{BuiltAnswers}
use Rattle.command_parts.specs.FormulaSteps.{AreFormulaSteps}
use Rattle.command_parts.specs.TableReads.{TableRead, library_with}
use Rattle.command_parts.specs.TrackSystems.{fault_of}
use Rattle.command_parts.proofs.CheckSteps.{single_so}
use Rattle.command_parts.proofs.OneMeantReadings.{IsStopped, stopped_by, same_reading, were_readable, read_stopped, both_stopped}
use Rattle.command_parts.proofs.OneSealed.{meant_agree}
use Rattle.command_parts.proofs.TableFits.{are_relations, are_words}
use Rattle.command_parts.proofs.RefusingSteps.{no_memory, refusing_single}
use Rattle.command_parts.specs.RefusingChecks.{Refusing}

-- the lines of steps, or the fault that stops them
abbrev of_steps : Result RelationValue StepFault → List StepLine → Result (List StepLine) StepFault
of_steps (Ok relation) lines = Ok lines
of_steps (Err fault) lines = Err fault

record IsBuilding (admitted : StepLog) (custom : Custom) (tables : List Loaded) (formula : trees.Formula) (r : Result (List StepLine) StepFault) : Type 0 where
  result : Result RelationValue StepFault
  lines : List StepLine
  done : AreFormulaSteps admitted custom tables formula result lines
  not_memory : result ≢ Err steps.Memory
  is : r ≡ of_steps result lines

abbrev IsOutcome : StepLog → Custom → List Loaded → trees.Formula → Result (List StepLine) StepFault → Type 0
IsOutcome admitted custom tables formula r = IsBuilding admitted custom tables formula r ⊎ IsStopped admitted custom tables r

failed_step : (fault : StepFault) → (let r : Result RelationValue StepFault = Err fault in r ≡ Err steps.Memory) → fault ≡ steps.Memory
failed_step fault same = cc

built_is : (admitted : StepLog) (custom : Custom) (tables : List Loaded) (formula : trees.Formula) (r : Result (List StepLine) Refusal) → BuiltAnswers admitted custom tables formula r → (Refusing fault_of (IsOutcome admitted custom tables formula)).answers r
built_is admitted custom tables formula (Ok lines) (relation, a) = inl (record { result = Ok relation; lines = lines; done = a; not_memory = λ is. cc; is = refl })
built_is admitted custom tables formula (Err refusal) (fault, is, inl a) = (fault, is, inr (stopped_by admitted custom tables fault (no_memory fault_of steps.Memory refl fault refusal is) a))
built_is admitted custom tables formula (Err refusal) (fault, is, inr (lines, a)) =
    (fault, is, inl (record { result = Err fault; lines = lines; done = a; not_memory = λ same. no_memory fault_of steps.Memory refl fault refusal is (failed_step fault same); is = refl }))

module _ (admitted : StepLog) (custom : Custom) (tables : List Loaded) (formula : trees.Formula) (files : Files) (listed : AreListedBy files (first_files (mentions formula)) tables) where
  both_built : (r s : Result (List StepLine) StepFault) → IsBuilding admitted custom tables formula r → IsBuilding admitted custom tables formula s → r ≡ s
  both_built r s p q =
      let a = p.done in
      let b = q.done in
      let same : (a.reads ≡ b.reads) × (a.reading ≡ b.reading) =
      same_reading admitted custom tables files (first_files (mentions formula)) listed a.systems b.systems a.reading b.reading a.reads b.reads a.sealed a.meant b.sealed b.meant a.read b.read in
      let readable = were_readable admitted custom tables files (first_files (mentions formula)) listed a.systems a.reading a.reads a.meant a.read in
      let relations = are_relations table_holds a.systems a.sealed tables a.reads admitted a.reading readable a.read in
      let words = are_words table_holds a.systems a.sealed tables a.reads admitted a.reading readable a.read in
      let library : IsLibrary (library_with a.reads a.systems) = record { relations = relations; words = words; systems = a.sealed } in
      let other : IsLibrary (library_with a.reads b.systems) = record { relations = relations; words = words; systems = b.sealed } in
      let agree : Agree (library_with a.reads a.systems) (library_with a.reads b.systems) = record { relations = refl; words = refl; systems = (meant_agree custom a.systems b.systems a.sealed a.meant b.sealed b.meant).systems } in
      let builds : BuildsFormula (library_with a.reads b.systems) (formula_plan (headers_of tables) formula) a.reading q.result b.log =
      subst (λ (rs : List TableRead). BuildsFormula (library_with rs b.systems) (formula_plan (headers_of tables) formula) a.reading q.result b.log) (sym same.0)
      (subst (λ (old : StepLog). BuildsFormula (library_with b.reads b.systems) (formula_plan (headers_of tables) formula) old q.result b.log) (sym same.1) b.builds) in
      let one : (p.result ≡ q.result) × (a.log ≡ b.log) =
      one_result steps.Memory a.log b.log p.result q.result
      (one_building (library_with a.reads a.systems) (library_with a.reads b.systems) a.reading a.log b.log (formula_plan (headers_of tables) formula) p.result q.result library other agree a.builds builds) p.not_memory q.not_memory in
      let lines : p.lines ≡ q.lines = a.lines_are ∙ (ap (λ (log : StepLog). log.lines) one.1 ∙ sym b.lines_are) in
      p.is ∙ ((λ i. of_steps (one.0 i) (lines i)) ∙ sym q.is)

  not_both : (r s : Result (List StepLine) StepFault) → IsBuilding admitted custom tables formula r → IsStopped admitted custom tables s → ⊥
  not_both r s p q =
      let a = p.done in
      read_stopped admitted custom tables files (first_files (mentions formula)) listed a.systems a.reading a.reads s a.sealed a.meant a.read q

  built_one : (r s : Result (List StepLine) StepFault) → IsOutcome admitted custom tables formula r → IsOutcome admitted custom tables formula s → r ≡ s
  built_one r s (inl p) (inl q) = both_built r s p q
  built_one r s (inl p) (inr q) = absurd (not_both r s p q)
  built_one r s (inr p) (inl q) = absurd (not_both s r q p)
  built_one r s (inr p) (inr q) = both_stopped admitted custom tables files (first_files (mentions formula)) listed r s p q

  pub built_single : IsSingle (Pure (BuiltAnswers admitted custom tables formula))
  built_single =
      single_so (Pure (BuiltAnswers admitted custom tables formula)) (Refusing fault_of (IsOutcome admitted custom tables formula)) (built_is admitted custom tables formula) (refusing_single fault_of (IsOutcome admitted custom tables formula) built_one)
