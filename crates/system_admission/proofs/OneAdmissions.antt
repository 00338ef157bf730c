-- The admission of files has one outcome.
use Rattle.std.proofs.Common.{◌≡◌, ℕ, List, [], ◌∷◌, Ok, inl, inr, sym, ◌∙◌, subst}
use Rattle.digit_tuple.specs.Automaton.{Branching}
use Rattle.digit_tuple.specs.Steps.{StepLog}
use Rattle.digit_tuple.specs.declared.direction.Direction.{Direction}
use Rattle.digit_tuple.proofs.BranchTables.{same_branching}
use Rattle.digit_tuple.proofs.LetterLemmas.{not_too_large}
use Rattle.dfa_reading.specs.Listed.{Listed}
use Rattle.automaton_steps.specs.OneAnswers.{HasOneAnswer}
use Rattle.automaton_steps.proofs.ThenAnswers.{no_fault}
use Rattle.adder_check.specs.Admission.{DoesAdmission}
use Rattle.adder_check.specs.declared.admit_fault.AdmitFault.TheVariants as faults
use Rattle.adder_check.specs.declared.user_system.UserSystem.{UserSystem}
use Rattle.adder_check.proofs.OneAdmission.{admission_one}
use Rattle.system_files.specs.SystemFiles.{SystemFiles}
use Rattle.system_admission.specs.Admissions.{AdmitsFiles, AdmitsWithLanguage, IsSystemIn, IsTableOf}
use Rattle.system_admission.proofs.AdmittedSystems.{admitted}
use Rattle.system_admission.proofs.FileMeanings.{defined}
use Rattle.system_admission.proofs.NumberSteps.{not_stopped, stops_admission}

-- a table has one branching automaton
table_one : (sizes : List ℕ) (listed : Listed) (n m : Branching) → IsTableOf sizes listed n → IsTableOf sizes listed m → n ≡ m
table_one sizes listed n m one other =
    let first = one.is_branching in
    let second = other.is_branching in
    same_branching n m (first.sizes_are ∙ sym second.sizes_are) (first.states ∙ sym second.states)
    (λ q. (λ is. (second.accepting q).1 ((first.accepting q).0 is), λ is. (first.accepting q).1 ((second.accepting q).0 is)))
    (λ p letter q. (λ there. (second.leads p letter q).1 ((first.leads p letter q).0 there), λ there. (first.leads p letter q).1 ((second.leads p letter q).0 there)))
    one.table other.table

module _ (direction : Direction) (files : SystemFiles) where
  -- with the language's automaton
  with_language_one : (language : Branching) → IsTableOf (files.digits ∷ []) files.language language → HasOneAnswer faults.Memory (AdmitsWithLanguage direction files language)
  with_language_one language table old m n r s (inl (large, stops)) (inl (also_large, also)) =
      admission_one direction language language files.reversed files.digits table.is_branching.sizes_are old m n r s
      (stops_admission direction language language files.reversed old m r stops) (stops_admission direction language language files.reversed old n s also)
  with_language_one language table old m n r s (inl (large, stops)) (inr (adder, sums, does)) =
      admission_one direction language adder files.reversed files.digits table.is_branching.sizes_are old m n r s (stops_admission direction language adder files.reversed old m r stops) does
  with_language_one language table old m n r s (inr (adder, sums, does)) (inl (large, stops)) =
      admission_one direction language adder files.reversed files.digits table.is_branching.sizes_are old m n r s does (stops_admission direction language adder files.reversed old n s stops)
  with_language_one language table old m n r s (inr (adder, sums, does)) (inr (other, also_sums, also)) =
      let same = table_one (files.digits ∷ files.digits ∷ files.digits ∷ []) files.adder adder other sums also_sums in
      admission_one direction language adder files.reversed files.digits table.is_branching.sizes_are old m n r s does
      (subst (λ (b : Branching). DoesAdmission direction language b files.reversed old s n) (sym same) also)

  -- the admission of files
  pub files_one : HasOneAnswer faults.Memory (AdmitsFiles direction files)
  files_one old m n r s (inl one) other = inr (inl one.0)
  files_one old m n r s (inr one) (inl other) = inr (inr other.0)
  files_one old m n r s (inr (inl (large, one))) (inr (inl (also_large, other))) = inl (one.0 ∙ sym other.0, one.1 ∙ sym other.1)
  files_one old m n r s (inr (inl (large, one))) (inr (inr (language, table, other))) = absurd (not_too_large (files.digits ∷ []) table.fits large)
  files_one old m n r s (inr (inr (language, table, one))) (inr (inl (large, other))) = absurd (not_too_large (files.digits ∷ []) table.fits large)
  files_one old m n r s (inr (inr (language, table, one))) (inr (inr (words, also_table, other))) =
      let same = table_one (files.digits ∷ []) files.language language words table also_table in
      with_language_one language table old m n r s one (subst (λ (b : Branching). AdmitsWithLanguage direction files b old s n) (sym same) other)

  -- what is admitted is the system that the files define
  pub files_define : (old new : StepLog) (user : UserSystem) → AdmitsFiles direction files old (Ok user) new → IsSystemIn direction files user
  files_define old new user (inl (none, same)) = absurd (no_fault user faults.Memory none)
  files_define old new user (inr (inl (large, refused))) = absurd (no_fault user (faults.Letters _) refused.0)
  files_define old new user (inr (inr (language, table, inl (large, stops)))) = absurd (not_stopped direction language files.reversed old new user stops)
  files_define old new user (inr (inr (language, table, inr (adder, sums, does)))) =
      defined direction files language table.is_branching adder sums.is_branching user
      (admitted direction language adder files.reversed files.digits table.is_branching.sizes_are sums.is_branching.sizes_are old new user does)
