-- Files that a law refuses have words, and these are those of a system.
use Rattle.std.proofs.Common.{◌≡◌, Bool, [], ◌∷◌, Err, inl, inr, ◌∙◌}
use Rattle.digit_tuple.specs.Automaton.{Branching}
use Rattle.digit_tuple.specs.Deterministic.{Automaton}
use Rattle.digit_tuple.specs.Steps.{StepLog}
use Rattle.digit_tuple.specs.declared.direction.Direction.{Direction}
use Rattle.digit_tuple.specs.declared.step_fault.StepFault.{StepFault}
use Rattle.digit_tuple.specs.declared.step_fault.StepFault.TheVariants as steps
use Rattle.dfa_reading.specs.Branching.{IsBranching}
use Rattle.numeration.specs.Systems.{System}
use Rattle.automaton_steps.proofs.ThenAnswers.{equal_fault}
use Rattle.endless.specs.LanguageLaws.{system_of}
use Rattle.adder_check.specs.Admission.{DoesAdmission}
use Rattle.adder_check.specs.Faults.{fault_of}
use Rattle.adder_check.specs.LanguageSteps.{IsOfFile}
use Rattle.adder_check.specs.declared.admit_fault.AdmitFault.TheVariants as faults
use Rattle.adder_check.specs.declared.admit_fault.Law.{Law}
use Rattle.adder_check.proofs.FileSystems.{is_of_file}
use Rattle.system_files.specs.SystemFiles.{SystemFiles}
use Rattle.system_files.specs.UserSystems.{AreWordsOf}
use Rattle.system_admission.specs.Admissions.{AdmitsFiles}
use Rattle.system_admission.proofs.AdmittedSystems.{file_made, language_made}
use Rattle.system_admission.proofs.FileMeanings.{words_in_file}
use Rattle.system_admission.proofs.NumberSteps.{stops_admission}

-- a fault of a step is no law
no_law : (law : Law) (fault : StepFault) → faults.NotAdmitted law ≡ fault_of fault → ⊥
no_law law (steps.Letters step) is = cc
no_law law (steps.States step) is = cc
no_law law steps.Memory is = cc

-- the steps of the language's file were done
words_made : (direction : Direction) (language adder : Branching) (reversed : Bool) (old new : StepLog) (law : Law) → DoesAdmission direction language adder reversed old (Err (faults.NotAdmitted law)) new → (d : Automaton) × IsOfFile language reversed d
words_made direction language adder reversed old new law (inl (d, mid, words, rest)) = (d, language_made direction language reversed old mid d words)
words_made direction language adder reversed old new law (inr (fault, inl (made, mid, does, kept), is)) = (made, file_made language reversed old mid made does)
words_made direction language adder reversed old new law (inr (fault, inr (other, (step, does, lifted), same), is)) = absurd (no_law law step (equal_fault (faults.NotAdmitted law) fault is ∙ equal_fault fault other same ∙ lifted))

module _ (direction : Direction) (files : SystemFiles) where
  with_words : (language adder : Branching) → IsBranching (files.digits ∷ []) files.language language → (old new : StepLog) (law : Law) → DoesAdmission direction language adder files.reversed old (Err (faults.NotAdmitted law)) new
      → (s : System) × AreWordsOf direction files s
  with_words language adder words old new law does =
      let made = words_made direction language adder files.reversed old new law does in
      (system_of direction made.0, words_in_file direction files language words (system_of direction made.0) (is_of_file direction language files.reversed made.0 made.1 files.digits words.sizes_are))

  pub files_have_words : (old new : StepLog) (law : Law) → AdmitsFiles direction files old (Err (faults.NotAdmitted law)) new → (s : System) × AreWordsOf direction files s
  files_have_words old new law (inl (out, same)) = absurd cc
  files_have_words old new law (inr (inl (large, refused))) = absurd (no_law law (steps.Letters _) (equal_fault (faults.NotAdmitted law) (faults.Letters _) refused.0))
  files_have_words old new law (inr (inr (language, table, inl (large, stops)))) =
      with_words language language table.is_branching old new law (stops_admission direction language language files.reversed old new (Err (faults.NotAdmitted law)) stops)
  files_have_words old new law (inr (inr (language, table, inr (adder, sums, does)))) = with_words language adder table.is_branching old new law does
