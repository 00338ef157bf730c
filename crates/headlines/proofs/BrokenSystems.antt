-- Where names are not admitted because of a law, the files of one of them break it.
use Rattle.std.proofs.Common.{◌≡◌, ℕ, List, [], ◌∷◌, Result, Ok, Err, inl, inr, sym, subst}
use Rattle.std.specs.Prelude.{⊤}
use Rattle.digit_tuple.specs.Steps.{StepLog}
use Rattle.digit_tuple.specs.declared.direction.Direction.{Direction}
use Rattle.digit_tuple.specs.declared.step_fault.StepFault.TheVariants as steps
use Rattle.adder_check.specs.declared.admit_fault.AdmitFault.{AdmitFault}
use Rattle.adder_check.specs.declared.admit_fault.AdmitFault.TheVariants as admits
use Rattle.adder_check.specs.declared.admit_fault.Law.{Law}
use Rattle.dfa_loading.specs.declared.fault.LoadFault.TheVariants as loads
use Rattle.system_files.specs.SystemFiles.{Custom, SystemFiles}
use Rattle.system_admission.specs.Admissions.{AdmitsFiles, IsFirstFaultIn}
use Rattle.system_admission.specs.SystemSteps.{AdmitsName, AdmitsNames, HasFiles, fault_of, no_steps}
use Rattle.system_admission.specs.declared.system_fault.SystemFault.{SystemFault}
use Rattle.system_admission.specs.declared.system_fault.SystemFault.TheVariants as systems
use Rattle.system_admission.proofs.BrokenLaws.{files_have_words}
use Rattle.definitions.specs.Trees.{Ledger, custom_of}
use Rattle.command_parts.specs.declared.fault.Fault.{Fault}
use Rattle.command_parts.specs.declared.system_refusal.SystemRefusal.TheVariants as system_refusals
use Rattle.command_parts.specs.declared.refusal.Refusal.TheVariants as refusals
use Rattle.command_parts.specs.declared.fault.Fault.TheVariants as faults
use Rattle.command_parts.specs.SystemFaults.{fault_of_system}
use Rattle.command_parts.specs.Accepting.{Answer}
use Rattle.session_cli.specs.Commands.{Gives}
use Rattle.session_cli.specs.Outcomes.{checks_of}
use Rattle.session_cli.specs.SessionLanguage.{IsAnswer}
use Rattle.command_parts.specs.SystemChecks.{SystemsAnswers}
use Rattle.session_cli.proofs.LawRefusals.{refused_by_law}
use Rattle.headlines.specs.RefusedSystems.{BreaksLaw, RefusedSystems}
use Rattle.headlines.proofs.AcceptedCommands.{reported_ledger}

module _ (custom : Custom) (name : List ℕ) (law : Law) where
  -- files that a law refuses break it
  files_break : (named : List ℕ) (direction : Direction) (files : SystemFiles) (old new : StepLog) → HasFiles custom named direction files → (refusal : AdmitFault) → AdmitsFiles direction files old (Err refusal) new → IsFirstFaultIn direction files refusal
      → systems.NotAdmitted name law ≡ fault_of named refusal → BreaksLaw custom name law
  files_break named direction files old new has (admits.NotAdmitted own) does first is =
      let names : named ≡ name = cc in
      let laws : own ≡ law = cc in
      let words = files_have_words direction files old new own does in
      let broken : BreaksLaw custom named own = record { direction = direction; files = files; has_files = has; s = words.0; words = words.1; first = first words.0 words.1 } in
      subst (λ (n : List ℕ). BreaksLaw custom n law) names (subst (λ (l : Law). BreaksLaw custom named l) laws broken)
  files_break named direction files old new has (admits.Letters step) does first is = absurd cc
  files_break named direction files old new has (admits.States step) does first is = absurd cc
  files_break named direction files old new has admits.Memory does first is = absurd cc

  name_breaks : (named : List ℕ) (old new : StepLog) → AdmitsName custom named old (Err (systems.NotAdmitted name law)) new → BreaksLaw custom name law
  name_breaks named old new (inl (built_in, is, same)) = absurd cc
  name_breaks named old new (inr (other, inl (none, is, same))) = absurd cc
  name_breaks named old new (inr (other, inr (inl (direction, part, is_name, (load, refuses, is), same)))) = absurd cc
  name_breaks named old new (inr (other, inr (inr not))) = files_break named not.direction not.files old new not.has_files not.refusal not.admits not.first not.fault_is

  pub names_break : (names : List (List ℕ)) (old new : StepLog) → AdmitsNames custom names old (Err (systems.NotAdmitted name law)) new → BreaksLaw custom name law
  names_break [] old new admitted = absurd cc
  names_break (named ∷ names) old new (inl (done, mid, first, rest)) = names_break names mid new rest
  names_break (named ∷ names) old new (inr (fault, refused, is)) =
      let same : fault ≡ systems.NotAdmitted name law = cc in
      name_breaks named old new (subst (λ (f : SystemFault). let bad : Result ⊤ SystemFault = Err f in AdmitsName custom named old bad new) same refused)

-- a fault of systems that is a command's with a law is that of the law
the_law : (name : List ℕ) (law : Law) (fault : SystemFault) → fault_of_system fault ≡ faults.Refused (refusals.System (system_refusals.NotAdmitted name law)) → fault ≡ systems.NotAdmitted name law
the_law name law (systems.NotAdmitted own other) is = cc
the_law name law (systems.Load (loads.Unknown folder at)) is = absurd (cc)
the_law name law (systems.Load (loads.File folder at flaw)) is = absurd (cc)
the_law name law (systems.Load (loads.Store folder at)) is = absurd (cc)
the_law name law (systems.Load loads.Memory) is = absurd (cc)
the_law name law (systems.Step (steps.Letters step)) is = absurd (cc)
the_law name law (systems.Step (steps.States step)) is = absurd (cc)
the_law name law (systems.Step steps.Memory) is = absurd (cc)

pub refused_systems : RefusedSystems
refused_systems limit ledger files old new command shown name law reported c =
    subst (λ (known : Ledger). BreaksLaw (custom_of known) name law) (reported_ledger old.files files c.known ledger reported c.known_is) (by c.answer c.gives c.answered)
  where
    by_systems : (names : List (List ℕ)) × SystemsAnswers limit (custom_of c.known) names (Err (refusals.System (system_refusals.NotAdmitted name law))) → BreaksLaw (custom_of c.known) name law
    by_systems (names, (own, is, (log, refused))) =
        names_break (custom_of c.known) name law names (no_steps limit) log (subst (λ (f : SystemFault). let bad : Result ⊤ SystemFault = Err f in AdmitsNames (custom_of c.known) names (no_steps limit) bad log) (the_law name law own is) refused)

    by : (answer : Answer) → Gives shown (Err (faults.Refused (refusals.System (system_refusals.NotAdmitted name law)))) answer → IsAnswer (checks_of limit c.known command) answer → BreaksLaw (custom_of c.known) name law
    by (Ok accepted) gives answered = absurd gives
    by (Err other) same answered =
        let refused : IsAnswer (checks_of limit c.known command) (Err (faults.Refused (refusals.System (system_refusals.NotAdmitted name law)))) = subst (λ (f : Fault). let bad : Answer = Err f in IsAnswer (checks_of limit c.known command) bad) (sym same) answered in
        by_systems (refused_by_law limit c.known name law command refused)
