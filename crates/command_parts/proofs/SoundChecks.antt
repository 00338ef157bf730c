-- What is proved of the checks of each command: they have one answer, what they store may be in its folder, and they refuse a system by a law
-- only where the check of the systems that they name does. A command has a record of it beside its checks.
use Rattle.std.proofs.Common.{◌≡◌, ◌≢◌, ℕ, List, Ok, Err, inl, inr, sym, subst}
use Rattle.std.specs.Prelude.{⊤}
use Rattle.wal_outside.specs.declared.folder.Folder.TheVariants.{Automata, Words, Bases, Macros, Morphisms, Results}
use Rattle.digit_tuple.specs.declared.step_fault.StepFault.{StepFault}
use Rattle.digit_tuple.specs.declared.step_fault.StepFault.TheVariants as steps
use Rattle.adder_check.specs.declared.admit_fault.Law.{Law}
use Rattle.command_head.specs.declared.fault.HeadFault.{HeadFault}
use Rattle.command_head.specs.declared.fault.HeadFault.TheVariants as head_faults
use Rattle.dfa_loading.specs.declared.fault.LoadFault.{LoadFault}
use Rattle.dfa_loading.specs.declared.fault.LoadFault.TheVariants as loads
use Rattle.definitions.specs.Trees.{MayBeIn, Ledger, tree_of, custom_of}
use Rattle.command_parts.specs.declared.system_refusal.SystemRefusal.TheVariants as system_refusals
use Rattle.command_parts.specs.declared.refusal.Refusal.{Refusal}
use Rattle.command_parts.specs.declared.refusal.Refusal.TheVariants as refusals
use Rattle.command_parts.specs.declared.fault.Fault.TheVariants as faults
use Rattle.command_parts.specs.Accepting.{Success, Said, Accepted, Storing, Saying, saying, storing}
use Rattle.command_parts.specs.Checks.{Check, Passing, IsSingle}
use Rattle.command_parts.specs.FormulaFaults.{fault_of_loading}
use Rattle.command_parts.specs.HeadAnswers.{fault_of_head}
use Rattle.command_parts.specs.SystemChecks.{SystemsAnswers}
use Rattle.command_parts.specs.TrackSystems.{fault_of}
use Rattle.command_parts.proofs.CheckSteps.{then_single, passing_single}

-- the entry that a command stores may be in its folder, and defines no system
abbrev pub MayBeStored : Success → Type 0
MayBeStored success = (success.folder ≢ Bases) × MayBeIn success.folder (tree_of success.entry)

-- so it is with each accepted command that stores
abbrev pub AcceptedMayBeStored : Accepted → Type 0
AcceptedMayBeStored (Storing success) = MayBeStored success
AcceptedMayBeStored (Saying said) = ⊤

-- what stores what checks make, where that may be in its folder; what says something stores nothing
storing_may_be_stored : (checks : Check Success) (accepted : Accepted) → ((success : Success) → checks.answers (Ok success) → MayBeStored success) → (storing checks).answers (Ok accepted) → AcceptedMayBeStored accepted
storing_may_be_stored checks accepted may_be_stored (success, made, is) = subst AcceptedMayBeStored (sym is) (may_be_stored success made)

saying_may_be_stored : (checks : Check Said) (accepted : Accepted) → (saying checks).answers (Ok accepted) → AcceptedMayBeStored accepted
saying_may_be_stored checks accepted (said, made, is) = subst AcceptedMayBeStored (sym is) tt

-- folders are apart, shown where nothing else is known
pub words_no_base : Words ≢ Bases
words_no_base same = cc

pub automata_no_base : Automata ≢ Bases
automata_no_base same = cc

pub automata_no_word : Automata ≢ Words
automata_no_word same = cc

pub results_no_base : Results ≢ Bases
results_no_base same = cc

pub results_no_word : Results ≢ Words
results_no_word same = cc

pub macros_no_base : Macros ≢ Bases
macros_no_base same = cc

pub morphisms_no_base : Morphisms ≢ Bases
morphisms_no_base same = cc

-- a system of this name breaks this law
abbrev pub by_law : List ℕ → Law → Refusal
by_law name law = refusals.System (system_refusals.NotAdmitted name law)

-- the check of the systems of some names refuses one by it
abbrev pub RefusesSystem : ℕ → Ledger → List ℕ → Law → Type 0
RefusesSystem limit ledger name law = (names : List (List ℕ)) × SystemsAnswers limit (custom_of ledger) names (Err (by_law name law))

-- faults of other kinds
pub no_step : (name : List ℕ) (law : Law) → (fault : StepFault) → fault_of fault ≡ faults.Refused (by_law name law) → ⊥
no_step name law (steps.Letters step) is = cc
no_step name law (steps.States step) is = cc
no_step name law steps.Memory is = cc

pub no_load : (name : List ℕ) (law : Law) → (fault : LoadFault) → fault_of_loading fault ≡ faults.Refused (by_law name law) → ⊥
no_load name law (loads.Unknown folder at) is = cc
no_load name law (loads.File folder at flaw) is = cc
no_load name law (loads.Store folder at) is = cc
no_load name law loads.Memory is = cc

pub no_head : (name : List ℕ) (law : Law) → (fault : HeadFault) → fault_of_head fault ≡ faults.Refused (by_law name law) → ⊥
no_head name law (head_faults.Syntax at) is = cc
no_head name law (head_faults.Number at) is = cc
no_head name law head_faults.Memory is = cc

-- checks have one answer, what they make is right, and where they refuse by a law, the check of the systems that they name does
pub record AreSound (Y : Type 0) (IsRight : Y → Type 0) (limit : ℕ) (ledger : Ledger) (checks : Check Y) : Type 0 where
  pub single : IsSingle checks
  pub may_be_stored : (made : Y) → checks.answers (Ok made) → IsRight made
  pub refused : (name : List ℕ) (law : Law) → checks.answers (Err (by_law name law)) → RefusesSystem limit ledger name law

-- a command that says something has one outcome, where what it says is one
saying_single : (checks : Check Said) → IsSingle checks → IsSingle (saying checks)
saying_single checks one = then_single checks (λ said. Passing (λ accepted. accepted ≡ Saying said)) one (λ said made. passing_single (Saying said))

-- a command that stores has one outcome, where what it stores is one
storing_single : (checks : Check Success) → IsSingle checks → IsSingle (storing checks)
storing_single checks one = then_single checks (λ success. Passing (λ accepted. accepted ≡ Storing success)) one (λ success made. passing_single (Storing success))

-- what stores or says what checks make refuses as they do
storing_refuses : (checks : Check Success) (refusal : Refusal) → (storing checks).answers (Err refusal) → checks.answers (Err refusal)
storing_refuses checks refusal (inl refused) = refused
storing_refuses checks refusal (inr (made, is_made, refused)) = absurd refused

saying_refuses : (checks : Check Said) (refusal : Refusal) → (saying checks).answers (Err refusal) → checks.answers (Err refusal)
saying_refuses checks refusal (inl refused) = refused
saying_refuses checks refusal (inr (said, is_said, refused)) = absurd refused

-- a command that stores what sound checks make
pub storing_sound : (limit : ℕ) (ledger : Ledger) (checks : Check Success) → AreSound Success MayBeStored limit ledger checks → AreSound Accepted AcceptedMayBeStored limit ledger (storing checks)
storing_sound limit ledger checks sound = record {
  single = storing_single checks sound.single;
  may_be_stored = λ accepted made. storing_may_be_stored checks accepted sound.may_be_stored made;
  refused = λ name law refused. sound.refused name law (storing_refuses checks (by_law name law) refused);
}

-- a command that says what sound checks make
pub saying_sound : (limit : ℕ) (ledger : Ledger) (checks : Check Said) → AreSound Said (λ said. ⊤) limit ledger checks → AreSound Accepted AcceptedMayBeStored limit ledger (saying checks)
saying_sound limit ledger checks sound = record {
  single = saying_single checks sound.single;
  may_be_stored = λ accepted made. saying_may_be_stored checks accepted made;
  refused = λ name law refused. sound.refused name law (saying_refuses checks (by_law name law) refused);
}
