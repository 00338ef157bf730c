-- The files of a system whose language is that of a kept one, read without being listed.
use Rattle.std.proofs.Common.{◌≡◌, ℕ, Bool, List, Option, None, Some, Result, Ok, inr, sym, ap, ◌∙◌, subst}
use Rattle.std.specs.Option.{IfSome, IsSomeAnd}
use Rattle.digit_tuple.specs.Steps.{StepLog}
use Rattle.dfa_loading.specs.declared.fault.LoadFault.{LoadFault}
use Rattle.dfa_loading.specs.declared.fault.LoadFault.TheVariants as loads
use Rattle.dfa_reading.proofs.SystemHeaders.{language_files_list_languages}
use Rattle.digit_tuple.specs.declared.direction.Direction.{Direction}
use Rattle.num_system.specs.Sealed.{SystemValue}
use Rattle.system_names.specs.UserNames.{IsUserName, adder_name}
use Rattle.wal_outside.specs.Views.{StoreView}
use Rattle.system_files.specs.Looks.{FailsLook, Loads}
use Rattle.system_files.specs.SystemFiles.{Custom, SystemFiles, HasLanguage, is_reversed, taken_name}
use Rattle.system_files.specs.SystemLoading.{AreFilesLoaded, FailsFiles}
use Rattle.system_files.specs.SystemTexts.{Agrees, FoundText, IsFoundAs, Text}
use Rattle.system_files.proofs.FoundLemmas.{found_at}
use Rattle.system_files.proofs.LoadSteps.{found_both}
use Rattle.dfa_loading.proofs.ReadSteps.{reads_both}
use Rattle.system_admission.specs.KeptSystems.{AdmitsPair, HasLanguageText, IsPairOf}
use Rattle.system_admission.specs.KeptViews.{pair_view}
use Rattle.system_admission.specs.NameAdmissions.{IsNamedSystem}
use Rattle.system_admission.specs.declared.pair.SystemPair.{SystemPair}

module _ (custom : Custom) (direction : Direction) (part : List ℕ) (name : List ℕ) (taken : name ≡ taken_name custom direction part) where
  -- the text that was found under the name is a language
  pub has_language : (found : List FoundText) → Agrees custom found → HasLanguageText found name → (digits : ℕ) × HasLanguage custom direction part digits
  has_language found agrees has =
      let there : IsFoundAs (custom name) (Text has.text) = found_at custom found has.there.place (record { name = name; finding = Text has.text }) agrees has.there.there in
      let (listed, lists) = has.is_language in
      let is = language_files_list_languages has.text listed lists in
      (is.digits, (listed, record { text = has.text; there = ap custom (sym taken) ∙ there.0; short = there.1; lists = lists; header = is.header }))

  -- so its adder may be read
  pub adder_fails : (digits : ℕ) → HasLanguage custom direction part digits → (fault : LoadFault) → FailsLook (adder_name name) fault → FailsFiles custom direction part fault
  adder_fails digits has (loads.Store folder at) fails = (fails.0, inr (inr (digits, has, fails.1 ∙ ap adder_name taken)))
  adder_fails digits has loads.Memory fails = tt
  adder_fails digits has (loads.Unknown folder at) fails = absurd fails
  adder_fails digits has (loads.File folder at flaw) fails = absurd fails

-- files that were read are those of a name, and it is admitted again
pub admits_named : (custom : Custom) (name part : List ℕ) (direction : Direction) (reversed : Bool) (found : List FoundText) (given : Option SystemPair) (old new : StepLog) (s : SystemValue) → IsUserName direction part name → Agrees custom found → reversed ≡ is_reversed custom direction part
    → IfSome given (λ pair. pair.direction ≡ direction) → IfSome given (λ pair. (custom : Custom) → Agrees custom found → reversed ≡ is_reversed custom direction part → IsPairOf custom part (pair_view pair))
    → IsSomeAnd given (λ pair. AdmitsPair (pair_view pair) old new s) → IsNamedSystem custom name old new s
admits_named custom name part direction reversed found None old new s named agrees is directions pairs admits = absurd admits
admits_named custom name part direction reversed found (Some pair) old new s named agrees is directions pairs admits =
    admits custom name (record { part = part; is_name = subst (λ (d : Direction). IsUserName d part name) (sym directions) named; is_pair = pairs custom agrees is })

-- files that are loaded after something was read
pub loaded_after : {X : Type 0} (P : Custom → List FoundText → X → Type 0) (F : Custom → LoadFault → Type 0) (direction : Direction) (part : List ℕ) (before mid after : List FoundText) (old later new : StoreView) (x : X) (result : Result SystemFiles LoadFault)
    → Loads P F before old (Ok x) mid later → AreFilesLoaded direction part mid later result after new → AreFilesLoaded direction part before old result after new
loaded_after P F direction part before mid after old later new x result first next = record {
  gives = next.gives;
  found = found_both before mid after old later first.has_read.files first.found next.found;
  has_read = reads_both old later new x result first.has_read next.has_read;
}
