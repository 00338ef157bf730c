-- The language that is taken, listed.
use Rattle.std.proofs.Common.{◌≡◌, ℕ, true, List, Some, Ok, Err, inl, sym, ap, ◌∙◌, subst, true≢false}
use Rattle.std.specs.Prelude.{slice_get}
use Rattle.dfa_loading.specs.declared.fault.FileFlaw.{FileFlaw}
use Rattle.dfa_loading.specs.declared.fault.FileFlaw.TheVariants as flaws
use Rattle.dfa_loading.specs.declared.fault.LoadFault.{LoadFault}
use Rattle.dfa_loading.specs.declared.fault.LoadFault.TheVariants as faults
use Rattle.dfa_reading.specs.Listed.{Listed}
use Rattle.dfa_reading.specs.declared.system_part.SystemPart.TheVariants.{Language}
use Rattle.digit_tuple.specs.declared.direction.Direction.{Direction}
use Rattle.wal_outside.specs.Views.{StoreView}
use Rattle.system_files.specs.SystemFiles.{Custom, is_there, taken_name, IsNoLanguage}
use Rattle.system_files.specs.SystemTexts.{FoundText, Agrees}
use Rattle.system_files.specs.SystemLoading.{FailsFiles}
use Rattle.system_files.specs.Looks.{IsNoPart, FailsPart, ListsPart, ListsNoPart, Loads}
use Rattle.system_files.specs.Taking.{IsTaken, IsTakenLanguage}
use Rattle.system_files.specs.declared.taking.Taken.{Taken}
use Rattle.system_files.proofs.LoadSteps.{IsQuiet, loads_so, fails_so, refused_so}
use Rattle.system_files.proofs.FoundLemmas.{found_at, lists_at, fails_at}
use Rattle.system_files.proofs.TakingSteps.{named_so, named_is_found}

no_language : (text : List ℕ) (flaw : FileFlaw) → IsNoPart Language text flaw → IsNoLanguage text flaw
no_language text (flaws.Line at) is = is
no_language text flaws.TooLong is = is

module _ (direction : Direction) (part : List ℕ) where
  -- why the language that is taken lists nothing
  language_fails : (custom : Custom) (fault : LoadFault) → is_there (custom (taken_name custom direction part)) ≡ true → IsQuiet fault → FailsPart Language custom (taken_name custom direction part) fault → FailsFiles custom direction part fault
  language_fails custom (faults.Unknown folder name) there quiet fails = absurd (true≢false (sym there ∙ ap is_there fails.2))
  language_fails custom (faults.File folder name flaw) there quiet fails =
      let (text, found_as, none) = fails.2 in
      (fails.0, inl (text, ap custom fails.1 ∙ found_as, fails.1, no_language text flaw none))
  language_fails custom (faults.Store folder name) there quiet fails = absurd quiet
  language_fails custom faults.Memory there quiet fails = tt

  -- the same, as it was found
  found_fails : (custom : Custom) (found : List FoundText) (taken : Taken) (one : FoundText) (fault : LoadFault) → Agrees custom found → IsTaken direction part custom found taken → slice_get found taken.place ≡ Some one → IsQuiet fault → ListsNoPart Language one fault → FailsFiles custom direction part fault
  found_fails custom found taken one fault agrees is at quiet refuses =
      let named = named_so found (taken_name custom direction part) taken.place one is.at at in
      language_fails custom fault is.there quiet (subst (λ (n : List ℕ). FailsPart Language custom n fault) named (fails_at Language custom one fault (found_at custom found taken.place one agrees at) refuses))

  module _ (before after : List FoundText) (old new : StoreView) (taken : Taken) (one : FoundText) (at : slice_get after taken.place ≡ Some one) (takes : Loads (IsTaken direction part) (λ custom fault. FailsFiles custom direction part fault) before old (Ok taken) after new) where
    refuse : (fault : LoadFault) → IsQuiet fault → ListsNoPart Language one fault → Loads (IsTakenLanguage direction part) (λ custom fault. FailsFiles custom direction part fault) before old (Err fault) after new
    refuse fault quiet refuses =
        refused_so (IsTaken direction part) (λ custom fault. FailsFiles custom direction part fault) (IsTakenLanguage direction part) (λ custom fault. FailsFiles custom direction part fault) before after old new taken fault quiet takes
        (λ custom agrees is. found_fails custom after taken one fault agrees is at quiet refuses)

    pub lists_none : (fault : LoadFault) → ListsNoPart Language one fault → Loads (IsTakenLanguage direction part) (λ custom fault. FailsFiles custom direction part fault) before old (Err fault) after new
    lists_none (faults.Unknown folder name) refuses = refuse (faults.Unknown folder name) tt refuses
    lists_none (faults.File folder name flaw) refuses = refuse (faults.File folder name flaw) tt refuses
    lists_none (faults.Store folder name) refuses = absurd refuses
    lists_none faults.Memory refuses = refuse faults.Memory tt refuses

    pub lists_language : (name : List ℕ) (listed : Listed) → name ≡ one.name → ListsPart Language one.finding listed
        → Loads (IsTakenLanguage direction part) (λ custom fault. FailsFiles custom direction part fault) before old (Ok (record { name = name; reversed = taken.reversed; language = listed })) after new
    lists_language name listed copied lists =
        loads_so (IsTaken direction part) (λ custom fault. FailsFiles custom direction part fault) (IsTakenLanguage direction part) (λ custom fault. FailsFiles custom direction part fault) before after old new taken (record { name = name; reversed = taken.reversed; language = listed }) takes
        (λ custom agrees is. record {
          reversed = is.reversed;
          name = copied ∙ named_so after (taken_name custom direction part) taken.place one is.at at;
          language = lists_at Language custom (taken_name custom direction part) one.finding listed (named_is_found custom after (taken_name custom direction part) taken.place one agrees is.at at) lists;
        })

  -- no language is taken
  pub takes_no_language : (before after : List FoundText) (old new : StoreView) (fault : LoadFault) → Loads (IsTaken direction part) (λ custom fault. FailsFiles custom direction part fault) before old (Err fault) after new → Loads (IsTakenLanguage direction part) (λ custom fault. FailsFiles custom direction part fault) before old (Err fault) after new
  takes_no_language before after old new fault takes =
      fails_so (IsTaken direction part) (λ custom fault. FailsFiles custom direction part fault) (IsTakenLanguage direction part) (λ custom fault. FailsFiles custom direction part fault) before after old new fault takes (λ custom agrees fails. fails)
