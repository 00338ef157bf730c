-- The adder beside the language that is taken.
use Rattle.std.proofs.Common.{◌≡◌, ℕ, Bool, List, [], ◌∷◌, Result, Ok, Err, inr, sym, ap, ◌∙◌, subst, arith}
use Rattle.dfa_loading.specs.declared.fault.FileFlaw.{FileFlaw}
use Rattle.dfa_loading.specs.declared.fault.FileFlaw.TheVariants as flaws
use Rattle.dfa_loading.specs.declared.fault.LoadFault.{LoadFault}
use Rattle.dfa_loading.specs.declared.fault.LoadFault.TheVariants as faults
use Rattle.dfa_reading.specs.Headers.{Sets}
use Rattle.dfa_reading.specs.Listed.{Listed}
use Rattle.dfa_reading.specs.SystemFiles.{IsLanguageListed, IsAdderListed}
use Rattle.dfa_reading.specs.declared.system_part.SystemPart.TheVariants.{Adder}
use Rattle.dfa_reading.proofs.SystemHeaders.{adder_files_list_adders}
use Rattle.digit_tuple.specs.Systems.{digit_set}
use Rattle.digit_tuple.specs.declared.direction.Direction.{Direction}
use Rattle.digit_tuple.proofs.SystemLemmas.{length-digit_set}
use Rattle.wal_outside.specs.Views.{StoreView}
use Rattle.system_names.specs.UserNames.{adder_name}
use Rattle.system_files.specs.SystemFiles.{Custom, SystemFiles, AreOverDigits, taken_name, IsLanguageAt, HasLanguage, AreFilesOf, IsNoAdder}
use Rattle.system_files.specs.SystemTexts.{FoundText}
use Rattle.system_files.specs.SystemLoading.{FailsFiles, AreFilesLoaded}
use Rattle.system_files.specs.Looks.{IsPartAt, IsNoPart, FailsPart, IsListedPart, Loads, digits_on}
use Rattle.system_files.specs.Taking.{IsTakenLanguage}
use Rattle.system_files.specs.declared.taking.TakenLanguage.{TakenLanguage}
use Rattle.system_files.proofs.LoadSteps.{fails_so, loads_both, fails_both}

-- the header of a language determines its digits
pub header_of : (digits : ℕ) (listed : Listed) → digits ≡ digits_on listed.header → IsLanguageListed listed → listed.header ≡ Sets (digit_set digits ∷ [])
header_of digits listed counted is =
    let same : is.digits ≡ digits = sym (counted ∙ ap digits_on is.header ∙ length-digit_set is.digits) in
    is.header ∙ ap (λ (n : ℕ). Sets (digit_set n ∷ [])) same

pub are_over_digits : (digits : ℕ) (reversed : Bool) (language adder : Listed) → digits ≡ digits_on language.header → IsLanguageListed language → IsListedPart (Adder digits) adder
    → AreOverDigits (record { digits = digits; reversed = reversed; language = language; adder = adder })
are_over_digits digits reversed language adder counted is (text, lists) =
    let adds : IsAdderListed digits adder = adder_files_list_adders digits text adder lists in
    let same : digits ≡ is.digits = counted ∙ ap digits_on is.header ∙ length-digit_set is.digits in
    record {
      language = header_of digits language counted is;
      adder = adds.header;
      some_digit = omega (arith, same, is.some_digit);
      language_states = is.some_state;
      adder_states = adds.some_state;
    }

no_adder : (digits : ℕ) (text : List ℕ) (flaw : FileFlaw) → IsNoPart (Adder digits) text flaw → IsNoAdder digits text flaw
no_adder digits text (flaws.Line at) is = is
no_adder digits text flaws.TooLong is = is

-- what was loaded so, is loaded
pub are_loaded : (direction : Direction) (part : List ℕ) (before after : List FoundText) (old new : StoreView) (result : Result SystemFiles LoadFault) → Loads (λ custom found files. AreFilesOf custom direction part files) (λ custom fault. FailsFiles custom direction part fault) before old result after new
    → AreFilesLoaded direction part before old result after new
are_loaded direction part before after old new (Ok files) loads = record { gives = loads.gives; found = loads.found; has_read = loads.has_read }
are_loaded direction part before after old new (Err fault) loads = record { gives = loads.gives; found = loads.found; has_read = loads.has_read }

module _ (direction : Direction) (part : List ℕ) where
  -- no language is there
  pub loads_no_language : (before after : List FoundText) (old new : StoreView) (fault : LoadFault) → Loads (IsTakenLanguage direction part) (λ custom fault. FailsFiles custom direction part fault) before old (Err fault) after new
      → Loads {X = SystemFiles} (λ custom found files. AreFilesOf custom direction part files) (λ custom fault. FailsFiles custom direction part fault) before old (Err fault) after new
  loads_no_language before after old new fault takes =
      fails_so (IsTakenLanguage direction part) (λ custom fault. FailsFiles custom direction part fault) (λ custom found (files : SystemFiles). AreFilesOf custom direction part files) (λ custom fault. FailsFiles custom direction part fault) before after old new fault takes (λ custom agrees fails. fails)

  module _ (before mid : List FoundText) (old later : StoreView) (taken : TakenLanguage) (digits : ℕ) (counted : digits ≡ digits_on taken.language.header) (listed : IsLanguageListed taken.language)
      (takes : Loads (IsTakenLanguage direction part) (λ custom fault. FailsFiles custom direction part fault) before old (Ok taken) mid later) where
    language_at : (custom : Custom) → IsTakenLanguage direction part custom mid taken → IsLanguageAt custom (taken_name custom direction part) digits taken.language
    language_at custom is = record { text = is.language.text; there = is.language.there; short = is.language.short; lists = is.language.lists; header = header_of digits taken.language counted listed }

    has_language : (custom : Custom) → IsTakenLanguage direction part custom mid taken → HasLanguage custom direction part digits
    has_language custom is = (taken.language, language_at custom is)

    adder_fails : (custom : Custom) (fault : LoadFault) → HasLanguage custom direction part digits → FailsPart (Adder digits) custom (adder_name (taken_name custom direction part)) fault → FailsFiles custom direction part fault
    adder_fails custom (faults.Unknown folder name) has fails = (fails.0, inr (digits, has, ap custom fails.1 ∙ fails.2, fails.1))
    adder_fails custom (faults.File folder name flaw) has fails =
        let (text, found_as, none) = fails.2 in
        (fails.0, inr (digits, has, (text, ap custom fails.1 ∙ found_as, fails.1, no_adder digits text flaw none)))
    adder_fails custom (faults.Store folder name) has fails = (fails.0, inr (inr (digits, has, fails.1)))
    adder_fails custom faults.Memory has fails = tt

    module _ (name : List ℕ) (named : name ≡ adder_name taken.name) (after : List FoundText) (new : StoreView) where
      pub loads_no_adder : (fault : LoadFault) → Loads (λ custom found listed. IsPartAt (Adder digits) custom name listed) (λ custom fault. FailsPart (Adder digits) custom name fault) mid later (Err fault) after new
          → Loads {X = SystemFiles} (λ custom found files. AreFilesOf custom direction part files) (λ custom fault. FailsFiles custom direction part fault) before old (Err fault) after new
      loads_no_adder fault loads =
          fails_both (IsTakenLanguage direction part) (λ custom fault. FailsFiles custom direction part fault) (λ custom found (listed : Listed). IsPartAt (Adder digits) custom name listed) (λ custom fault. FailsPart (Adder digits) custom name fault) (λ custom found (files : SystemFiles). AreFilesOf custom direction part files)
          (λ custom fault. FailsFiles custom direction part fault) before mid after old later new taken takes fault loads
          (λ custom agrees is fails. adder_fails custom fault (has_language custom is) (subst (λ (n : List ℕ). FailsPart (Adder digits) custom n fault) (named ∙ ap adder_name is.name) fails))

      pub loads_files : (adder : Listed) → Loads (λ custom found listed. IsPartAt (Adder digits) custom name listed) (λ custom fault. FailsPart (Adder digits) custom name fault) mid later (Ok adder) after new
          → Loads (λ custom found files. AreFilesOf custom direction part files) (λ custom fault. FailsFiles custom direction part fault) before old (Ok (record { digits = digits; reversed = taken.reversed; language = taken.language; adder = adder })) after new
      loads_files adder loads =
          loads_both (IsTakenLanguage direction part) (λ custom fault. FailsFiles custom direction part fault) (λ custom found (listed : Listed). IsPartAt (Adder digits) custom name listed) (λ custom fault. FailsPart (Adder digits) custom name fault) (λ custom found (files : SystemFiles). AreFilesOf custom direction part files)
          (λ custom fault. FailsFiles custom direction part fault) before mid after old later new taken takes adder (record { digits = digits; reversed = taken.reversed; language = taken.language; adder = adder }) loads
          (λ custom agrees agree is at.
          let found_as = subst (λ (n : List ℕ). IsPartAt (Adder digits) custom n adder) (named ∙ ap adder_name is.name) at in
          record { reversed = is.reversed; language = language_at custom is; adder = record { text = found_as.text; there = found_as.there; short = found_as.short; lists = found_as.lists } })
