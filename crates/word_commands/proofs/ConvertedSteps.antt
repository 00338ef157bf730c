-- The steps by which a word is changed to another base, and why they are refused, from what the code of each part answers.
use Rattle.std.proofs.Common.{◌≡◌, None, Result, Ok, Err, sym, subst}
use Rattle.std.specs.Rc.{rc_value}
use Rattle.digit_tuple.specs.Steps.{StepLog}
use Rattle.digit_tuple.specs.declared.step_fault.StepFault.{StepFault}
use Rattle.base_change.specs.Conversions.{AreRelated, DoesConversion}
use Rattle.base_change.specs.declared.related.CommonRoot.{CommonRoot}
use Rattle.dfa_loading.specs.Headers.{headers_of}
use Rattle.formula_build.specs.declared.names.Names.{Names}
use Rattle.formula_resolve.specs.Headers.{Headers}
use Rattle.word_output.specs.Words.{IsWordValue, WordValue}
use Rattle.system_files.specs.SystemFiles.{Custom}
use Rattle.word_commands.specs.declared.base_system.BaseSystem.{BaseSystem}
use Rattle.word_commands.specs.declared.convert.Change.{Change}
use Rattle.word_commands.specs.declared.convert.ReadConvert.{ReadConvert}
use Rattle.word_commands.specs.declared.convert.Target.{Target}
use Rattle.word_commands.specs.declared.old_word.OldWord.{OldWord}
use Rattle.word_commands.specs.BaseWords.{IsBaseOf}
use Rattle.command_parts.specs.Checks.{Fails}
use Rattle.word_commands.specs.ConvertMakes.{HasSameLetters, IsConvertible, IsConverted}
use Rattle.word_commands.specs.ConvertOutcomes.{IsChange}
use Rattle.word_commands.specs.ConvertSteps.{DoesConvert, IsSealedBase}
use Rattle.word_commands.specs.OldWordMakes.{IsLoadedOld, IsOldRead}
use Rattle.word_commands.specs.OldWordSteps.{old_word_done}
use Rattle.command_parts.specs.TrackSystems.{fault_of}
use Rattle.word_commands.proofs.BaseWordLemmas.{IsOverBaseSystem, word_base}
use Rattle.word_commands.proofs.OldWordChains.{made_of_read, unmade_of_read}
use Rattle.word_commands.proofs.OldWords.{old_over}

-- a word that has one track over a base can be changed to another one
abbrev pub convertible : (read : ReadConvert) (names : Names) (over : BaseSystem) (change : Change) (target : Target) → names.headers ≡ headers_of read.old.mentioned.tables.items → IsBaseOf None names.headers read.old.name over → IsChange over read.system change
    → IsSealedBase change.system (rc_value target.system) → target.common ≡ change.common → IsConvertible read.old change target
convertible read names over change target headers over_is change_is system_is common_is = record {
  over = over;
  over_is = subst (λ (h : Headers). IsBaseOf None h read.old.name over) headers over_is;
  name = read.system;
  change_is = change_is;
  system_is = system_is;
  common_is = common_is;
}

module _ (old : OldWord) (loaded : IsLoadedOld old) (custom : Custom) (admitted reading : StepLog) (word : WordValue) (is : IsOldRead admitted custom old word reading) (change : Change) (target : Target) (possible : IsConvertible old change target) where
  over_base : IsOverBaseSystem word.systems possible.over
  over_base =
      word_base custom is.systems is.reads None (headers_of old.mentioned.tables.items) old.name possible.over word is.meant possible.over_is
      (old_over old.name old.mentioned.tables.items loaded.0 loaded.1.listed is.systems is.sealed custom is.meant is.has is.reads admitted reading is.read word is.word_is)

  -- its base is related to the new one
  pub old_related : AreRelated word.systems (rc_value target.system) target.common
  old_related =
      subst (λ (common : CommonRoot). AreRelated word.systems (rc_value target.system) common) (sym possible.common_is)
      (record {
        old_base = possible.over.base;
        new_base = change.system.base;
        old_range = (possible.over_is.base_is.least, possible.over_is.base_is.most);
        new_range = (possible.change_is.name_is.0.least, possible.change_is.name_is.0.most);
        old_is = over_base.base_is;
        new_is = possible.system_is.base_is;
        root = possible.change_is.root;
      })

  by_change : (result : Result WordValue StepFault) (log : StepLog) → DoesConversion word (rc_value target.system) target.common reading result log → DoesConvert change word reading result log
  by_change result log does = (rc_value target.system, possible.system_is, subst (λ (common : CommonRoot). DoesConversion word (rc_value target.system) common reading result log) possible.common_is does)

  -- the word is made
  pub converted_here : (v : WordValue) (log : StepLog) → DoesConversion word (rc_value target.system) target.common reading (Ok v) log → IsWordValue v → HasSameLetters word v → IsConverted admitted custom old change v log.lines
  converted_here v log does word_is letters = record { of_old = made_of_read is (DoesConvert change) log v (by_change (Ok v) log does); word_is = word_is; letters = letters }

  -- or a step is refused
  pub unconverted_here : (fault : StepFault) (log : StepLog) → DoesConversion word (rc_value target.system) target.common reading (Err fault) log → Fails (old_word_done admitted custom old.mentioned.tables.items old.name (DoesConvert change)) (fault_of fault)
  unconverted_here fault log does = unmade_of_read is (DoesConvert change) log fault (by_change (Err fault) log does)
