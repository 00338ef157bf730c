-- The old word that is read from its table is over the base.
use Rattle.std.proofs.Common.{Some, ◌∙◌}
use Rattle.digit_tuple.specs.Steps.{StepLog}
use Rattle.digit_tuple.specs.declared.direction.Direction.TheVariants.{Msd}
use Rattle.dfa_loading.specs.Headers.{headers_of}
use Rattle.word_output.specs.Words.{WordValue}
use Rattle.system_files.specs.SystemFiles.{Custom}
use Rattle.word_commands.specs.declared.transduce.ReadTransducer.{ReadTransducer}
use Rattle.word_commands.specs.OldWordMakes.{IsLoadedOld, IsOldRead}
use Rattle.word_commands.specs.TransduceMakes.{HasMsdBase, IsOverMsd}
use Rattle.word_commands.proofs.BaseWordLemmas.{IsOverBaseSystem, word_base}
use Rattle.word_commands.proofs.OldWords.{old_over}

pub over_msd : (read : ReadTransducer) (old : IsLoadedOld read.old) (over : HasMsdBase read) (custom : Custom) (admitted reading : StepLog) (word : WordValue) → IsOldRead admitted custom read.old word reading → IsOverMsd word
over_msd read old over custom admitted reading word is =
    let name = read.old.name in
    let tables = read.old.mentioned.tables.items in
    let under = old_over name tables old.0 old.1.listed is.systems is.sealed custom is.meant is.has is.reads admitted reading is.read word is.word_is in
    let base : IsOverBaseSystem word.systems over.0 = word_base custom is.systems is.reads (Some Msd) (headers_of tables) name over.0 word is.meant over.1 under in
    record { k = over.0.base; over = record { base_is = over.1.base_is; system = base.base_is }; direction = base.direction_is ∙ over.1.direction_is }
