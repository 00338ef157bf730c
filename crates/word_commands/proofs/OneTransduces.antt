-- A `transduce` has one outcome.
use Rattle.std.proofs.Common.{◌≡◌, ℕ, List, Some, Result, Ok, Err, codes, subst}
use Rattle.wal_outside.specs.Files.{Files}
use Rattle.digit_tuple.specs.declared.direction.Direction.TheVariants.{Msd}
use Rattle.command_head.specs.Grammar.{DerivesImage}
use Rattle.command_head.proofs.OneFault.{one_head}
use Rattle.command_head.proofs.WordHeads.{one_image}
use Rattle.dfa_loading.specs.Headers.{headers_of}
use Rattle.dfa_loading.specs.declared.fault.LoadFault.{LoadFault}
use Rattle.formula_resolve.specs.FirstMentions.{first_files, first_systems}
use Rattle.transducer_loading.specs.TransducerFiles.{AnswersTransducer}
use Rattle.transducer_loading.proofs.OneAnswer.{files_have_one_answer}
use Rattle.transducer_reading.specs.Transducers.{Transducer}
use Rattle.definitions.specs.Texts.{Stores}
use Rattle.definitions.specs.Trees.{Ledger, Transduced, custom_of}
use Rattle.command_parts.specs.declared.refusal.Refusal.{Refusal}
use Rattle.word_commands.specs.BaseWords.{BaseAnswers, fault_of_base, named_base, over_base}
use Rattle.command_parts.specs.Checks.{Pure, IsSingle}
use Rattle.command_parts.specs.FileChecks.{files_loaded}
use Rattle.command_parts.specs.FormulaFaults.{fault_of_loading}
use Rattle.command_parts.specs.HeadAnswers.{HeadAnswers}
use Rattle.word_commands.specs.ImageOutcomes.{old_mentions}
use Rattle.command_parts.specs.SystemChecks.{systems_known}
use Rattle.word_commands.specs.TransduceOutcomes.{after_transduce_head, after_transduced_base, after_transduced_systems, after_transduced_table, after_transducer, transduce_checks}
use Rattle.word_commands.specs.TransduceSteps.{DoesTransduce}
use Rattle.word_commands.specs.TransducerChecks.{TransducerAnswers, transducer_loaded}
use Rattle.word_commands.proofs.BaseNames.{base_one}
use Rattle.command_parts.proofs.CheckSteps.{then_single, single_so}
use Rattle.command_parts.proofs.OneHeads.{head_single}
use Rattle.command_parts.proofs.OneLoadings.{files_single, same_there}
use Rattle.word_commands.proofs.OneOldWords.{made_single}
use Rattle.command_parts.proofs.OneSystems.{systems_single}
use Rattle.word_commands.proofs.TransduceSteps.{transductions_one}
use Rattle.command_parts.specs.RefusingChecks.{Refusing}
use Rattle.command_parts.proofs.RefusingSteps.{refusing_single}

-- what the file of a transducer gives
record IsLoading (ledger : Ledger) (name : List ℕ) (r : Result Transducer LoadFault) : Type 0 where
  files : Files
  stores : Stores ledger files
  answers : AnswersTransducer files name r

loading_is : (ledger : Ledger) (name : List ℕ) (r : Result Transducer Refusal) → TransducerAnswers ledger name r → (Refusing fault_of_loading (IsLoading ledger name)).answers r
loading_is ledger name (Ok made) (files, stores, there) = record { files = files; stores = stores; answers = there }
loading_is ledger name (Err refusal) (fault, is, (files, stores, refuses)) = (fault, is, record { files = files; stores = stores; answers = refuses })

loading_one : (ledger : Ledger) (name : List ℕ) (r s : Result Transducer LoadFault) → IsLoading ledger name r → IsLoading ledger name s → r ≡ s
loading_one ledger name r s p q =
    let same : q.files ≡ p.files = λ i folder under. same_there ledger q.files p.files q.stores p.stores folder under i in
    files_have_one_answer p.files name r s p.answers (subst (λ (files : Files). AnswersTransducer files name s) same q.answers)

transducer_single : (ledger : Ledger) (name : List ℕ) → IsSingle (transducer_loaded ledger name)
transducer_single ledger name = single_so (transducer_loaded ledger name) (Refusing fault_of_loading (IsLoading ledger name)) (loading_is ledger name) (refusing_single fault_of_loading (IsLoading ledger name) (loading_one ledger name))

pub transduce_single : (limit : ℕ) (ledger : Ledger) (text : List ℕ) → IsSingle (transduce_checks limit ledger text)
transduce_single limit ledger text =
    let custom = custom_of ledger in
    then_single (Pure (HeadAnswers (DerivesImage (codes "transduce")) text)) (λ head. after_transduce_head limit ledger head) (head_single (DerivesImage (codes "transduce")) (one_head (DerivesImage (codes "transduce")) (one_image (codes "transduce"))) text) (λ head spells.
    then_single (transducer_loaded ledger head.mapping) (λ t. after_transducer limit ledger head t) (transducer_single ledger head.mapping) (λ t read.
    then_single (files_loaded ledger (first_files (old_mentions head.old))) (λ ts. after_transduced_table limit ledger head t ts) (files_single ledger (first_files (old_mentions head.old))) (λ ts there.
    then_single (systems_known limit custom (first_systems (headers_of ts) (old_mentions head.old))) (λ admitted. after_transduced_systems ledger head t ts admitted) (systems_single limit custom (first_systems (headers_of ts) (old_mentions head.old))) (λ admitted known.
    then_single (over_base (Some Msd) (headers_of ts) head.old) (λ over. after_transduced_base ledger head t ts admitted over)
    (refusing_single fault_of_base (BaseAnswers (Some Msd) (headers_of ts) head.old) (base_one (Some Msd) (headers_of ts) head.old)) (λ over is.
    made_single ledger head.word head.old (DoesTransduce t) (λ tree. Transduced (named_base over) t tree) ts admitted (transductions_one t) there.0 (first_files (old_mentions head.old)) there.2)))))
