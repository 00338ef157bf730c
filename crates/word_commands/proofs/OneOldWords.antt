-- The steps that make a word of an old one have one answer, where they have one for each word.
use Rattle.std.proofs.Common.{◌≡◌, ◌≢◌, ◌⊎◌, ℕ, List, Some, Result, Ok, Err, inl, inr, refl, sym, ap, ◌∙◌, subst}
use Rattle.wal_outside.specs.Files.{Files}
use Rattle.digit_tuple.specs.Steps.{StepLog}
use Rattle.digit_tuple.specs.declared.step_fault.StepFault.{StepFault}
use Rattle.digit_tuple.specs.declared.step_fault.StepFault.TheVariants as steps
use Rattle.digit_tuple.specs.declared.steps.StepLine.{StepLine}
use Rattle.automaton_steps.proofs.AnswerCases.{one_result}
use Rattle.automaton_steps.specs.OneAnswers.{HasOneAnswer}
use Rattle.dfa_loading.specs.Loading.{AreListedBy}
use Rattle.dfa_loading.specs.declared.loaded.Loaded.{Loaded}
use Rattle.plan_relations.specs.Libraries.{word_named}
use Rattle.formula_resolve.specs.declared.file.File.{File}
use Rattle.word_output.specs.Words.{WordValue}
use Rattle.definitions.specs.Trees.{Ledger, Tree, custom_of}
use Rattle.system_files.specs.SystemFiles.{Custom}
use Rattle.command_parts.specs.Accepting.{stored}
use Rattle.command_parts.specs.Checks.{Pure, IsSingle}
use Rattle.command_parts.specs.FormulaSteps.{IsReadingStopped}
use Rattle.word_commands.specs.ImageOutcomes.{IsOldWordRead}
use Rattle.word_commands.specs.OldWordSteps.{AreOldWordSteps, OldWordAnswers, after_old_steps, made_of_old, old_word_done, old_word_success}
use Rattle.command_parts.specs.TableReads.{TableRead, words_in}
use Rattle.command_parts.specs.TrackSystems.{fault_of}
use Rattle.word_commands.proofs.ImageCheckNames.{OldAnswers}
use Rattle.command_parts.proofs.CheckSteps.{then_single}
use Rattle.word_commands.proofs.OneImages.{old_single}
use Rattle.command_parts.proofs.OneMeantReadings.{IsStopped, both_stopped, read_stopped, same_reading, stopped_by}
use Rattle.command_parts.proofs.OneTexts.{stored_single}
use Rattle.command_parts.proofs.RefusingSteps.{refusing_single}

-- the lines of what is done, or its fault
abbrev of_steps : Result WordValue StepFault → List StepLine → Result (List StepLine) StepFault
of_steps (Ok word) lines = Ok lines
of_steps (Err fault) lines = Err fault

module _ (admitted : StepLog) (custom : Custom) (tables : List Loaded) (old : List ℕ) (does : WordValue → StepLog → Result WordValue StepFault → StepLog → Type 0) where
  -- the steps are done after the table is read
  record AreDone (r : Result (List StepLine) StepFault) : Type 0 where
    result : Result WordValue StepFault
    lines : List StepLine
    done : AreOldWordSteps admitted custom tables old does result lines
    not_memory : result ≢ Err steps.Memory
    is : r ≡ of_steps result lines

  -- or the table is not read
  record IsUnread (r : Result (List StepLine) StepFault) : Type 0 where
    fault : StepFault
    not_memory : fault ≢ steps.Memory
    stopped : IsReadingStopped admitted custom tables fault
    is : r ≡ Err fault

  old_is : (r : Result (List StepLine) StepFault) → OldWordAnswers admitted custom tables old does r → AreDone r ⊎ IsUnread r
  old_is (Ok lines) (word, done) = inl (record { result = Ok word; lines = lines; done = done; not_memory = λ no. cc; is = refl })
  old_is (Err (steps.Letters step)) (inl stopped) = inr (record { fault = steps.Letters step; not_memory = λ no. cc; stopped = stopped; is = refl })
  old_is (Err (steps.Letters step)) (inr (lines, done)) = inl (record { result = Err (steps.Letters step); lines = lines; done = done; not_memory = λ no. cc; is = refl })
  old_is (Err (steps.States step)) (inl stopped) = inr (record { fault = steps.States step; not_memory = λ no. cc; stopped = stopped; is = refl })
  old_is (Err (steps.States step)) (inr (lines, done)) = inl (record { result = Err (steps.States step); lines = lines; done = done; not_memory = λ no. cc; is = refl })
  old_is (Err steps.Memory) a = absurd a

  module _ (one : (word : WordValue) → HasOneAnswer steps.Memory (does word)) (files : Files) (named : List File) (listed : AreListedBy files named tables) where
    word_same : (u v : WordValue) → Some u ≡ Some v → u ≡ v
    word_same u v same = cc

    same_before : (a b : IsOldWordRead admitted custom tables old) → (a.reading ≡ b.reading) × (a.word ≡ b.word)
    same_before a b =
        let read : (a.reads ≡ b.reads) × (a.reading ≡ b.reading) =
        same_reading admitted custom tables files named listed a.systems b.systems a.reading b.reading a.reads b.reads a.sealed a.meant b.sealed b.meant a.read b.read in
        (read.1, word_same a.word b.word (sym a.word_is ∙ (ap (λ (rs : List TableRead). word_named (words_in rs) old) read.0 ∙ b.word_is)))

    -- what is done on the one word that is read is done on the other
    both_done : (r s : Result (List StepLine) StepFault) → AreDone r → AreDone s → r ≡ s
    both_done r s p q =
        let a = p.done.before in
        let b = q.done.before in
        let same = same_before a b in
        let there : does a.word a.reading q.result q.done.log =
        subst (λ (w : WordValue). does w a.reading q.result q.done.log) (sym same.1) (subst (λ (l : StepLog). does b.word l q.result q.done.log) (sym same.0) q.done.done) in
        let equal = one_result steps.Memory p.done.log q.done.log p.result q.result (one a.word a.reading p.done.log q.done.log p.result q.result p.done.done there) p.not_memory q.not_memory in
        let lines : p.lines ≡ q.lines = p.done.lines_are ∙ (ap (λ (log : StepLog). log.lines) equal.1 ∙ sym q.done.lines_are) in
        p.is ∙ ((λ i. of_steps (equal.0 i) (lines i)) ∙ sym q.is)

    -- a table that is read is not one that is not
    stops : (s : Result (List StepLine) StepFault) (q : IsUnread s) → IsStopped admitted custom tables (Err q.fault)
    stops s q = stopped_by admitted custom tables q.fault q.not_memory q.stopped

    not_both : (r s : Result (List StepLine) StepFault) → AreDone r → IsUnread s → ⊥
    not_both r s p q =
        let a = p.done.before in
        read_stopped admitted custom tables files named listed a.systems a.reading a.reads (Err q.fault) a.sealed a.meant a.read (stops s q)

    neither : (r s : Result (List StepLine) StepFault) → IsUnread r → IsUnread s → r ≡ s
    neither r s p q =
        p.is ∙ (both_stopped admitted custom tables files named listed (Err p.fault) (Err q.fault) (stops r p) (stops s q) ∙ sym q.is)

    old_one : (r s : Result (List StepLine) StepFault) → OldWordAnswers admitted custom tables old does r → OldWordAnswers admitted custom tables old does s → r ≡ s
    old_one r s a b = by (old_is r a) (old_is s b)
      where
        by : AreDone r ⊎ IsUnread r → AreDone s ⊎ IsUnread s → r ≡ s
        by (inl p) (inl q) = both_done r s p q
        by (inl p) (inr q) = absurd (not_both r s p q)
        by (inr p) (inl q) = absurd (not_both s r q p)
        by (inr p) (inr q) = neither r s p q

-- and so have the checks of what they make
pub made_single : (ledger : Ledger) (name old : List ℕ) (does : WordValue → StepLog → Result WordValue StepFault → StepLog → Type 0) (made_of : Tree → Tree) (tables : List Loaded) (admitted : StepLog)
    → ((word : WordValue) → HasOneAnswer steps.Memory (does word)) → (files : Files) (named : List File) → AreListedBy files named tables → IsSingle (made_of_old ledger name old does made_of tables admitted)
made_single ledger name old does made_of tables admitted one files named listed =
    let custom : Custom = custom_of ledger in
    then_single (old_word_done admitted custom tables old does) (λ lines. after_old_steps ledger name old made_of lines)
    (refusing_single fault_of (OldWordAnswers admitted custom tables old does) (old_one admitted custom tables old does one files named listed)) (λ lines done.
    then_single (Pure (OldAnswers ledger old)) (λ entry. stored custom (old_word_success name made_of entry lines)) (old_single ledger old) (λ entry is_old.
    stored_single custom (old_word_success name made_of entry lines)))
