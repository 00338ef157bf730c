use Rattle.std.proofs.Common.{ℕ, List, [], ◌∷◌, Some, Ok, Err, sym, subst}
use Rattle.std.proofs.lemmas.Result.{err_from_is_err_and}
use Rattle.digit_tuple.specs.declared.direction.Direction.TheVariants.{Msd}
use Rattle.formula_resolve.specs.Headers.{Headers}
use Rattle.system_files.specs.SystemFiles.{Custom}
use Rattle.definitions.specs.Trees.{custom_of}
use Rattle.word_commands.specs.BaseWords.{IsBaseOf, name_of_base, over_base}
use Rattle.command_parts.specs.Checks.{Fails}
use Rattle.word_commands.specs.OldWordMakes.{AreOldNames}
use Rattle.word_commands.specs.TransduceMakes.{HasMsdBase, IsOverMsd, IsTransducedOld, head_of}
use Rattle.command_parts.specs.WordPrinting.{Keeps, HaveNames}
use Rattle.std.specs.Rc.{rc_value}
use Rattle.word_output.specs.Words.{WordValue}
use Rattle.word_transduce.specs.TransducedWords.{IsTransduced}
use Rattle.command_parts.specs.TrackSystems.{fault_of}
use Rattle.word_commands.specs.TransduceSteps.{DoesTransduce}
use Rattle.word_commands.proofs.OldWordChains.{made_of_read, unmade_of_read, unread}
use Rattle.word_commands.proofs.TransduceReads.{over_msd}
use Rattle.word_commands.proofs.TransduceChains.{base_refused}
use Rattle.word_commands.proofs.TransduceWrites.{transduced_kept, transduced_unmade}
use Rattle.word_commands.proofs.TransduceTexts.{transduced_names}
use Rattle.word_commands.proofs.transduce.made_over.Goals as goal

pub returns-in_err-over : goal.returns-in_err-over
returns-in_err-over c =
    let p = err_from_is_err_and c.from_residual.result c.from_residual.ensures.1 in
    let fault = c.in_err-over.field-0.0 in
    let read = c.args.read.now in
    let refused = subst (λ (h : Headers). Fails (over_base (Some Msd) h read.old.name) fault) c.requires.named.1.headers c.in_err-over.ensures in
    λ custom named ledger files word mapping stores same listed. rw (p.1, p.2) (base_refused ledger (head_of word mapping read) read.transducer read.old.mentioned.tables.items c.args.named.steps fault refused)

pub returns-in_err-old : goal.returns-in_err-old
returns-in_err-old c =
    let p = err_from_is_err_and c.from_residual-in_err-old.result c.from_residual-in_err-old.ensures.1 in
    let fault = c.in_err-old.field-0.0 in
    let read = c.args.read.now in
    let over : HasMsdBase read = (c.in_ok-over.over, subst (λ (h : Headers). IsBaseOf (Some Msd) h read.old.name c.in_ok-over.over) c.requires.named.1.headers c.in_ok-over.ensures) in
    λ custom named ledger files word mapping stores same listed.
    let here : AreOldNames read.old (custom_of ledger) c.args.named.names = subst (λ (k : Custom). AreOldNames read.old k c.args.named.names) (sym same) named in
    rw (p.1, p.2) (transduced_unmade ledger read over word mapping c.args.named.steps (fault_of fault)
    (unread c.args.named.steps (custom_of ledger) read.old.mentioned.tables.items read.old.name (DoesTransduce read.transducer) fault (c.in_err-old.ensures (custom_of ledger) here)))

pub transduced-requires : goal.transduced-requires
transduced-requires c =
    let read = c.args.read.now in
    let over : HasMsdBase read = (c.in_ok-over.over, subst (λ (h : Headers). IsBaseOf (Some Msd) h read.old.name c.in_ok-over.over) c.requires.named.1.headers c.in_ok-over.ensures) in
    let is = c.in_ok-old.ensures c.requires.named.0 c.requires.named.1 in
    subst IsOverMsd (sym c.as_ref.ensures) (over_msd read c.requires.old over c.requires.named.0 c.args.named.steps c.read_old.new.steps (rc_value c.in_ok-old.old) is)

pub returns-in_err-word : goal.returns-in_err-word
returns-in_err-word c =
    let p = err_from_is_err_and c.from_residual-in_err-word.result c.from_residual-in_err-word.ensures.1 in
    let fault = c.in_err-word.field-0.0 in
    let read = c.args.read.now in
    let over : HasMsdBase read = (c.in_ok-over.over, subst (λ (h : Headers). IsBaseOf (Some Msd) h read.old.name c.in_ok-over.over) c.requires.named.1.headers c.in_ok-over.ensures) in
    let done = subst (λ (w : WordValue). DoesTransduce read.transducer w c.read_old.new.steps (Err fault) c.transduced.new.steps) c.as_ref.ensures c.in_err-word.ensures.steps in
    λ custom named ledger files word mapping stores same listed.
    let here : AreOldNames read.old (custom_of ledger) c.args.named.names = subst (λ (k : Custom). AreOldNames read.old k c.args.named.names) (sym same) named in
    rw (p.1, p.2) (transduced_unmade ledger read over word mapping c.args.named.steps (fault_of fault)
    (unmade_of_read (c.in_ok-old.ensures (custom_of ledger) here) (DoesTransduce read.transducer) c.transduced.new.steps fault done))

pub returns-in_err-name : goal.returns-in_err-name
returns-in_err-name c =
    let p = err_from_is_err_and c.from_residual-in_err-name.result c.from_residual-in_err-name.ensures.1 in
    λ custom named ledger files word mapping stores same listed. rw (p.1, p.2) tt

pub word_made-requires : goal.word_made-requires
word_made-requires c =
    let read = c.args.read.now in
    let over : HasMsdBase read = (c.in_ok-over.over, subst (λ (h : Headers). IsBaseOf (Some Msd) h read.old.name c.in_ok-over.over) c.requires.named.1.headers c.in_ok-over.ensures) in
    let word = c.in_ok-word.word in
    let done = subst (λ (w : WordValue). DoesTransduce read.transducer w c.read_old.new.steps (Ok word) c.transduced.new.steps) c.as_ref.ensures c.in_ok-word.ensures.steps in
    let letters = subst (λ (w : WordValue). IsTransduced read.transducer w word) c.as_ref.ensures c.in_ok-word.ensures.letters in
    let made = λ (custom : Custom) (named : AreOldNames read.old custom c.args.named.names). (let m : IsTransducedOld c.args.named.steps custom read word c.transduced.new.steps.lines = record {
      of_old = made_of_read (c.in_ok-old.ensures custom named) (DoesTransduce read.transducer) c.transduced.new.steps word done;
      transduced = letters;
    } in m) in
    let custom = c.requires.named.0 in
    subst (λ (n : List ℕ). HaveNames (n ∷ []) word.systems) (sym c.in_ok-name.ensures)
    (transduced_names read c.requires.old.0 c.requires.old.1.listed over custom c.args.named.steps word c.transduced.new.steps.lines (made custom c.requires.named.1))

pub returns : goal.returns
returns c =
    let read = c.args.read.now in
    let over : HasMsdBase read = (c.in_ok-over.over, subst (λ (h : Headers). IsBaseOf (Some Msd) h read.old.name c.in_ok-over.over) c.requires.named.1.headers c.in_ok-over.ensures) in
    let word = c.in_ok-word.word in
    let lines = c.transduced.new.steps.lines in
    let done = subst (λ (w : WordValue). DoesTransduce read.transducer w c.read_old.new.steps (Ok word) c.transduced.new.steps) c.as_ref.ensures c.in_ok-word.ensures.steps in
    let letters = subst (λ (w : WordValue). IsTransduced read.transducer w word) c.as_ref.ensures c.in_ok-word.ensures.letters in
    let made = λ (custom : Custom) (named : AreOldNames read.old custom c.args.named.names). (let m : IsTransducedOld c.args.named.steps custom read word c.transduced.new.steps.lines = record {
      of_old = made_of_read (c.in_ok-old.ensures custom named) (DoesTransduce read.transducer) c.transduced.new.steps word done;
      transduced = letters;
    } in m) in
    let keeps : Keeps (name_of_base over.0 ∷ []) word c.args.shown lines c.word_made.result = subst (λ (n : List ℕ). Keeps (n ∷ []) word c.args.shown lines c.word_made.result) c.in_ok-name.ensures c.word_made.ensures in
    λ custom named ledger files name mapping stores same listed.
    let here : AreOldNames read.old (custom_of ledger) c.args.named.names = subst (λ (k : Custom). AreOldNames read.old k c.args.named.names) (sym same) named in
    transduced_kept ledger read over name mapping c.args.named.steps files stores listed word lines (made (custom_of ledger) here) c.letters_fit.ensures c.args.shown c.word_made.result keeps
