use Rattle.std.proofs.Common.{ℕ, List, [], ◌∷◌, None, Ok, Err, refl, sym, subst}
use Rattle.std.proofs.lemmas.Result.{err_from_is_err_and}
use Rattle.dfa_loading.specs.Headers.{headers_of}
use Rattle.formula_resolve.specs.Headers.{Headers}
use Rattle.system_files.specs.SystemFiles.{Custom}
use Rattle.word_commands.specs.declared.convert.Target.{Target}
use Rattle.word_commands.specs.BaseWords.{IsBaseOf, over_base}
use Rattle.command_parts.specs.Checks.{Fails}
use Rattle.word_commands.specs.ConvertMakes.{HasSameLetters, head_of}
use Rattle.definitions.specs.Trees.{custom_of}
use Rattle.word_commands.specs.OldWordMakes.{AreOldNames}
use Rattle.command_parts.specs.TrackSystems.{fault_of}
use Rattle.command_parts.specs.WordPrinting.{Keeps, HaveNames}
use Rattle.std.specs.Rc.{rc_value}
use Rattle.base_change.specs.Conversions.{AreRelated, DoesConversion}
use Rattle.word_output.specs.Words.{WordValue}
use Rattle.word_commands.specs.ConvertSteps.{DoesConvert}
use Rattle.word_commands.proofs.OldWordChains.{unread}
use Rattle.word_commands.proofs.ConvertChains.{base_missing, bases_unrelated}
use Rattle.word_commands.proofs.ConvertTexts.{convert_kept, convert_names, convert_unmade}
use Rattle.word_commands.proofs.ConvertedSteps.{convertible, converted_here, old_related, unconverted_here}
use Rattle.word_commands.proofs.convert.made_over.Goals as goal

pub returns-in_err-over : goal.returns-in_err-over
returns-in_err-over c =
    let p = err_from_is_err_and c.from_residual.result c.from_residual.ensures.1 in
    let fault = c.in_err-over.field-0.0 in
    let read = c.args.read.now in
    let refused = subst (λ (h : Headers). Fails (over_base None h read.old.name) fault) c.requires.named.1.headers c.in_err-over.ensures in
    λ custom named ledger files word stores same listed. rw (p.1, p.2) (base_missing ledger (head_of word read) read.old.mentioned.tables.items c.args.named.steps fault refused)

pub change_of-requires : goal.change_of-requires
change_of-requires c = c.in_ok-over.ensures.base_is

pub returns-in_err-change : goal.returns-in_err-change
returns-in_err-change c =
    let p = err_from_is_err_and c.from_residual-in_err-change.result c.from_residual-in_err-change.ensures.1 in
    let fault = c.in_err-change.field-0.0 in
    let read = c.args.read.now in
    let over = c.in_ok-over.over in
    let over_is : IsBaseOf None (headers_of read.old.mentioned.tables.items) read.old.name over = subst (λ (h : Headers). IsBaseOf None h read.old.name over) c.requires.named.1.headers c.in_ok-over.ensures in
    λ custom named ledger files word stores same listed. rw (p.1, p.2) (bases_unrelated ledger (head_of word read) read.old.mentioned.tables.items c.args.named.steps over over_is fault c.in_err-change.ensures)

pub sealed_base-requires : goal.sealed_base-requires
sealed_base-requires c = (c.in_ok-change.change.system, c.in_ok-change.ensures.name_is)

pub returns-in_err-system : goal.returns-in_err-system
returns-in_err-system c =
    let p = err_from_is_err_and c.from_residual-in_err-system.result c.from_residual-in_err-system.ensures.1 in
    λ custom named ledger files word stores same listed. rw (p.1, p.2) tt

pub returns-in_err-old : goal.returns-in_err-old
returns-in_err-old c =
    let p = err_from_is_err_and c.from_residual-in_err-old.result c.from_residual-in_err-old.ensures.1 in
    let fault = c.in_err-old.field-0.0 in
    let read = c.args.read.now in
    let change = c.in_ok-change.change in
    let target : Target = record { system = c.in_ok-system.system; common = change.common } in
    let possible = convertible read c.args.named.names c.in_ok-over.over change target c.requires.named.1.headers c.in_ok-over.ensures c.in_ok-change.ensures (c.in_ok-system.ensures change.system c.in_ok-change.ensures.name_is) refl in
    λ custom named ledger files word stores same listed.
    let here = subst (λ (k : Custom). AreOldNames read.old k c.args.named.names) (sym same) named in
    rw (p.1, p.2) (convert_unmade ledger read possible.over possible.over_is change possible.change_is word c.args.named.steps (fault_of fault)
    (unread c.args.named.steps (custom_of ledger) read.old.mentioned.tables.items read.old.name (DoesConvert change) fault (c.in_err-old.ensures (custom_of ledger) here)))

pub word_over-requires : goal.word_over-requires
word_over-requires c =
    let read = c.args.read.now in
    let change = c.in_ok-change.change in
    let target : Target = record { system = c.in_ok-system.system; common = change.common } in
    let possible = convertible read c.args.named.names c.in_ok-over.over change target c.requires.named.1.headers c.in_ok-over.ensures c.in_ok-change.ensures (c.in_ok-system.ensures change.system c.in_ok-change.ensures.name_is) refl in
    let is = c.in_ok-old.ensures c.requires.named.0 c.requires.named.1 in
    subst (λ (w : WordValue). AreRelated w.systems (rc_value target.system) change.common) (sym c.as_ref.ensures)
    (old_related read.old c.requires.old c.requires.named.0 c.args.named.steps c.read_old.new.steps (rc_value c.in_ok-old.old) is change target possible)

pub returns-in_err-word : goal.returns-in_err-word
returns-in_err-word c =
    let p = err_from_is_err_and c.from_residual-in_err-word.result c.from_residual-in_err-word.ensures.1 in
    let fault = c.in_err-word.field-0.0 in
    let read = c.args.read.now in
    let change = c.in_ok-change.change in
    let target : Target = record { system = c.in_ok-system.system; common = change.common } in
    let possible = convertible read c.args.named.names c.in_ok-over.over change target c.requires.named.1.headers c.in_ok-over.ensures c.in_ok-change.ensures (c.in_ok-system.ensures change.system c.in_ok-change.ensures.name_is) refl in
    let done = subst (λ (w : WordValue). DoesConversion w (rc_value target.system) change.common c.read_old.new.steps (Err fault) c.word_over.new.steps) c.as_ref.ensures c.in_err-word.ensures.steps in
    λ custom named ledger files word stores same listed.
    let here = subst (λ (k : Custom). AreOldNames read.old k c.args.named.names) (sym same) named in
    rw (p.1, p.2) (convert_unmade ledger read possible.over possible.over_is change possible.change_is word c.args.named.steps (fault_of fault)
    (unconverted_here read.old c.requires.old (custom_of ledger) c.args.named.steps c.read_old.new.steps (rc_value c.in_ok-old.old) (c.in_ok-old.ensures (custom_of ledger) here) change target possible fault c.word_over.new.steps done))

pub returns-in_err-copy : goal.returns-in_err-copy
returns-in_err-copy c =
    let p = err_from_is_err_and c.from_residual-in_err-copy.result c.from_residual-in_err-copy.ensures.1 in
    λ custom named ledger files word stores same listed. rw (p.1, p.2) tt

pub word_made-requires : goal.word_made-requires
word_made-requires c =
    let read = c.args.read.now in
    let old = c.requires.old in
    let change = c.in_ok-change.change in
    let word = c.in_ok-word.word in
    let target : Target = record { system = c.in_ok-system.system; common = change.common } in
    let possible = convertible read c.args.named.names c.in_ok-over.over change target c.requires.named.1.headers c.in_ok-over.ensures c.in_ok-change.ensures (c.in_ok-system.ensures change.system c.in_ok-change.ensures.name_is) refl in
    let done = subst (λ (w : WordValue). DoesConversion w (rc_value target.system) change.common c.read_old.new.steps (Ok word) c.word_over.new.steps) c.as_ref.ensures c.in_ok-word.ensures.steps in
    let letters = subst (λ (w : WordValue). HasSameLetters w word) c.as_ref.ensures c.in_ok-word.ensures.letters in
    let made = λ (custom : Custom) (named : AreOldNames read.old custom c.args.named.names).
    converted_here read.old c.requires.old custom c.args.named.steps c.read_old.new.steps (rc_value c.in_ok-old.old) (c.in_ok-old.ensures custom named) change target possible word c.word_over.new.steps done c.in_ok-word.ensures.word letters in
    subst (λ (n : List ℕ). HaveNames (n ∷ []) word.systems) (sym c.in_ok-copy.ensures)
    (convert_names read.old old.0 old.1.listed c.requires.named.0 c.args.named.steps possible.over read.system change possible.change_is word c.word_over.new.steps.lines (made c.requires.named.0 c.requires.named.1))

pub returns : goal.returns
returns c =
    let read = c.args.read.now in
    let change = c.in_ok-change.change in
    let word = c.in_ok-word.word in
    let target : Target = record { system = c.in_ok-system.system; common = change.common } in
    let possible = convertible read c.args.named.names c.in_ok-over.over change target c.requires.named.1.headers c.in_ok-over.ensures c.in_ok-change.ensures (c.in_ok-system.ensures change.system c.in_ok-change.ensures.name_is) refl in
    let done = subst (λ (w : WordValue). DoesConversion w (rc_value target.system) change.common c.read_old.new.steps (Ok word) c.word_over.new.steps) c.as_ref.ensures c.in_ok-word.ensures.steps in
    let letters = subst (λ (w : WordValue). HasSameLetters w word) c.as_ref.ensures c.in_ok-word.ensures.letters in
    let made = λ (custom : Custom) (named : AreOldNames read.old custom c.args.named.names).
    converted_here read.old c.requires.old custom c.args.named.steps c.read_old.new.steps (rc_value c.in_ok-old.old) (c.in_ok-old.ensures custom named) change target possible word c.word_over.new.steps done c.in_ok-word.ensures.word letters in
    let keeps = subst (λ (n : List ℕ). Keeps (n ∷ []) word c.args.shown c.word_over.new.steps.lines c.word_made.result) c.in_ok-copy.ensures c.word_made.ensures in
    λ custom named ledger files name stores same listed.
    let here = subst (λ (k : Custom). AreOldNames read.old k c.args.named.names) (sym same) named in
    convert_kept ledger read possible.over possible.over_is change possible.change_is name c.args.named.steps files stores listed word c.word_over.new.steps.lines (made (custom_of ledger) here) c.letters_fit.ensures c.args.shown c.word_made.result keeps
