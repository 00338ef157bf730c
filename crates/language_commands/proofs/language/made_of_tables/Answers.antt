use Rattle.std.proofs.Common.{List, ℤ, Ok, Err, sym, ◌∙◌, ap, subst}
use Rattle.std.proofs.lemmas.Result.{err_from_is_err_and}
use Rattle.digit_tuple.specs.Steps.{StepLog}
use Rattle.digit_tuple.specs.Sets.{sizes_of}
use Rattle.digit_tuple.specs.declared.header.Header.TheVariants as headers
use Rattle.definitions.proofs.LanguageMeanings.{language_text_means}
use Rattle.language_steps.specs.LanguageSteps.{DoesLanguage}
use Rattle.language_steps.specs.Operands.{RunsOutOr}
use Rattle.language_commands.proofs.LanguageTexts.{languages_have_texts}
use Rattle.language_steps.proofs.MadeSizes.{language_sizes}
use Rattle.language_commands.specs.LanguageOutcomes.{language_files}
use Rattle.language_commands.specs.StoredRelations.{Prints}
use Rattle.system_admission.specs.SystemSteps.{no_steps}
use Rattle.language_commands.proofs.LanguageChains.{done_of, language_stopped, language_stored, some_names}
use Rattle.language_commands.proofs.LanguageTables.{files_are_automata, names_have_tables, plain_tables, some_table}
use Rattle.language_commands.proofs.language.made_of_tables.Goals as goal

pub refuse_tables-requires : goal.refuse_tables-requires
refuse_tables-requires c = some_table c.requires.listed.0 c.args.operands.names.now c.args.tables.now c.requires.listed.1 (some_names c.args.operands.op c.args.operands.names.now c.requires.count)

pub returns-in_err-refuse_tables : goal.returns-in_err-refuse_tables
returns-in_err-refuse_tables c =
    let p = err_from_is_err_and c.from_residual.result c.from_residual.ensures.1 in
    rw (p.1, p.2) (λ ledger files name stores listed. c.in_err-refuse_tables.ensures c.args.options.limit ledger c.args.operands.op (record { name = name; languages = c.args.operands.names.now }))

pub language_of-requires-clause-some : goal.language_of-requires-clause-some
language_of-requires-clause-some c = some_names c.args.operands.op c.args.operands.names.now c.requires.count

pub language_of-requires-clause-tables : goal.language_of-requires-clause-tables
language_of-requires-clause-tables c =
    let alike = c.in_ok-refuse_tables.ensures in
    (alike.sets, plain_tables c.requires.listed.0 c.args.operands.names.now c.args.tables.now alike.sets c.requires.listed.1 alike.over)

pub language_of-requires-clause-named : goal.language_of-requires-clause-named
language_of-requires-clause-named c = names_have_tables c.requires.listed.0 c.args.operands.names.now c.args.tables.now c.requires.listed.1

pub returns-in_err-language : goal.returns-in_err-language
returns-in_err-language c =
    let p = err_from_is_err_and c.from_residual-in_err-language.result c.from_residual-in_err-language.ensures.1 in
    let fault = c.in_err-language.field-0.0 in
    let op = c.args.operands.op in
    let names = c.args.operands.names.now in
    let tables = c.args.tables.now in
    let limit = c.args.options.limit in
    let alike = c.in_ok-refuse_tables.ensures in
    let log = c.language_of.new.steps in
    let refused : RunsOutOr (DoesLanguage op names tables) (no_steps limit) (Err fault) log = subst (λ (old : StepLog). RunsOutOr (DoesLanguage op names tables) old (Err fault) log) c.new_steps-steps.ensures c.in_err-language.ensures in
    rw (p.1, p.2) (λ ledger files name stores listed. language_stopped limit ledger op (record { name = name; languages = names }) tables alike.plain alike.sets alike.over c.args.options.shown fault log refused)

pub first_sets-requires : goal.first_sets-requires
first_sets-requires c = let alike = c.in_ok-refuse_tables.ensures in (alike.sets, alike.over)

pub returns-in_err-copy : goal.returns-in_err-copy
returns-in_err-copy c =
    let p = err_from_is_err_and c.from_residual-in_err-copy.result c.from_residual-in_err-copy.ensures.1 in
    rw (p.1, p.2) (λ ledger files name stores listed. tt)

pub made_of-requires : goal.made_of-requires
made_of-requires c =
    let op = c.args.operands.op in
    let names = c.args.operands.names.now in
    let tables = c.args.tables.now in
    let made = c.in_ok-language.language in
    let sets = c.first_sets.result.now in
    let does : DoesLanguage op names tables c.new_steps-steps.result (Ok made) c.language_of.new.steps = done_of (DoesLanguage op names tables) c.new_steps-steps.result made c.language_of.new.steps c.in_ok-language.ensures in
    language_sizes op names tables sets c.new_steps-steps.result c.language_of.new.steps made c.first_sets.ensures does ∙ ap sizes_of (sym c.in_ok-copy.ensures)

pub returns : goal.returns
returns c =
    let op = c.args.operands.op in
    let names = c.args.operands.names.now in
    let tables = c.args.tables.now in
    let limit = c.args.options.limit in
    let shown = c.args.options.shown in
    let alike = c.in_ok-refuse_tables.ensures in
    let made = c.in_ok-language.language in
    let log = c.language_of.new.steps in
    let sets = c.first_sets.result.now in
    let does : DoesLanguage op names tables (no_steps limit) (Ok made) log = subst (λ (old : StepLog). DoesLanguage op names tables old (Ok made) log) c.new_steps-steps.ensures (done_of (DoesLanguage op names tables) c.new_steps-steps.result made log c.in_ok-language.ensures) in
    let prints : Prints (headers.Sets sets) made shown log.lines c.made_of.result = subst (λ (ss : List (List ℤ)). Prints (headers.Sets ss) made shown log.lines c.made_of.result) c.in_ok-copy.ensures c.made_of.ensures in
    λ ledger files name stores listed.
    language_stored limit ledger op (record { name = name; languages = names }) tables alike.plain sets c.first_sets.ensures made log does
    (languages_have_texts language_text_means ledger files (language_files names) tables sets stores listed (files_are_automata names) c.first_sets.ensures op names c.requires.count
    (names_have_tables files names tables listed) (no_steps limit) log made does)
    shown c.made_of.result prints
