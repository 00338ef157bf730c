use Rattle.std.proofs.Common.{None}
use Rattle.std.specs.Prelude.{Result}
use Rattle.std.proofs.lemmas.Result.{err_from_is_err_and}
use Rattle.digit_tuple.specs.Deterministic.{Automaton}
use Rattle.digit_tuple.specs.declared.step_fault.StepFault.{StepFault}
use Rattle.language_steps.specs.LanguageSteps.{DoesPlainTable}
use Rattle.listing_commands.proofs.ListingReady.{plain_sizes}
use Rattle.listing_commands.proofs.ListingSteps.{lines_refused, place_refused, step_refused}
use Rattle.listing_commands.proofs.listing.answered_over_sets.Goals as goal

pub returns-in_err-refuse_place : goal.returns-in_err-refuse_place
returns-in_err-refuse_place c =
    let p = err_from_is_err_and c.from_residual.result c.from_residual.ensures.1 in
    rw (p.1, p.2) (place_refused (λ (r : Result Automaton StepFault). DoesPlainTable c.args.about.table.now.listed c.args.steps.now r c.args.steps.now) None c.args.sets.now c.args.about.asked.now c.in_err-refuse_place.field-0.0 c.in_err-refuse_place.ensures)

pub read_language-requires-clause-states : goal.read_language-requires-clause-states
read_language-requires-clause-states c = c.requires.table.states

pub read_language-requires-clause-given : goal.read_language-requires-clause-given
read_language-requires-clause-given c = c.requires.table.given

pub returns-in_err-language : goal.returns-in_err-language
returns-in_err-language c =
    let p = err_from_is_err_and c.from_residual-in_err-language.result c.from_residual-in_err-language.ensures.1 in
    rw (p.1, p.2)
    (step_refused (λ (r : Result Automaton StepFault). DoesPlainTable c.args.about.table.now.listed c.args.steps.now r c.read_language.new.steps) None c.args.sets.now c.args.about.asked.now.name c.args.about.asked.now.question c.in_ok-refuse_place.ensures c.in_err-language.field-0.0 c.in_err-language.ensures)

pub answer-requires-clause-sizes : goal.answer-requires-clause-sizes
answer-requires-clause-sizes c = plain_sizes c.args.about.table.now.listed c.args.sets.now c.requires.header c.in_ok-language.language c.args.steps.now c.read_language.new.steps c.in_ok-language.ensures

pub returns-in_err-answer : goal.returns-in_err-answer
returns-in_err-answer c =
    let p = err_from_is_err_and c.from_residual-in_err-answer.result c.from_residual-in_err-answer.ensures.1 in
    rw (p.1, p.2)
    (lines_refused (λ (r : Result Automaton StepFault). DoesPlainTable c.args.about.table.now.listed c.args.steps.now r c.read_language.new.steps) None c.args.sets.now c.args.about.asked.now.name c.args.about.asked.now.question c.in_ok-refuse_place.ensures c.in_ok-language.language c.in_ok-language.ensures c.in_err-answer.field-0.0 c.in_err-answer.ensures)

pub returns : goal.returns
returns c = record { on = c.in_ok-refuse_place.ensures; read = c.in_ok-language.language; does = c.in_ok-language.ensures; answers = c.in_ok-answer.ensures }
