use Rattle.std.proofs.Common.{sym, ap, ◌∙◌, subst}
use Rattle.dfa_reading.specs.HeaderViews.{header_view}
use Rattle.dfa_reading.specs.Headers.{Header}
use Rattle.language_steps.specs.Tables.{is_over_sets}
use Rattle.listing_commands.specs.ListingMakes.{AnswersBelow}
use Rattle.listing_commands.proofs.ListingReady.{plain_table}
use Rattle.listing_commands.proofs.listing.answered.Goals as goal

pub answered_over_sets-requires-clause-header : goal.answered_over_sets-requires-clause-header
answered_over_sets-requires-clause-header c = sym c.header.ensures ∙ ap header_view c.in-Sets.is

pub answered_over_sets-requires-clause-table : goal.answered_over_sets-requires-clause-table
answered_over_sets-requires-clause-table c = plain_table c.args.about.table.now _ (sym c.header.ensures ∙ ap header_view c.in-Sets.is) c.requires.is_table

pub returns-in-Sets : goal.returns-in-Sets
returns-in-Sets c =
    let header = sym c.header.ensures ∙ ap header_view c.in-Sets.is in
    subst (λ (h : Header). AnswersBelow h c.args.systems.now c.args.steps.now c.args.about.table.now c.args.about.asked.now.name c.args.about.asked.now.question c.answered_over_sets.result c.answered_over_sets.new.steps) (sym header) c.answered_over_sets.ensures

pub answered_under-requires-clause-readable : goal.answered_under-requires-clause-readable
answered_under-requires-clause-readable c =
    let header = sym c.header.ensures ∙ ap header_view c.in-Systems.is in
    c.requires.readable (ap is_over_sets header)

pub returns-in-Systems : goal.returns-in-Systems
returns-in-Systems c =
    let header = sym c.header.ensures ∙ ap header_view c.in-Systems.is in
    subst (λ (h : Header). AnswersBelow h c.args.systems.now c.args.steps.now c.args.about.table.now c.args.about.asked.now.name c.args.about.asked.now.question c.answered_under.result c.answered_under.new.steps) (sym header) c.answered_under.ensures

pub answered_under-requires-in-Truth-clause-readable : goal.answered_under-requires-in-Truth-clause-readable
answered_under-requires-in-Truth-clause-readable c =
    let header = sym c.header.ensures ∙ ap header_view c.in-Truth.is in
    c.requires.readable (ap is_over_sets header)

pub returns-in-Truth : goal.returns-in-Truth
returns-in-Truth c =
    let header = sym c.header.ensures ∙ ap header_view c.in-Truth.is in
    subst (λ (h : Header). AnswersBelow h c.args.systems.now c.args.steps.now c.args.about.table.now c.args.about.asked.now.name c.args.about.asked.now.question c.answered_under-in-Truth.result c.answered_under-in-Truth.new.steps) (sym header) c.answered_under-in-Truth.ensures
