use Rattle.std.proofs.Common.{◌+◌, rules}
use Rattle.regex_build.proofs.BuildSteps.{width_by_marks, apart_by_marks, matches_accepted}
use Rattle.regex_build.proofs.WidthSteps.{size_within_width}
use Rattle.regex_build.proofs.build.build.Goals as goal

pub returns-in_err-stepped-clause-states : goal.returns-in_err-stepped-clause-states
returns-in_err-stepped-clause-states c h =
    let pattern = c.args.regex.now in
    apart_by_marks pattern.sets pattern.tree c.in_ok-table.table c.in_ok-table.ensures.sizes (c.args.limit.most + 1) c.in_ok-table.ensures.table
    (c.determinise.ensures.states (search rules))

pub returns-clause-language : goal.returns-clause-language
returns-clause-language c =
    let pattern = c.args.regex.now in
    matches_accepted pattern.sets pattern.tree c.in_ok-table.table c.in_ok-table.ensures.sizes c.in_ok-stepped.stepped.result c.in_ok-canonical.field-0
    c.in_ok-stepped.ensures.sizes c.in_ok-table.ensures.language c.in_ok-stepped.ensures.language c.in_ok-canonical.ensures.language

pub returns-clause-width : goal.returns-clause-width
returns-clause-width c =
    let pattern = c.args.regex.now in
    width_by_marks pattern.sets pattern.tree c.in_ok-table.table c.in_ok-table.ensures.sizes c.in_ok-stepped.stepped.width c.in_ok-table.ensures.table c.in_ok-stepped.ensures.width

pub returns-clause-size : goal.returns-clause-size
returns-clause-size c =
    size_within_width c.in_ok-table.table c.in_ok-stepped.stepped.result c.in_ok-canonical.field-0 c.in_ok-stepped.stepped.width
    c.in_ok-stepped.ensures.sizes c.in_ok-canonical.ensures.sizes c.in_ok-stepped.ensures.language c.in_ok-canonical.ensures.language c.in_ok-canonical.ensures.canonical c.in_ok-stepped.ensures.width
