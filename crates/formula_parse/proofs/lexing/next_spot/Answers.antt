use Rattle.std.proofs.Common.{◌<◌, length, arith}
use Rattle.std.proofs.lemmas.List.{take_rest}
use Rattle.formula_parse.specs.LexemeViews.{mode_view}
use Rattle.formula_parse.proofs.NextSteps.{next_within, next_token}
use Rattle.formula_parse.proofs.lexing.next_spot.Goals as goal

pub overflow_add-result : goal.overflow_add-result
overflow_add-result c =
    let less : c.blanks_end-at.result < length c.args.text.now = omega arith in
    let within = next_within (mode_view c.args.mode) c.args.text.now c.blanks_end-at.result c.in_ok-lexeme.lexeme less (rw take_rest at c.in_ok-lexeme.ensures) in
    omega (arith, within)

pub returns : goal.returns
returns c =
    let less : c.blanks_end-at.result < length c.args.text.now = omega arith in
    next_token
    (mode_view c.args.mode)
    c.args.text.now
    c.args.start
    c.blanks_end-at.result
    c.in_ok-lexeme.lexeme
    c.blanks_end-at.ensures.from
    less
    (c.blanks_end-at.ensures.spots (mode_view c.args.mode))
    (c.blanks_end-at.ensures.stops less)
    (rw take_rest at c.in_ok-lexeme.ensures)
