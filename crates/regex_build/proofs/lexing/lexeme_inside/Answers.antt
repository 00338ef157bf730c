-- A byte that begins no number is a sign.
use Rattle.std.proofs.Common.{◌∙◌, ap, sym}
use Rattle.regex_build.specs.Reading.{token_view, lexeme_view}
use Rattle.regex_build.proofs.SpotSteps.{sign_inside}
use Rattle.regex_build.proofs.lexing.lexeme_inside.Goals as goal

pub returns-clause-is : goal.returns-clause-is
returns-clause-is c =
    ap lexeme_view c.short.ensures
    ∙ sign_inside c.args.first c.args.after_token.now (token_view c.sign_token.result) (sym c.if-contains.ensures) (sym c.if-leads_number.ensures) (c.sign_token.ensures.is c.args.after_token.now)
