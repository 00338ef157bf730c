-- A byte that is no digit is a sign.
use Rattle.std.proofs.Common.{◌∙◌, ap, sym}
use Rattle.regex_build.specs.Reading.{token_view, lexeme_view}
use Rattle.regex_build.proofs.SpotSteps.{sign_outside}
use Rattle.regex_build.proofs.lexing.lexeme_outside.Goals as goal

pub returns-clause-is : goal.returns-clause-is
returns-clause-is c =
    ap lexeme_view c.short-2.ensures
    ∙ sign_outside c.args.first c.args.after_token.now (token_view c.sign_token.result) (sym c.if-contains.ensures) (c.sign_token.ensures.is c.args.after_token.now)
