-- A group is opened.
use Rattle.std.proofs.Common.{subst, sym}
use Rattle.regex_build.specs.declared.token.Token.{Token}
use Rattle.regex_build.specs.Reading.{state_view, token_view, Enters}
use Rattle.regex_build.proofs.reading.Reading.enter.Goals as goal

pub returns-in-Opening : goal.returns-in-Opening
returns-in-Opening c =
    subst (λ (t : Token). Enters c.args.sets.now (state_view c.args.self.now) (token_view t) (state_view c.open.new.self) c.open.result) (sym c.in-Opening.is) (c.open.ensures c.args.sets.now)
