-- A group is closed after a post.
use Rattle.std.proofs.Common.{subst, sym}
use Rattle.regex_build.specs.declared.token.Token.{Token}
use Rattle.regex_build.specs.declared.reading.Stage.TheVariants.{After}
use Rattle.regex_build.specs.Tokens.{closing}
use Rattle.regex_build.specs.Reading.{state_view, token_view, GivesAt}
use Rattle.regex_build.proofs.ReadingSteps.{closes_group}
use Rattle.regex_build.proofs.reading.Reading.after_token.Goals as goal

pub returns-in_ok-join-in-Closing : goal.returns-in_ok-join-in-Closing
returns-in_ok-join-in-Closing c =
    let s = state_view c.args.self.now in
    let n = state_view c.close.new.self in
    subst (λ (t : Token). GivesAt After c.args.sets.now s (token_view t) n c.close.result) (sym c.in-Closing.is)
    (closes_group c.args.sets.now s (state_view c.join-in-Closing.new.self) n c.close.result c.in_ok-join-in-Closing.ensures (c.close.ensures closing))
