-- A group in which nothing has come is closed.
use Rattle.std.proofs.Common.{subst, sym, ◌∙◌}
use Rattle.regex_build.specs.declared.token.Token.{Token}
use Rattle.regex_build.specs.declared.reading.Stage.TheVariants.{AtPost}
use Rattle.regex_build.specs.Tokens.{closing}
use Rattle.regex_build.specs.Reading.{state_view, token_view, GivesAt}
use Rattle.regex_build.proofs.ReadingSteps.{closes_empty}
use Rattle.regex_build.proofs.reading.Reading.at_post.Goals as goal

pub returns-then-is_fresh : goal.returns-then-is_fresh
returns-then-is_fresh c =
    let s = state_view c.args.self.now in
    let n = state_view c.close.new.self in
    subst (λ (t : Token). GivesAt AtPost c.args.sets.now s (token_view t) n c.close.result) (sym c.in-Closing.is)
    (closes_empty c.args.sets.now s (state_view c.push.new.self) n c.close.result (sym c.is_fresh.ensures ∙ c.if-is_fresh.true) c.in_ok-push-in-Closing.ensures (c.close.ensures closing))
