use Rattle.std.proofs.Common.{sym, ap, ◌∙◌}
use Rattle.dfa_reading.specs.Systems.{digit_limit}
use Rattle.dfa_reading.proofs.SystemNames.{digit_limit-built, digit_limit-other}
use Rattle.dfa_reading.proofs.system_name.limit.Goals as goal

pub returns-in-Some : goal.returns-in-Some
returns-in-Some c =
    let is = c.in-Some.ensures in
    c.from.ensures ∙ c.digits.ensures ∙ sym (digit_limit-built c.in-Some.system.direction c.in-Some.system.kind c.as_bytes.result.now is) ∙ ap digit_limit c.as_bytes.ensures

pub returns-in-None : goal.returns-in-None
returns-in-None c = sym (digit_limit-other c.as_bytes.result.now c.in-None.ensures) ∙ ap digit_limit c.as_bytes.ensures
