use Rattle.std.proofs.Common.{◌∙◌}
use Rattle.determinise.proofs.TrimmedLemmas.{key_accepts-states}
use Rattle.determinise.proofs.trimmed.trimmed.Goals as goal

pub returns-in-Ok-clause-language : goal.returns-in-Ok-clause-language
returns-in-Ok-clause-language c word over = c.in-Ok.ensures.language word over ∙ key_accepts-states c.args.d.now word 0
