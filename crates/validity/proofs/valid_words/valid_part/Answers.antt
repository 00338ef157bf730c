use Rattle.std.proofs.Common.{◌∙◌, map}
use Rattle.std.specs.Rc.{rc_value}
use Rattle.std.proofs.lemmas.Result.{IfOk-weaker}
use Rattle.validity.proofs.ValidityLemmas.{valid_part_flags}
use Rattle.validity.proofs.valid_words.valid_part.Goals as goal

pub returns-clause-language : goal.returns-clause-language
returns-clause-language c =
    IfOk-weaker c.among_valid.result _ _ (λ stepped h w over. h w over ∙ valid_part_flags c.args.a.now (map rc_value c.args.valid.now) w over) c.among_valid.ensures.language
