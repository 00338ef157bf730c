use Rattle.std.proofs.Common.{Err, refl, ap, ◌∙◌}
use Rattle.std.specs.Result.{IsErrOf}
use Rattle.digit_tuple.specs.Sets.{sizes_of}
use Rattle.digit_tuple.specs.declared.faults.OpFault.TheVariants.{Letters}
use Rattle.reg_steps.proofs.OneRegex.{too_large}
use Rattle.reg_steps.proofs.regex_step.regex_step.Goals as goal

pub returns-in-Err-Letters : goal.returns-in-Err-Letters
returns-in-Err-Letters c =
    let fault : IsErrOf c.build.result Letters = c.in-Err-Letters.is ∙ ap Err c.in-Err-Letters.field-0-is in
    ((c.next_number.ensures, too_large (sizes_of c.args.regex.now.sets) (c.build.ensures.letters.0 fault)), refl)
