use Rattle.std.proofs.lemmas.Result.{err_from_is_err_and}
use Rattle.morph_words.proofs.ReadingSteps.{parsed_ok, parsed_fault, parsed_morphism}
use Rattle.morph_words.proofs.morphism.Morphism.parse.Goals as goal

pub returns-in_err-rules : goal.returns-in_err-rules
returns-in_err-rules c =
    let p = err_from_is_err_and c.from_residual.result c.from_residual.ensures.1 in
    rw (p.1, p.2) (parsed_fault c.args.text.now _ c.in_err-rules.ensures)

pub invariant_of-result : goal.invariant_of-result
invariant_of-result c = parsed_morphism c.args.text.now c.in_ok-rules.rules.entries c.in_ok-rules.ensures

pub returns : goal.returns
returns c = parsed_ok c.args.text.now c.in_ok-rules.rules.entries c.in_ok-rules.ensures
