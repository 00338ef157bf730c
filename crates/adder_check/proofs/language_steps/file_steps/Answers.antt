use Rattle.std.proofs.Common.{Bool, IfOk, sym, subst}
use Rattle.adder_check.specs.LanguageSteps.{IsOfFile}
use Rattle.adder_check.proofs.FileLemmas.{reversed_file}
use Rattle.adder_check.proofs.language_steps.file_steps.Goals as goal

pub returns-then-reversed-clause-file : goal.returns-then-reversed-clause-file
returns-then-reversed-clause-file c =
    subst (λ (b : Bool). IfOk c.reverse_step.result (IsOfFile c.args.listed.now b)) (sym c.if-reversed.true)
    (reversed_file c.args.listed.now c.in_ok-read.read c.read_step.new.steps c.reverse_step.new.steps c.reverse_step.result c.in_ok-read.ensures.step.made_is c.reverse_step.ensures)
