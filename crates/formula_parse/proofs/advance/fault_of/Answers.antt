use Rattle.std.proofs.Common.{subst, Err}
use Rattle.formula_parse.specs.Made.{trees}
use Rattle.formula_parse.specs.Machine.{step}
use Rattle.formula_parse.specs.Stops.{Steps}
use Rattle.formula_parse.specs.declared.fault.Stop.{Stop}
use Rattle.formula_parse.proofs.AdvanceSteps.{advances_syntax, advances_letter, advances_depth}
use Rattle.formula_parse.proofs.advance.fault_of.Goals as goal

pub returns-in-Syntax : goal.returns-in-Syntax
returns-in-Syntax c = λ s t h. advances_syntax s t c.args.at (subst (λ (x : Stop). Steps s.position t (Err x) (step trees s t)) c.in-Syntax.is h)

pub returns-in-Letter : goal.returns-in-Letter
returns-in-Letter c =
    λ s t h. advances_letter s t c.args.at c.in-Letter.sign (subst (λ (x : Stop). Steps s.position t (Err x) (step trees s t)) c.in-Letter.is h)

pub returns-in-Depth : goal.returns-in-Depth
returns-in-Depth c = λ s t h. advances_depth s t c.args.at (subst (λ (x : Stop). Steps s.position t (Err x) (step trees s t)) c.in-Depth.is h)
