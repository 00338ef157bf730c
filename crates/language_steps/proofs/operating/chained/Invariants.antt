use Rattle.language_steps.proofs.Chains.{IsChained}
use Rattle.language_steps.proofs.operating.chained.Given as goal

-- whatever the steps on the other languages give, those on all give
abbrev pub invariant-loop-name : goal.invariant-loop-name
invariant-loop-name l = IsChained l.op l.languages l.initial.made l.others l.initial.steps l.initial.made.sizes l.name-index l.made l.steps
