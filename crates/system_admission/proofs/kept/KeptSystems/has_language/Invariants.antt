use Rattle.std.specs.Prelude.{⊤}
use Rattle.system_admission.proofs.kept.KeptSystems.has_language.Given as goal

-- nothing is kept of those before it
abbrev pub invariant-loop-entry : goal.invariant-loop-entry
invariant-loop-entry l = ⊤
