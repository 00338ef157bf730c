use Rattle.language_steps.proofs.Readings.{IsLeft}
use Rattle.language_steps.proofs.reading.language_under.Given as goal

-- none before it has the name
abbrev pub invariant-loop-named : goal.invariant-loop-named
invariant-loop-named l = IsLeft l.languages l.name l.named-index
