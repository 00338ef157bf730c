use Rattle.std.proofs.Common.{◌≡◌, drop}
use Rattle.formula_resolve.specs.Arity.{first_misuse}
use Rattle.formula_resolve.proofs.arity.check_uses.Given as goal

abbrev pub invariant-loop-mention : goal.invariant-loop-mention
invariant-loop-mention l = first_misuse l.headers l.mentions ≡ first_misuse l.headers (drop l.mention-index l.mentions)
