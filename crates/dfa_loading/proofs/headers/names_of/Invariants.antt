use Rattle.std.proofs.Common.{◌≡◌, take}
use Rattle.dfa_loading.proofs.headers.names_of.Given as goal

abbrev pub invariant-loop-system : goal.invariant-loop-system
invariant-loop-system l = l.names.items ≡ take l.system-index l.systems
