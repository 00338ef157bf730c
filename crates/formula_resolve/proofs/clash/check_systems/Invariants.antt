use Rattle.std.proofs.Common.{◌≡◌, take, drop}
use Rattle.formula_resolve.specs.Clashes.{first_clash, clash_after}
use Rattle.formula_resolve.specs.Firsts.{firsts_of}
use Rattle.formula_resolve.proofs.clash.check_systems.Given as goal

abbrev pub invariant-loop-occurrence : goal.invariant-loop-occurrence
invariant-loop-occurrence l = record {
  firsts : l.firsts ≡ firsts_of (take l.occurrence-index l.occurrences);
  clash : first_clash l.occurrences ≡ clash_after (take l.occurrence-index l.occurrences) (drop l.occurrence-index l.occurrences);
}
